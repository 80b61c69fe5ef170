-- Laws: what later layers cite of text, of patterns and of addresses.
use Rattle.std.specs.Prelude.{ℕ, ◌+◌, ◌-◌, ◌<◌, ◌≤◌, zero, suc, ◌≡◌, refl, Bool, true, false, not, ◌||◌, List, [], ◌∷◌, eqb, length, get_or, drop, if◌then◌else◌, Option, Some, None}
use Rattle.std.specs.List.{list_all, enumerate_from}
use Rattle.std.proofs.Math.Path.{sym}
use Rattle.std.proofs.Common.{ap, ap₂, ◌∙◌, add-zero, not-suc-le-zero, arith, eqb-true, eq-eqb, ne_eqb}
use Rattle.std.proofs.Math.Numerals.{add-one}
use Rattle.std.proofs.Math.Seq.{drop-drop, get_or-drop}
use Rattle.laws.specs.ChoiceLaws.{both_hold}
use Rattle.laws.specs.Finding.{Finding, fine, broken, or_else}
use Rattle.laws.specs.Labelled.{Labelled, fine_labelled}
use Rattle.laws.specs.Spelling.{bytes}
use Rattle.codes.specs.Codes.{region_of}
use Rattle.codes.specs.declared.Region.{Region}
use Rattle.codes.specs.declared.Region.TheVariants.{State, Province}
use Rattle.chars.specs.Agree.{Agree, agree_from, every_alike}
use Rattle.chars.specs.Characters.{is_blank}
use Rattle.chars.specs.Columns.{allowed_test, every_column, is_fine, unless}
use Rattle.chars.specs.ColumnLaws.{column_says, unless_labelled, fine_columns, columns_fine, blank_column}
use Rattle.chars.specs.declared.columns.Allowed.TheVariants.{Blanks}
use Rattle.text.specs.Address.{region_in, state_test, zip_test, extension_test}
use Rattle.text.specs.Text.{all_blank, is_indented, text_test, required_text, optional_text, is_asked, reads_as, has_pattern, entity_test}

-- ---- a pattern, read symbol by symbol, each with its place
pub reads_all : (pattern text : List ℕ) (n : ℕ) → list_all (λ (p : ℕ × ℕ). is_asked p.1 (get_or text p.0 0)) (enumerate_from n pattern) ≡ reads_as (drop n text) pattern
unfolding reads_as
reads_all [] text n = refl
reads_all (symbol ∷ symbols) text n =
    rw (get_or-drop n text 0 0, add-zero n, drop-drop 1 n text, add-one n, reads_all symbols text (suc n))

-- ---- a pattern in two lines that agree where it stands
reads_alike : (pattern u v : List ℕ) → Agree u v 1 (length pattern) → reads_as u pattern ≡ reads_as v pattern
unfolding reads_as
reads_alike [] u v agree = refl
reads_alike (symbol ∷ symbols) u v agree =
    let rest = agree_from u v 2 (length symbols) (λ at low high. agree at (omega arith) (omega arith)) in
    rw (agree 0 (omega arith) (omega arith), reads_alike symbols (drop 1 u) (drop 1 v) rest)

pub pattern_alike : (pattern u v : List ℕ) (first : ℕ) → Agree u v first (first - 1 + length pattern) → has_pattern u first pattern ≡ has_pattern v first pattern
unfolding has_pattern
pattern_alike pattern u v first agree =
    reads_alike pattern (drop (first - 1) u) (drop (first - 1) v) (agree_from u v first (length pattern) agree)

-- ---- a text, a state, a ZIP and its extension likewise
pub blank_alike : (u v : List ℕ) (first last : ℕ) → Agree u v first last → all_blank u first last ≡ all_blank v first last
unfolding all_blank
blank_alike u v first last agree = ap is_fine (every_alike Blanks u v first last agree)

pub indented_alike : (u v : List ℕ) (first : ℕ) → Agree u v first (first - 1 + 1) → is_indented u first ≡ is_indented v first
unfolding is_indented
indented_alike u v first agree = ap is_blank (agree (first - 1) (omega arith) (omega arith))

pub region_alike : (u v : List ℕ) (first : ℕ) → Agree u v first (first - 1 + 2) → region_in u first ≡ region_in v first
region_alike u v first agree =
    ap₂ region_of (agree (first - 1) (omega arith) (omega arith)) (agree (first - 1 + 1) (omega arith) (omega arith))

pub zip_alike : (region : Option Region) (u v : List ℕ) (first : ℕ) → Agree u v first (first - 1 + 5) → zip_test region u first ≡ zip_test region v first
unfolding bytes
zip_alike (Some State) u v first agree = rw (pattern_alike (bytes "ddddd") u v first agree)
zip_alike (Some Province) u v first agree = rw (pattern_alike (bytes "ldl d") u v first agree)
zip_alike None u v first agree = refl

pub extension_alike : (region : Option Region) (u v : List ℕ) (first : ℕ) → Agree u v first (first - 1 + 5) → extension_test region u first ≡ extension_test region v first
unfolding bytes
extension_alike (Some State) u v first agree =
    rw (pattern_alike (bytes "     ") u v first agree, pattern_alike (bytes "-dddd") u v first agree)
extension_alike (Some Province) u v first agree = rw (pattern_alike (bytes "ld   ") u v first agree)
extension_alike None u v first agree = refl

-- ---- a pattern whose characters stand for themselves
-- None of them is a small letter, so none is d or l.
abbrev pub Fixed : List ℕ → Type 0
Fixed pattern = (k : ℕ) → k < length pattern → get_or pattern k 0 < 97

asks_itself : (symbol c : ℕ) → symbol < 97 → is_asked symbol c ≡ eqb c symbol
unfolding is_asked
asks_itself symbol c h = rw (ne_eqb symbol 100 (λ e. omega arith), ne_eqb symbol 108 (λ e. omega arith))

reads_fixed : (pattern text : List ℕ) → Fixed pattern → reads_as text pattern ≡ true → (k : ℕ) → k < length pattern → get_or text k 0 ≡ get_or pattern k 0
unfolding reads_as
reads_fixed [] text fixed e k h = absurd (not-suc-le-zero h)
reads_fixed (symbol ∷ symbols) text fixed e zero h =
    eqb-true (get_or text 0 0) symbol (sym (asks_itself symbol (get_or text 0 0) (fixed 0 (omega arith))) ∙ (both_hold (is_asked symbol (get_or text 0 0)) (reads_as (drop 1 text) symbols) e).0)
reads_fixed (symbol ∷ symbols) text fixed e (suc k) h =
    let behind = (both_hold (is_asked symbol (get_or text 0 0)) (reads_as (drop 1 text) symbols) e).1 in
    let rest = reads_fixed symbols (drop 1 text) (λ j l. fixed (suc j) (omega arith)) behind k (omega arith) in
    let place : 1 + k ≡ suc k = omega arith in
    rw (← place, ← get_or-drop 1 text k 0) rest

fixed_reads : (pattern text : List ℕ) → Fixed pattern → ((k : ℕ) → k < length pattern → get_or text k 0 ≡ get_or pattern k 0) → reads_as text pattern ≡ true
unfolding reads_as
fixed_reads [] text fixed same = refl
fixed_reads (symbol ∷ symbols) text fixed same =
    rw (asks_itself symbol (get_or text 0 0) (fixed 0 (omega arith)), eq-eqb (get_or text 0 0) symbol (same 0 (omega arith)))
    (fixed_reads symbols (drop 1 text) (λ j l. fixed (suc j) (omega arith))
    (λ k h. let place : 1 + k ≡ suc k = omega arith in rw (get_or-drop 1 text k 0, place) (same (suc k) (omega arith))))

-- The field reads as such a pattern exactly if its columns hold the pattern's characters.
module _ (line : List ℕ) (first : ℕ) (pattern : List ℕ) (fixed : Fixed pattern) where
  pub pattern_columns : has_pattern line first pattern ≡ true → (k : ℕ) → k < length pattern → get_or line (first - 1 + k) 0 ≡ get_or pattern k 0
  unfolding has_pattern
  pattern_columns e k h = sym (get_or-drop (first - 1) line k 0) ∙ reads_fixed pattern (drop (first - 1) line) fixed e k h

  pub columns_pattern : ((k : ℕ) → k < length pattern → get_or line (first - 1 + k) 0 ≡ get_or pattern k 0) → has_pattern line first pattern ≡ true
  unfolding has_pattern
  columns_pattern same = fixed_reads pattern (drop (first - 1) line) fixed (λ k h. get_or-drop (first - 1) line k 0 ∙ same k h)

-- ---- a field of blanks
pub all_blank_says : (line : List ℕ) (first last : ℕ) → all_blank line first last ≡ is_fine (every_column Blanks line first last)
unfolding all_blank
all_blank_says line first last = refl

not_broken : (column number : ℕ) → broken column number ≡ fine → ⊥
not_broken column number e = let z : ◌≡◌ {A = ℕ} 0 1 = cc in omega arith

is_blank_lem : (line : List ℕ) (at : ℕ) → allowed_test Blanks line at ≡ fine → is_blank (get_or line at 0) ≡ true
is_blank_lem line at holds = by (is_blank (get_or line at 0)) refl where
  by : (blank : Bool) → is_blank (get_or line at 0) ≡ blank → blank ≡ true
  by true e = refl
  by false e = absurd (not_broken (at + 1) 31 (sym (column_says is_blank 31 line at ∙ rw e) ∙ holds))

-- A field of no columns is all blank; of any other, the first column is blank where all are.
pub blank_of_none : (line : List ℕ) (first last : ℕ) → last ≤ first - 1 → all_blank line first last ≡ true
unfolding all_blank
blank_of_none line first last none = ap is_fine (columns_fine Blanks line first last (λ k low high. absurd (omega arith)))

pub blank_or_indented : (line : List ℕ) (first last : ℕ) → first - 1 < last → all_blank line first last || is_indented line first ≡ is_indented line first
unfolding all_blank is_indented
blank_or_indented line first last some = by (every_column Blanks line first last) refl where
  by : (found : Finding) → every_column Blanks line first last ≡ found → is_fine found || is_indented line first ≡ is_indented line first
  by fine e = sym (is_blank_lem line (first - 1) (fine_columns Blanks line first last e (first - 1) (omega arith) some))
  by (broken column number) e = refl

-- Text, asked first whether there is any from the first column on.
pub begun_first : (missing : Finding) (line : List ℕ) (first last : ℕ)
    → text_test missing line first last
    ≡ (if not (all_blank line first last || is_indented line first) then fine else if all_blank line first last then missing else broken first 33)
unfolding text_test
begun_first missing line first last = by (all_blank line first last) (is_indented line first) where
  by : (blank indented : Bool)
      → (if blank then missing else if indented then broken first 33 else fine)
      ≡ (if not (blank || indented) then fine else if blank then missing else broken first 33)
  by true indented = refl
  by false true = refl
  by false false = refl

-- A field whose first column holds ink is not blank, and not indented.
not_blank : (line : List ℕ) (at : ℕ) → (get_or line at 0 ≡ 0x20 → ⊥) → is_blank (get_or line at 0) ≡ false
not_blank line at ink = by (is_blank (get_or line at 0)) refl where
  by : (blank : Bool) → is_blank (get_or line at 0) ≡ blank → blank ≡ false
  by true e = absurd (ink (blank_column line at (column_says is_blank 31 line at ∙ rw e)))
  by false e = refl

not_fine : (found : Finding) → (found ≡ fine → ⊥) → is_fine found ≡ false
not_fine fine not = absurd (not refl)
not_fine (broken column number) not = refl

module _ (line : List ℕ) (first last : ℕ) (ink : get_or line (first - 1) 0 ≡ 0x20 → ⊥) where
  pub ink_not_blank : first - 1 < last → all_blank line first last ≡ false
  unfolding all_blank
  ink_not_blank h = not_fine (every_column Blanks line first last) (λ e. ink (blank_column line (first - 1) (fine_columns Blanks line first last e (first - 1) (omega arith) h)))

  pub ink_not_indented : is_indented line first ≡ false
  unfolding is_indented
  ink_not_indented = not_blank line (first - 1) ink

-- ---- required and optional text, edit by edit
required_tests : (blank indented : Bool) (first : ℕ)
    → (if blank then broken first 32 else if indented then broken first 33 else fine) ≡ or_else (unless (not blank) first 32) (unless (not indented) first 33)
required_tests true indented first = refl
required_tests false true first = refl
required_tests false false first = refl

optional_tests : (blank indented : Bool) (first : ℕ)
    → (if blank then fine else if indented then broken first 33 else fine) ≡ unless (blank || not indented) first 33
optional_tests true indented first = refl
optional_tests false true first = refl
optional_tests false false first = refl

module _ (line : List ℕ) (first last : ℕ) where
  -- "Required text: all blank 32; first column blank otherwise 33."
  pub required_parts : required_text line first last ≡ or_else (unless (not (all_blank line first last)) first 32) (unless (not (is_indented line first)) first 33)
  unfolding text_test
  required_parts = required_tests (all_blank line first last) (is_indented line first) first

  -- "Optional text: all blank passes; first column blank otherwise 33."
  pub optional_parts : optional_text line first last ≡ unless (all_blank line first last || not (is_indented line first)) first 33
  unfolding text_test
  optional_parts = optional_tests (all_blank line first last) (is_indented line first) first

-- ---- the labels of the refusals
pub entity_labelled : (code line : List ℕ) (first : ℕ) → Labelled 34 first first (entity_test code line first)
entity_labelled code line first = search unless_labelled

pub state_labelled : (region : Option Region) (first : ℕ) → Labelled 35 first first (state_test region first)
state_labelled (Some region) first = search fine_labelled
state_labelled None first = unless_labelled false first 35

pub zip_labelled : (region : Option Region) (line : List ℕ) (first : ℕ) → Labelled 36 first first (zip_test region line first)
zip_labelled (Some State) line first = search unless_labelled
zip_labelled (Some Province) line first = search unless_labelled
zip_labelled None line first = search fine_labelled

pub extension_labelled : (region : Option Region) (line : List ℕ) (first : ℕ) → Labelled 37 first first (extension_test region line first)
extension_labelled (Some State) line first = search unless_labelled
extension_labelled (Some Province) line first = search unless_labelled
extension_labelled None line first = search fine_labelled
