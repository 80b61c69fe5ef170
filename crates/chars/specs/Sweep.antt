-- Follows the code; need not be believed. A sweep over columns: whether all of them hold what they may, told by the characters as they stand, before they
-- are read in capitals.
use Prim.Native.Nat.{ℕ, zero, suc, ◌+◌, ◌-◌, ◌<◌}
use Rattle.std.specs.Prelude.{◌≡◌, Bool, true, false, ◌&&◌, ◌⊎◌, List, eqb, leb, length, get_or, drop, slice_range, if◌then◌else◌}
use Rattle.std.proofs.Math.Path.{refl}
use Rattle.std.proofs.Common.{sym, ap, ◌∙◌, inl, inr, ne_eqb, leb-true, leb-false, get_or-drop}
use Rattle.std.proofs.lemmas.List.{get_or-take}
use Rattle.std.proofs.lemmas.Bool.{false≢true}
use Rattle.std.proofs.Math.Nat.{add-zero}
use Rattle.std.proofs.Common.{add-one}
use native.Mathlib.Omega.{arith}
use Rattle.std.proofs.Math.ListN.{get_or-eq_default}
use Rattle.laws.specs.ChoiceLaws.{within}
use Rattle.laws.specs.Finding.{Finding, fine, broken, or_else, first_of}
use Rattle.chars.specs.Characters.{is_permitted, capital_of, capitals, is_blank, is_digit, is_letter, is_of_name}
use Rattle.chars.specs.CharacterLaws.{capital_at, capital_is_digit, capital_permitted}
use Rattle.chars.specs.Columns.{width_of, column_test, allowed_test, every_column, is_fine}
use Rattle.chars.specs.ColumnLaws.{every_anything}
use Rattle.chars.specs.declared.columns.Allowed.{Allowed}
use Rattle.chars.specs.declared.columns.Allowed.TheVariants.{Anything, Permitted, Blanks, Digits, OfNames}

-- Whether each of n characters, from a place on, passes a test.
unfoldable pub all_pass : (ℕ → Bool) → List ℕ → ℕ → ℕ → Bool
all_pass test line at zero = true
all_pass test line at (suc n) = test (get_or line at 0) && all_pass test line (at + 1) n

-- What a call answers of a byte is what a test tells of it.
abbrev pub Tells : (ℕ → Bool → Type 0) → (ℕ → Bool) → Type 0
Tells answers test = (c : ℕ) (passes : Bool) → c < 256 → answers c passes → passes ≡ test c

-- Whether a character is what a column may hold.
abbrev pub may_hold : Allowed → ℕ → Bool
may_hold Anything c = true
may_hold Permitted c = is_permitted c
may_hold Blanks c = is_blank c
may_hold Digits c = is_digit c
may_hold OfNames c = is_of_name c

-- The same of a character as it stands: a small letter and its capital are both permitted, and both neither blank nor a digit.
abbrev pub may_stand : Allowed → ℕ → Bool
may_stand Anything c = true
may_stand Permitted c = is_permitted c
may_stand Blanks c = is_blank c
may_stand Digits c = is_digit c
may_stand OfNames c = is_of_name (capital_of c)

-- ---- a sweep's steps
and_assoc : (a b c : Bool) → a && (b && c) ≡ (a && b) && c
and_assoc true b c = refl
and_assoc false b c = refl

and_true : (a : Bool) → a && true ≡ a
and_true true = refl
and_true false = refl

and_false : (a : Bool) → a && false ≡ false
and_false true = refl
and_false false = refl

module _ (test : ℕ → Bool) (line : List ℕ) where
  pub none_left : (at : ℕ) → all_pass test line at 0 ≡ true
  unfolding all_pass
  none_left at = refl

  pub one_more : (at n : ℕ) → all_pass test line at (suc n) ≡ all_pass test line at n && test (get_or line (at + n) 0)
  unfolding all_pass
  one_more at zero = rw add-zero (and_true _)
  one_more at (suc n) =
      let place : at + suc n ≡ at + 1 + n = omega arith in
      rw (one_more (at + 1) n, place) (and_assoc (test (get_or line at 0)) (all_pass test line (at + 1) n) (test (get_or line (at + 1 + n) 0)))

  -- A sweep over the places from..to that has passed n of them goes on by the next.
  pub swept_more : (from to n : ℕ) → n < to - from
      → all_pass test line from (n + 1) ≡ all_pass test line from n && test (get_or (slice_range line from to) n 0)
  swept_more from to n h = rw (get_or-take (to - from) (drop from line) n 0 h, get_or-drop from line n 0, add-one) (one_more from n)

  -- After the line's end a character is told as 0: places that are not all in the line pass a test that 0 fails only where there are none of them.
  pub behind_the_end : (from to : ℕ) → test 0 ≡ false → (to < from) ⊎ (length line < to) → leb to from ≡ all_pass test line from (to - from)
  behind_the_end from to fails h = by (leb to from) refl where
    by : (none : Bool) → leb to from ≡ none → none ≡ all_pass test line from (to - from)
    by true e =
        let above = leb-true to from e in
        let width : to - from ≡ 0 = omega arith in
        sym (rw width (none_left from))
    by false e =
        let below = leb-false to from e in
        let width : to - from ≡ suc (to - 1 - from) = omega arith in
        let short : length line < to = elim h [ inl k ↦ absurd (omega arith) | inr k ↦ k ] in
        let last : get_or line (from + (to - 1 - from)) 0 ≡ 0 = get_or-eq_default line 0 (omega arith) in
        sym (rw width (one_more from (to - 1 - from) ∙ rw (last, fails) (and_false (all_pass test line from (to - 1 - from)))))

-- ---- what the columns of a field say is what a sweep says
-- A finding that is told to be fine is so.
pub told_fine : (found : Finding) → is_fine found ≡ true → found ≡ fine
told_fine fine e = refl
told_fine (broken column number) e = absurd (false≢true e)

is_fine_lem : (good : Bool) (column number : ℕ) → is_fine (if good then fine else broken column number) ≡ good
is_fine_lem true column number = refl
is_fine_lem false column number = refl

holds : (allowed : Allowed) (line : List ℕ) (at : ℕ) → is_fine (allowed_test allowed line at) ≡ may_hold allowed (get_or line at 0)
unfolding column_test
holds Anything line at = refl
holds Permitted line at = is_fine_lem (is_permitted (get_or line at 0)) (at + 1) 3
holds Blanks line at = is_fine_lem (is_blank (get_or line at 0)) (at + 1) 31
holds Digits line at = is_fine_lem (is_digit (get_or line at 0)) (at + 1) 30
holds OfNames line at = is_fine_lem (is_of_name (get_or line at 0)) (at + 1) 54

or_else_lem : (found next : Finding) → is_fine (or_else found next) ≡ is_fine found && is_fine next
or_else_lem fine next = refl
or_else_lem (broken column number) next = refl

first_passes : (allowed : Allowed) (line : List ℕ) (n at : ℕ) → is_fine (first_of (allowed_test allowed line) at n) ≡ all_pass (may_hold allowed) line at n
unfolding first_of all_pass
first_passes allowed line zero at = refl
first_passes allowed line (suc n) at =
    or_else_lem (allowed_test allowed line at) (first_of (allowed_test allowed line) (at + 1) n)
    ∙ rw (holds allowed line at, first_passes allowed line n (at + 1))

pub every_passes : (allowed : Allowed) (line : List ℕ) (first last : ℕ)
    → is_fine (every_column allowed line first last) ≡ all_pass (may_hold allowed) line (first - 1) (width_of first last)
unfolding every_column
every_passes allowed line first last = first_passes allowed line (width_of first last) (first - 1)

-- ---- characters as they stand, and in capitals
-- A test that takes a small letter as its capital, swept over the line as it stands, says what it says of the line in capitals.
pub as_it_stands : (test given : ℕ → Bool) → ((c : ℕ) → test (capital_of c) ≡ given c)
    → (line : List ℕ) (n at : ℕ) → all_pass test (capitals line) at n ≡ all_pass given line at n
unfolding all_pass
as_it_stands test given same line zero at = refl
as_it_stands test given same line (suc n) at = rw (capital_at line at, same (get_or line at 0), as_it_stands test given same line n (at + 1))

capital_is_blank : (c : ℕ) → is_blank (capital_of c) ≡ is_blank c
unfolding is_blank capital_of
capital_is_blank c = by (leb 97 c && leb c 122) refl where
  by : (small : Bool) → leb 97 c && leb c 122 ≡ small → eqb (if small then c - 32 else c) 0x20 ≡ eqb c 0x20
  by true e =
      let w = within 97 c 122 e in
      ne_eqb (c - 32) 0x20 (λ s. omega arith) ∙ sym (ne_eqb c 0x20 (λ s. omega arith))
  by false e = refl

stands : (allowed : Allowed) (c : ℕ) → may_hold allowed (capital_of c) ≡ may_stand allowed c
stands Anything c = refl
stands Permitted c = capital_permitted c
stands Blanks c = capital_is_blank c
stands Digits c = capital_is_digit c
stands OfNames c = refl

-- ---- the sweeps of the code
-- Whether every column holds what it may is told by the characters as they stand.
pub sweep : (allowed : Allowed) (line : List ℕ) (first last : ℕ)
    → is_fine (every_column allowed (capitals line) first last) ≡ all_pass (may_stand allowed) line (first - 1) (last - (first - 1))
sweep allowed line first last =
    every_passes allowed (capitals line) first last
    ∙ as_it_stands (may_hold allowed) (may_stand allowed) (stands allowed) line (width_of first last) (first - 1)

pub anything_sweep : (line : List ℕ) (first last : ℕ) → is_fine (every_column Anything line first last) ≡ true
anything_sweep line first last = ap is_fine (every_anything line first last)

-- No character, told as 0, is one of those that are looked for.
pub none_at_0 : (may_stand Permitted 0 ≡ false) × (may_stand Blanks 0 ≡ false) × (may_stand Digits 0 ≡ false) × (may_stand OfNames 0 ≡ false)
unfolding is_permitted is_blank is_digit is_of_name is_letter capital_of
none_at_0 = (refl, refl, refl, refl)
