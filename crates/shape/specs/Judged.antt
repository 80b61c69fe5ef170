-- Laws: demand 3, one line, in every format: two lines that are alike but in hidden columns break the same edit.
use Rattle.std.specs.Prelude.{ℕ, zero, suc, ◌+◌, Bool, true, false, ◌&&◌, List, ◌≡◌, refl, eqb, length, get_or}
use Rattle.std.proofs.lemmas.Bool.{false≢true}
use Rattle.std.proofs.Common.{sym, ap, ap₂, ◌∙◌, arith, eqb-true, eq-eqb}
use Rattle.laws.specs.ChoiceLaws.{both_hold}
use Rattle.laws.specs.Finding.{or_else, Reading, value, refused, finding_in}
use Rattle.lines.specs.Cutting.{cutting}
use Rattle.lines.specs.Lines.{Line}
use Rattle.lines.specs.CutOutcomes.{no_end, takes, taken_is_size}
use Rattle.chars.specs.Characters.{capital_of, capitals}
use Rattle.chars.specs.CharacterLaws.{capital_at, capital_permitted}
use Rattle.edits.specs.Counted.{without_sums}
use Rattle.edits.specs.Edit.{first_broken}
use Rattle.edits.specs.declared.Context.{Context}
use Rattle.edits.specs.declared.Seen.{Seen}
use Rattle.shape.specs.Blot.{blot_at, employee_alike, columns_alike, text_alike, ending_alike}
use Rattle.shape.specs.Hidden.{of_employee, of_employer, of_note, employee_in, blot_from, is_employee, is_employer, is_note, employee_on, hides_on, blot, MeetsOwn}
use Rattle.shape.specs.Lawful.{Lawful}
use Rattle.shape.specs.Shape.{Shape, said_on, seen_of, seen_by, line_edits_by, edits_among_by}
use Rattle.shape.specs.Theorems.{line_parts, cut_breaks}
use Rattle.shape.specs.Twins.{Alike, Permits, Twins}
use Rattle.shape.specs.declared.Note.{Note}
use Rattle.shape.specs.declared.Said.{Said}
use Rattle.shape.specs.declared.Said.TheVariants.{OfA, OfE, OfS, OfT, OfF, OfNote, OfNone}

-- ---- what a record of an employee says
pub employee_says : (said : Said) → of_employee said ≡ true → said ≡ OfS (employee_in said)
employee_says (OfA quarter) e = absurd (false≢true e)
employee_says (OfE employer) e = absurd (false≢true e)
employee_says (OfS employee) e = refl
employee_says OfT e = absurd (false≢true e)
employee_says OfF e = absurd (false≢true e)
employee_says (OfNote note) e = absurd (false≢true e)
employee_says OfNone e = absurd (false≢true e)

-- Two lines of n characters with the same end are cut alike.
cut_alike : (n : ℕ) (line line' : Line) → length line.text ≡ n → length line'.text ≡ n → line.ending ≡ line'.ending
    → finding_in (cutting n line) ≡ finding_in (cutting n line')
cut_alike n line line' long long' same = at (length line.ending) refl where
  at : (k : ℕ) → length line.ending ≡ k → finding_in (cutting n line) ≡ finding_in (cutting n line')
  at zero e = rw (no_end n line long e, no_end n line' long' (ap length (sym same) ∙ e))
  at (suc k) e =
      let e' : length line'.ending ≡ suc k = ap length (sym same) ∙ e in
      rw (takes n line long (omega arith), takes n line' long' (omega arith))

-- Texts that are the same blotted are alike, read in capitals.
pub blot_alike : (hides : ℕ → Bool) (s t : List ℕ) → blot_from hides 1 s ≡ blot_from hides 1 t → Alike hides (capitals s) (capitals t)
blot_alike hides s t e at p =
    let q : hides (1 + at) ≡ false = let o : 1 + at ≡ at + 1 = omega arith in rw o p in
    capital_at s at ∙ ap capital_of (sym (blot_at hides s 1 at q) ∙ ap (λ (l : List ℕ). get_or l at 0) e ∙ blot_at hides t 1 at q) ∙ sym (capital_at t at)

module _ (s : Shape) where
  employee_line : (line : Line) → is_employee s line ≡ true → (length line.text ≡ s.length) × (of_employee (said_on s line) ≡ true)
  employee_line line is =
      let both = both_hold (eqb (length line.text) s.length) (of_employee (said_on s line)) is in
      (eqb-true _ _ both.0, both.1)

  -- What an S record says; and a line as long as the format's that says so is one.
  pub employee_said : (line : Line) → is_employee s line ≡ true → said_on s line ≡ OfS (employee_on s line)
  employee_said line is = employee_says (said_on s line) (employee_line line is).1

  pub said_employee : (line : Line) → length line.text ≡ s.length → of_employee (said_on s line) ≡ true → is_employee s line ≡ true
  said_employee line long is = rw (eq-eqb (length line.text) s.length long, is)

  pub said_employer : (line : Line) → length line.text ≡ s.length → of_employer (said_on s line) ≡ true → is_employer s line ≡ true
  said_employer line long is = rw (eq-eqb (length line.text) s.length long, is)

  -- Only permitted characters stand in the hidden columns, in capitals too.
  permits : (line : Line) → MeetsOwn s line → Permits (hides_on s line) (capitals line.text)
  permits line meets at e = rw (capital_at line.text at, capital_permitted (get_or line.text at 0)) (meets.permitted at e)

  permits_as : (hides other : ℕ → Bool) (text : List ℕ) → ((c : ℕ) → hides c ≡ other c) → Permits other text → Permits hides text
  permits_as hides other text same holds at e = holds at (sym (same (at + 1)) ∙ e)

  -- ---- a line of no employee asks nothing of the identity numbers
  asks_none : (earlier under under' : ℕ → Bool) (said : Said) → of_employee said ≡ false → seen_of earlier under said ≡ seen_of earlier under' said
  asks_none earlier under under' (OfA q) none = refl
  asks_none earlier under under' (OfE e) none = refl
  asks_none earlier under under' (OfS e) none = absurd (false≢true (sym none))
  asks_none earlier under under' OfT none = refl
  asks_none earlier under under' OfF none = refl
  asks_none earlier under under' (OfNote note) none = refl
  asks_none earlier under under' OfNone none = refl

  not_employee : (long is : Bool) → long && is ≡ false → long ≡ true → is ≡ false
  not_employee long is e h = rw h at e

  pub other_judged_by : (here : Context) (earlier under under' : ℕ → Bool) (line : Line) → is_employee s line ≡ false
      → first_broken (edits_among_by s here earlier under line) ≡ first_broken (edits_among_by s here earlier under' line)
  other_judged_by here earlier under under' line other = at (cutting s.length line) refl where
    at : (r : Reading) → cutting s.length line ≡ r → first_broken (edits_among_by s here earlier under line) ≡ first_broken (edits_among_by s here earlier under' line)
    at (refused column number) e = cut_breaks s here _ line column number e ∙ sym (cut_breaks s here _ line column number e)
    at (value taken) e =
        let long = eq-eqb (length line.text) s.length (taken_is_size s.length taken line e).0 in
        ap (λ (seen : Seen). first_broken (line_edits_by s here seen line))
        (asks_none earlier under under' (said_on s line) (not_employee (eqb (length line.text) s.length) (of_employee (said_on s line)) other long))

-- ---- a note in contexts that are alike but for the sums
note_says : (said : Said) → of_note said ≡ true → (note : Note) × (said ≡ OfNote note)
note_says (OfA quarter) e = absurd (false≢true e)
note_says (OfE employer) e = absurd (false≢true e)
note_says (OfS employee) e = absurd (false≢true e)
note_says OfT e = absurd (false≢true e)
note_says OfF e = absurd (false≢true e)
note_says (OfNote note) e = (note, refl)
note_says OfNone e = absurd (false≢true e)

module _ (s : Shape) where
  pub said_note : (line : Line) → length line.text ≡ s.length → of_note (said_on s line) ≡ true → is_note s line ≡ true
  said_note line long is = rw (eq-eqb (length line.text) s.length long, is)

  -- What a note says.
  pub note_said : (line : Line) → is_note s line ≡ true → (note : Note) × (said_on s line ≡ OfNote note)
  note_said line is = note_says (said_on s line) (both_hold (eqb (length line.text) s.length) (of_note (said_on s line)) is).1

  pub note_judged_by : Lawful s → (here here' : Context) → without_sums here ≡ without_sums here' → (line : Line) → is_note s line ≡ true → (earlier under under' : ℕ → Bool)
      → first_broken (edits_among_by s here earlier under line) ≡ first_broken (edits_among_by s here' earlier under' line)
  note_judged_by l here here' same line is earlier under under' =
      let u = capitals line.text in
      let says = note_said line is in
      let seen_same : seen_by s earlier under u ≡ seen_by s earlier under' u = rw says.1 in
      line_parts s here (seen_by s earlier under u) line
      ∙ ap (or_else (finding_in (cutting s.length line))) (l.note_alike here here' (seen_by s earlier under u) u says.0 says.1 same)
      ∙ ap (λ (seen : Seen). or_else (finding_in (cutting s.length line)) (first_broken (s.edits here' seen u))) seen_same
      ∙ sym (line_parts s here' (seen_by s earlier under' u) line)

-- ---- two S records, alike but in hidden columns, in contexts alike but for the sums
module _ (s : Shape) (l : Lawful s) (here here' : Context) (same : without_sums here ≡ without_sums here')
    (line line' : Line) (bytes : blot s line ≡ blot s line') (is : is_employee s line ≡ true) where
  abbrev is' : is_employee s line' ≡ true
  is' = sym (employee_alike s l line line' bytes) ∙ is

  twins : (seen seen' : Seen) → MeetsOwn s line → MeetsOwn s line' → eqb (employee_on s line).id 0 ≡ eqb (employee_on s line').id 0
      → seen.id ≡ seen'.id → Twins s here here' seen seen' (capitals line.text) (capitals line'.text)
  twins seen seen' ours theirs zeros asked =
      record {
        contexts = same;
        employee_one = (employee_line s line is).1;
        employee_other = (employee_line s line' is').1;
        columns = blot_alike (hides_on s line) line.text line'.text (text_alike s l line line' bytes is);
        permitted_one = permits s line ours;
        permitted_other = permits_as s (hides_on s line) (hides_on s line') (capitals line'.text) (columns_alike s l line line' bytes) (permits s line' theirs);
        own_one = ours.own_rules;
        own_other = theirs.own_rules;
        zeros = zeros;
        asked = asked;
      }

  pub alike_judged_by : (earlier under under' : ℕ → Bool) → MeetsOwn s line → MeetsOwn s line' → eqb (employee_on s line).id 0 ≡ eqb (employee_on s line').id 0
      → under (employee_on s line).id ≡ under' (employee_on s line').id
      → first_broken (edits_among_by s here earlier under line) ≡ first_broken (edits_among_by s here' earlier under' line')
  alike_judged_by earlier under under' ours theirs zeros asked =
      let u = capitals line.text in
      let v = capitals line'.text in
      let seen_same : (seen_by s earlier under u).id ≡ (seen_by s earlier under' v).id = rw (employee_said s line is, employee_said s line' is') asked in
      line_parts s here (seen_by s earlier under u) line
      ∙ ap₂ or_else (cut_alike s.length line line' (employee_line s line is).0 (employee_line s line' is').0 (ending_alike s l line line' bytes is))
      (l.hidden_alike here here' (seen_by s earlier under u) (seen_by s earlier under' v) u v
      (twins (seen_by s earlier under u) (seen_by s earlier under' v) ours theirs zeros seen_same))
      ∙ sym (line_parts s here' (seen_by s earlier under' v) line')
