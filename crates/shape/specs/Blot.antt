-- Laws: a line with its hidden columns blotted out is a line of the same record and shows all other columns, in every format;
-- two lines with equal blots are alike.
use Prim.Native.Nat.{ℕ, zero, suc, ◌+◌, ◌≤◌, ◌<◌}
use Rattle.std.specs.Prelude.{Bool, ◌&&◌, ◌≡◌, eqb, length, get_or, take, if◌then◌else◌}
use Rattle.std.proofs.Math.Bool.{true, false}
use mathlib.Core.List.{List, [], ◌∷◌}
use Rattle.std.proofs.Math.Path.{refl, ap₂}
use Rattle.std.proofs.Common.{sym, ap, ◌∙◌, length-take, ext_get_or, get_or-take, eqb-true}
use Rattle.std.proofs.Math.Nat.{add-zero}
use native.Mathlib.Omega.{arith}
use Rattle.laws.specs.ChoiceLaws.{both_hold}
use Rattle.lines.specs.Changed.{blank_no_end}
use Rattle.lines.specs.MadeLines.{no_end_at}
use Rattle.lines.specs.HiddenPlaces.{Hides, has_no_end, Keeps}
use Rattle.lines.specs.Lines.{Line, is_end}
use Rattle.chars.specs.Characters.{is_permitted, capitals}
use Rattle.chars.specs.CharacterLaws.{capitals_take, permitted_span}
use Rattle.shape.specs.Hidden.{of_employee, blot_from, is_employee, hides_on, is_of_employee, blot_for, blot}
use Rattle.shape.specs.Lawful.{Lawful}
use Rattle.shape.specs.Shape.{Shape, said_on}

-- ---- texts
module _ (hides : ℕ → Bool) where
  pub blot_length : (column : ℕ) (text : List ℕ) → length (blot_from hides column text) ≡ length text
  unfolding blot_from
  blot_length column [] = refl
  blot_length column (c ∷ text) = rw (blot_length (column + 1) text)

  -- Columns in front that are shown stay.
  blot_front : (k column : ℕ) (text : List ℕ) → ((c : ℕ) → c < column + k → hides c ≡ false) → take k (blot_from hides column text) ≡ take k text
  unfolding blot_from
  blot_front zero column text shown = refl
  blot_front (suc k) column [] shown = refl
  blot_front (suc k) column (c ∷ text) shown =
      rw (shown column (omega arith)) (ap (λ (l : List ℕ). c ∷ l) (blot_front k (column + 1) text (λ d below. shown d (omega arith))))

  pub blot_no_end : (column : ℕ) (text : List ℕ) → has_no_end text → has_no_end (blot_from hides column text)
  unfolding blot_from
  blot_no_end column [] none = tt
  blot_no_end column (c ∷ text) none = (blank_no_end (hides column) c none.0, blot_no_end (column + 1) text none.1)

  pub blot_at : (text : List ℕ) (column at : ℕ) → hides (column + at) ≡ false → get_or (blot_from hides column text) at 0 ≡ get_or text at 0
  unfolding blot_from
  blot_at [] column at e = refl
  blot_at (c ∷ text) column zero e = rw (rw add-zero at e)
  blot_at (c ∷ text) column (suc at) e = blot_at text (column + 1) at (let p : column + 1 + at ≡ column + suc at = omega arith in rw p e)

  -- Texts that are the same in every shown column are the same blotted.
  pub blot_shown : (column : ℕ) (s t : List ℕ) → length s ≡ length t → ((at : ℕ) → hides (column + at) ≡ false → get_or s at 0 ≡ get_or t at 0)
      → blot_from hides column s ≡ blot_from hides column t
  unfolding blot_from
  blot_shown column [] [] long same = refl
  blot_shown column [] (c ∷ t) long same = absurd (omega arith)
  blot_shown column (b ∷ s) [] long same = absurd (omega arith)
  blot_shown column (b ∷ s) (c ∷ t) long same = ap₂ (λ (d : ℕ) (l : List ℕ). d ∷ l) (first (hides column) refl) (blot_shown (column + 1) s t (omega arith) behind) where
    first : (is : Bool) → hides column ≡ is → (if is then 32 else b) ≡ (if is then 32 else c)
    first true e = refl
    first false e = same 0 (rw add-zero e)

    behind : (at : ℕ) → hides (column + 1 + at) ≡ false → get_or s at 0 ≡ get_or t at 0
    behind at e = same (suc at) (let p : column + suc at ≡ column + 1 + at = omega arith in rw p e)

-- The same columns, told by another test.
pub blot_told : (hides other : ℕ → Bool) → ((c : ℕ) → hides c ≡ other c) → (column : ℕ) (text : List ℕ) → blot_from hides column text ≡ blot_from other column text
unfolding blot_from
blot_told hides other same column [] = refl
blot_told hides other same column (c ∷ text) = rw (same column) (ap (λ (l : List ℕ). (if other column then 32 else c) ∷ l) (blot_told hides other same (column + 1) text))

-- ---- lines
module _ (s : Shape) where
  length_kept : (is : Bool) (line : Line) → length (blot_for s is line).text ≡ length line.text
  length_kept true line = blot_length (hides_on s line) 1 line.text
  length_kept false line = refl

  ends_kept : (is : Bool) (line : Line) → (blot_for s is line).ending ≡ line.ending
  ends_kept true line = refl
  ends_kept false line = refl

  no_end_kept : (is : Bool) (line : Line) → has_no_end line.text → has_no_end (blot_for s is line).text
  no_end_kept true line none = blot_no_end (hides_on s line) 1 line.text none
  no_end_kept false line none = none

  -- It keeps the place of every line.
  pub blot_keeps : Keeps (blot s)
  blot_keeps =
      record {
        long = λ line. length_kept (is_employee s line) line;
        ends = λ line. ends_kept (is_employee s line) line;
        no_end = λ line. no_end_kept (is_employee s line) line;
      }

module _ (s : Shape) (l : Lawful s) where
  -- The columns that tell the record are kept.
  front_kept : (is : Bool) (line : Line) → take s.front (blot_for s is line).text ≡ take s.front line.text
  front_kept true line = blot_front (hides_on s line) s.front 1 line.text (λ c below. l.front_shown (capitals line.text) c (omega arith))
  front_kept false line = refl

  -- Lines that begin alike are of the same record, and hide the same columns.
  module _ (one other : Line) (front : take s.front one.text ≡ take s.front other.text) where
    tells : (of_employee (said_on s one) ≡ of_employee (said_on s other)) × ((column : ℕ) → hides_on s one column ≡ hides_on s other column)
    tells =
        l.front_tells (capitals one.text) (capitals other.text)
        (sym (capitals_take s.front one.text) ∙ ap capitals front ∙ capitals_take s.front other.text)

    employee_told : length one.text ≡ length other.text → is_employee s one ≡ is_employee s other
    employee_told long = rw (long, tells.0)

  module _ (one other : Line) (same : blot s one ≡ blot s other) where
    front_same : take s.front one.text ≡ take s.front other.text
    front_same =
        sym (front_kept (is_employee s one) one) ∙ ap (λ (b : Line). take s.front b.text) same ∙ front_kept (is_employee s other) other

    length_same : length one.text ≡ length other.text
    length_same = sym (length_kept s (is_employee s one) one) ∙ ap (λ (b : Line). length b.text) same ∙ length_kept s (is_employee s other) other

    pub employee_alike : is_employee s one ≡ is_employee s other
    employee_alike = employee_told one other front_same length_same

    pub columns_alike : (column : ℕ) → hides_on s one column ≡ hides_on s other column
    columns_alike = (tells one other front_same).1

    module _ (is : is_employee s one ≡ true) where
      blots : blot_for s true one ≡ blot_for s true other
      blots = ap (λ (b : Bool). blot_for s b one) (sym is) ∙ same ∙ ap (λ (b : Bool). blot_for s b other) (sym employee_alike ∙ is)

      pub text_alike : blot_from (hides_on s one) 1 one.text ≡ blot_from (hides_on s one) 1 other.text
      text_alike =
          ap (λ (b : Line). b.text) blots ∙ blot_told (hides_on s other) (hides_on s one) (λ c. sym (columns_alike c)) 1 other.text

      pub ending_alike : one.ending ≡ other.ending
      ending_alike = ap (λ (b : Line). b.ending) blots

    -- Any other line is not touched.
    pub line_same : is_employee s one ≡ false → one ≡ other
    line_same none = ap (λ (b : Bool). blot_for s b one) (sym none) ∙ same ∙ ap (λ (b : Bool). blot_for s b other) (sym employee_alike ∙ none)

  -- ---- it hides the hidden columns and no others
  in_text : (line : Line) (column : ℕ) → is_of_employee s line column ≡ true → column ≤ length line.text
  in_text line column e =
      let both = both_hold (is_employee s line) (hides_on s line column) e in
      let long = eqb-true (length line.text) s.length (both_hold (eqb (length line.text) s.length) (of_employee (said_on s line)) both.0).0 in
      omega (arith, l.hides_within (capitals line.text) column both.1)

  others_stay : (is : Bool) (line : Line) (at : ℕ) → is && hides_on s line (at + 1) ≡ false → get_or (blot_for s is line).text at 0 ≡ get_or line.text at 0
  others_stay true line at e = blot_at (hides_on s line) line.text 1 at (let p : 1 + at ≡ at + 1 = omega arith in rw p e)
  others_stay false line at e = refl

  module _ (one other : Line) (long : length one.text ≡ length other.text) (ending : one.ending ≡ other.ending) where
    blot_alike_for : (is : Bool) → ((at : ℕ) → is && hides_on s one (at + 1) ≡ false → get_or one.text at 0 ≡ get_or other.text at 0)
        → ((column : ℕ) → hides_on s one column ≡ hides_on s other column) → blot_for s is one ≡ blot_for s is other
    blot_alike_for true same told =
        let text = blot_shown (hides_on s one) 1 one.text other.text long (λ at e. same at (let p : at + 1 ≡ 1 + at = omega arith in rw p e))
        ∙ blot_told (hides_on s one) (hides_on s other) told 1 other.text in
        λ i. record { text = text i; ending = ending i }
    blot_alike_for false same told =
        let text = ext_get_or 0 one.text other.text long (λ at h. same at refl) in λ i. record { text = text i; ending = ending i }

    front_by_place : ((at : ℕ) → is_of_employee s one (at + 1) ≡ false → get_or one.text at 0 ≡ get_or other.text at 0)
        → take s.front one.text ≡ take s.front other.text
    front_by_place same =
        ext_get_or 0 (take s.front one.text) (take s.front other.text) (rw (length-take, length-take, long)) (λ at h.
        let below : at < s.front = let short = rw length-take at h in omega arith in
        let shown : is_of_employee s one (at + 1) ≡ false = hidden_not (is_employee s one) _ (l.front_shown (capitals one.text) (at + 1) (omega arith)) in
        get_or-take s.front one.text at 0 below ∙ same at shown ∙ sym (get_or-take s.front other.text at 0 below)) where
          hidden_not : (is hides : Bool) → hides ≡ false → is && hides ≡ false
          hidden_not true hides e = e
          hidden_not false hides e = refl

    nothing_left : ((at : ℕ) → is_of_employee s one (at + 1) ≡ false → get_or one.text at 0 ≡ get_or other.text at 0) → blot s one ≡ blot s other
    nothing_left same =
        let front = front_by_place same in
        blot_alike_for (is_employee s one) same (tells one other front).1 ∙ ap (λ (b : Bool). blot_for s b other) (employee_told one other front long)

  pub blot_hides : Hides (is_of_employee s) (blot s)
  blot_hides =
      record {
        in_text = in_text;
        nothing_left = nothing_left;
        others_stay = λ line. others_stay (is_employee s line) line;
        columns_told = λ one other same column. ap₂ (λ (a b : Bool). a && b) (employee_alike one other same) (columns_alike one other same column);
      }

-- ---- what the hidden columns may hold: permitted characters, none of which is an end
pub permitted_no_end : (c : ℕ) → is_permitted c ≡ true → is_end c ≡ false
permitted_no_end c p = no_end_at c (omega (arith, permitted_span c p))
