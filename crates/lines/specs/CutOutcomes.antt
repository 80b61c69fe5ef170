-- Laws: the four outcomes of cutting a line, and what is known of a line that is taken.
use Rattle.std.specs.Prelude.{ℕ, ◌+◌, ◌≤◌, ◌<◌, min, Bool, true, false, ◌⊎◌, ◌≡◌, refl, eqb, length, if◌then◌else◌}
use Rattle.std.proofs.Common.{inl, inr, sym, arith}
use borrow.Author.Tests.{eqb-true, eqb-false, eq-eqb, ne_eqb}
use Rattle.laws.specs.Finding.{fine, broken, or_else, value, refused, finding_in}
use Rattle.laws.specs.Labelled.{Labelled, fine_labelled, broken_labelled, choice_labelled}
use Rattle.lines.specs.Cutting.{beyond, cutting, length_test, end_test}
use Rattle.lines.specs.Lines.{Line, size_of}

module _ (n : ℕ) (line : Line) where
  other_length : (length line.text ≡ n → ⊥) → cutting n line ≡ refused (min (length line.text + 1) (beyond n)) 1
  unfolding cutting
  other_length h = rw (ne_eqb (length line.text) n h)

  -- "1: length not 290; column is the lesser of length + 1 and 291": 291 for a longer line, length + 1 for a shorter one.
  pub too_long : n < length line.text → cutting n line ≡ refused (beyond n) 1
  too_long h =
      let column : min (length line.text + 1) (beyond n) ≡ beyond n = omega arith in
      rw (other_length (λ e. omega arith), column)

  pub too_short : length line.text < n → n ≤ 65535 → cutting n line ≡ refused (length line.text + 1) 1
  too_short h told =
      let column : min (length line.text + 1) (beyond n) ≡ length line.text + 1 = omega arith in
      rw (other_length (λ e. omega arith), column)

  -- "2: 290 characters, no end; column 291"
  pub no_end : length line.text ≡ n → length line.ending ≡ 0 → cutting n line ≡ refused (beyond n) 2
  unfolding cutting
  no_end h e = rw (eq-eqb (length line.text) n h, eq-eqb (length line.ending) 0 e)

  -- "how many bytes that line and its end take"
  pub takes : length line.text ≡ n → 1 ≤ length line.ending → cutting n line ≡ value (size_of line)
  unfolding cutting
  takes h e = rw (eq-eqb (length line.text) n h, ne_eqb (length line.ending) 0 (λ z. omega arith))

-- ---- a line that is taken
pub not_taken : (column number bytes : ℕ) → refused column number ≡ value bytes → ⊥
not_taken column number bytes e = let z : ◌≡◌ {A = ℕ} 0 1 = cc in omega arith

taken : (n bytes : ℕ) (line : Line) → cutting n line ≡ value bytes → (length line.text ≡ n) × (bytes ≡ size_of line) × (1 ≤ length line.ending)
unfolding cutting
taken n bytes line = at (eqb (length line.text) n) (eqb (length line.ending) 0) refl refl where
  at : (t u : Bool) → eqb (length line.text) n ≡ t → eqb (length line.ending) 0 ≡ u
      → (if t then (if u then refused (beyond n) 2 else value (size_of line)) else refused (min (length line.text + 1) (beyond n)) 1) ≡ value bytes
      → (length line.text ≡ n) × (bytes ≡ size_of line) × (1 ≤ length line.ending)
  at true true h g e = absurd (not_taken _ _ bytes e)
  at true false h g e = (eqb-true _ _ h, cc, let some = eqb-false (length line.ending) 0 g in omega arith)
  at false u h g e = absurd (not_taken _ _ bytes e)

-- It has n characters, and the bytes told are those of the line and its end.
pub taken_is_size : (n bytes : ℕ) (line : Line) → cutting n line ≡ value bytes → (length line.text ≡ n) × (bytes ≡ size_of line)
taken_is_size n bytes line e = let is = taken n bytes line e in (is.0, is.1)

-- "Each line has 290 characters and an end, the last one too."
pub taken_has_end : (n bytes : ℕ) (line : Line) → cutting n line ≡ value bytes → 1 ≤ length line.ending
taken_has_end n bytes line e = (taken n bytes line e).2

-- A line that is refused is refused by its length, 1, or its end, 2.
by_number : (right missing : Bool) (size a b column number : ℕ)
    → (if right then (if missing then refused b 2 else value size) else refused a 1) ≡ refused column number → (number ≡ 1) ⊎ (number ≡ 2)
by_number true true size a b column number e = inr cc
by_number true false size a b column number e = absurd (not_taken column number size (sym e))
by_number false missing size a b column number e = inl cc

pub refused_number : (n : ℕ) (line : Line) (column number : ℕ) → cutting n line ≡ refused column number → (number ≡ 1) ⊎ (number ≡ 2)
unfolding cutting
refused_number n line column number e = by_number (eqb (length line.text) n) (eqb (length line.ending) 0) _ _ _ column number e

-- Cutting is two edits in order: the length, then the end.
in_parts : (right missing : Bool) (size a b : ℕ)
    → finding_in (if right then (if missing then refused b 2 else value size) else refused a 1)
    ≡ or_else (if right then fine else broken a 1) (if missing then broken b 2 else fine)
in_parts true true size a b = refl
in_parts true false size a b = refl
in_parts false missing size a b = refl

pub cut_parts : (n : ℕ) (line : Line) → finding_in (cutting n line) ≡ or_else (length_test n line) (end_test n line)
unfolding cutting length_test end_test
cut_parts n line = in_parts (eqb (length line.text) n) (eqb (length line.ending) 0) (size_of line) (min (length line.text + 1) (beyond n)) (beyond n)

-- ---- the labels of the refusals: 1 at a column up to the one after the last, 2 at that one
module _ (n : ℕ) (line : Line) where
  pub length_labelled : Labelled 1 1 (beyond n) (length_test n line)
  unfolding length_test
  length_labelled =
      choice_labelled 1 1 (beyond n) (eqb (length line.text) n) _ _ (fine_labelled 1 1 (beyond n))
      (broken_labelled 1 1 (beyond n) (min (length line.text + 1) (beyond n)) (omega arith) (omega arith))

  pub ending_labelled : Labelled 2 (beyond n) (beyond n) (end_test n line)
  unfolding end_test
  ending_labelled =
      choice_labelled 2 (beyond n) (beyond n) (eqb (length line.ending) 0) _ _ (broken_labelled 2 (beyond n) (beyond n) (beyond n) (omega arith) (omega arith))
      (fine_labelled 2 (beyond n) (beyond n))
