-- Laws: how a loop writes the answer's words, and how a call that opens a walk comes to what it promises, with a place for the state and without one.
use Rattle.std.specs.Prelude.{ℕ, ◌<◌, ◌≤◌, List, [], ◌∷◌, ◌≡◌, refl, length, min}
use Rattle.std.proofs.Common.{arith, lt-ltb, le-ltb}
use Rattle.std.proofs.Math.Seq.{take-nil}
use Rattle.laws.specs.Finding.{Reading}
use Rattle.reason.specs.ReasonNumbers.{notice}
use Rattle.tables.specs.Room.{Tables}
use Rattle.step.specs.Steps.{Out}
use Rattle.state_words.specs.Words.{word_count}
use Rattle.state_words.specs.WordsWritten.{written, too_few}
use Rattle.wage.specs.Exports.{numbers, answered, Told, Opened, placed, read_numbers, read_field}
use Rattle.wage.specs.declared.Numbers.{Numbers}

-- ---- the answer's words
-- They are written one by one, as many as fit.
pub all_told : (n : Numbers) (words : List ℕ) (fit : ℕ) → fit ≡ min 4 (length words) → written (n.number ∷ n.line ∷ n.column ∷ n.bytes ∷ []) fit words ≡ answered n words
unfolding answered
all_told n [] fit e = rw e
all_told n (a ∷ []) fit e = rw e
all_told n (a ∷ b ∷ []) fit e = rw e
all_told n (a ∷ b ∷ c ∷ []) fit e = rw e
all_told n (a ∷ b ∷ c ∷ d ∷ rest) fit e = let whole : fit ≡ 4 = omega arith in rw (whole, take-nil (length rest))

-- ---- the calls of the walk
module _ (out : Out) (words : List ℕ) (t : Tables) where
  pub has_place : word_count ≤ length words → placed out words t ≡ out
  has_place h = rw (le-ltb (length words) word_count h)

  pub no_place : length words < word_count → (answer : List ℕ) (number : ℕ) (after : List ℕ) → Told (numbers (notice 72 0 0) 0) number answer after
      → Opened (placed out words t) words answer (record { number = number; state = words; answer = after; left = t })
  no_place h answer number after told =
      rw (← too_few (placed out words t).walk words h, lt-ltb (length words) word_count h, told.0, told.1) (refl, λ room. absurd (omega arith))

-- ---- the calls that read a field
-- What is told of a reading is what the call promises of it.
pub has_read : (reading : Reading) (n : Numbers) → n ≡ read_numbers reading → (number : ℕ) (answer after : List ℕ) → Told n number answer after
    → record { number = number; answer = after } ≡ read_field reading answer
has_read reading n is_n number answer after told = rw (told.0, told.1, is_n)
