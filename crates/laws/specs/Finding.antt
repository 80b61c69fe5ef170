-- Definitions: what an edit finds, what a field reads as, in the paper's own numbers, and the first broken one of some edits.
use Rattle.std.specs.Prelude.{ℕ, zero, suc, ◌+◌, ◌<◌, ◌≡◌}

-- Nothing, or a broken edit: the column, and the number that the paper gives the reason.
pub data Finding : Type 0 where
  fine : Finding
  broken : (column number : ℕ) → Finding

-- "a field that reads as a number gives it, else its refusal"
pub data Reading : Type 0 where
  value : ℕ → Reading
  refused : (column number : ℕ) → Reading

-- The first of two findings that is broken.
abbrev pub or_else : Finding → Finding → Finding
or_else fine next = next
or_else (broken column number) next = broken column number

-- The first broken one of n edits, from number i on.
unfoldable pub first_of : (ℕ → Finding) → ℕ → ℕ → Finding
first_of edit i zero = fine
first_of edit i (suc n) = or_else (edit i) (first_of edit (i + 1) n)

-- What a reading says of the edits passed on the way to its value.
abbrev pub finding_in : Reading → Finding
finding_in (value v) = fine
finding_in (refused column number) = broken column number

-- Number i + at is broken with this finding, and none of those before it is broken.
pub record IsFirst (edit : ℕ → Finding) (i n column number : ℕ) : Type 0 where
  pub at : ℕ
  pub in_range : at < n
  pub hit : edit (i + at) ≡ broken column number
  pub none_before : (k : ℕ) → k < at → edit (i + k) ≡ fine
