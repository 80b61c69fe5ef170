-- Definitions: how many of the bytes that remain a call has to be lent.
use Rattle.std.specs.Prelude.{ℕ, ◌+◌, ◌≤◌, List, ◌⊎◌, length}

module _ (n m : ℕ) (s : List ℕ) where
  -- "all that remains, or at least 292 bytes": m bytes are lent of those that remain, s.
  abbrev pub Lent : Type 0
  Lent = (n + 2 ≤ m) ⊎ (length s ≤ m)
