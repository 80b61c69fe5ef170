-- Definitions: the bytes that a turn did not take, moved to the front of the buffer, before the next read.
use Rattle.std.specs.Prelude.{ℕ, ◌-◌, min, List, ◌++◌, length, take, drop}

-- The buffer with n bytes from a place on at its front; after them it is as it was.
unfoldable pub moved : ℕ → ℕ → List ℕ → List ℕ
moved at n bytes = take n (drop at bytes) ++ drop n bytes

pub record Kept : Type 0 where
  pub count : ℕ
  pub bytes : List ℕ

-- Those up to `end`, as far as there are any.
abbrev pub kept : ℕ → ℕ → List ℕ → Kept
kept at end bytes = record { count = min end (length bytes) - at; bytes = moved at (min end (length bytes) - at) bytes }
