-- Definitions: a table of fixed length: the entries that it has, and after them those at rest.
use Rattle.std.specs.Prelude.{ℕ, ◌-◌, List, ◌++◌, length, replicate}

unfoldable pub pad : {A : Type 0} → A → ℕ → List A → List A
pad z n l = l ++ replicate (n - length l) z
