-- The invariant: the columns left say what all of them say.
use Prim.Native.Nat.{◌-◌}
use mathlib.Core.Path.{◌≡◌}
use Rattle.laws.specs.Finding.{first_of}
use Rattle.chars.specs.Characters.{capitals}
use Rattle.chars.specs.Columns.{allowed_test, every_column}
use Rattle.chars.proofs.columns.every_column.Given as goal

abbrev pub invariant-loop-at : goal.invariant-loop-at
invariant-loop-at l =
    every_column l.allowed (capitals l.line) l.first l.last ≡ first_of (allowed_test l.allowed (capitals l.line)) l.at (l.last - l.at)
