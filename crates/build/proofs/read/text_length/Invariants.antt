-- The invariant: the columns left hold the text that all of them hold.
use Prim.Native.Nat.{◌-◌, ◌≤◌}
use mathlib.Core.Path.{◌≡◌}
use lib.ListN.{length, take, drop}
use Rattle.chars.specs.Characters.{capitals}
use Rattle.build.specs.Values.{trimmed, text_in}
use Rattle.build.proofs.read.text_length.Given as goal

abbrev pub invariant-loop-at : goal.invariant-loop-at
invariant-loop-at l =
    (l.at ≤ length (capitals l.line)) × (text_in (capitals l.line) l.first l.last ≡ trimmed (take (l.at - l.start) (drop l.start (capitals l.line))))
