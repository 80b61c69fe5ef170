-- The invariant: what is told so far is told of the columns that the sweep has passed.
use Prim.Native.Nat.{◌≤◌}
use mathlib.Core.Path.{◌≡◌}
use Rattle.plain.specs.Plain.{within}
use Rattle.plain.proofs.within.Given as goal

abbrev pub invariant-loop-i : goal.invariant-loop-i
invariant-loop-i l = (l.i ≤ 288) × (l.good ≡ within l.low l.high l.line l.i)
