-- The invariant: the places that are left, read behind the value so far, say what all of them say; and the value
-- is below 2 times 10 to the places read.
use Prim.Native.Nat.{◌+◌, ◌-◌, ◌*◌, ◌^◌, ◌≤◌}
use mathlib.Core.Path.{◌≡◌}
use Rattle.plain.specs.Plain.{digits_from}
use Rattle.plain.proofs.digits_in.Given as goal

abbrev pub invariant-loop-i : goal.invariant-loop-i
invariant-loop-i l =
    (l.from ≤ l.i) × (l.i ≤ l.to) × (l.v + 2 ≤ 2 * 10 ^ (l.i - l.from)) × (digits_from l.line l.v l.i (l.to - l.i) ≡ digits_from l.line 0 l.from (l.to - l.from))
