-- The invariant: the columns that are left, filled, make of the line what all of them would.
use Prim.Native.Nat.{◌-◌}
use mathlib.Core.Path.{◌≡◌}
use lib.ListN.{replicate}
use lib.Seq.{sets}
use Rattle.edits.proofs.rows.fill_at.Given as goal

abbrev pub invariant-loop-at : goal.invariant-loop-at
invariant-loop-at l = sets l.initial.line l.from (replicate (l.end - l.from) l.c) ≡ sets l.line l.at (replicate (l.end - l.at) l.c)
