-- What is left of the file says what the whole file says.
use Prim.Native.Nat.{◌-◌, ◌≤◌}
use mathlib.Core.Path.{◌≡◌}
use lib.ListN.{length, drop}
use Rattle.tables.specs.Room.{tables}
use Rattle.state.specs.Walks.{walk_of}
use Rattle.walk.specs.Calls.{calls, all, whole_file}
use Rattle.walk.proofs.whole.Given as goal

abbrev pub invariant-loop-at : goal.invariant-loop-at
invariant-loop-at l =
    (l.at ≤ length l.bytes)
    × (calls all 0 (drop l.at l.bytes) (walk_of l.st) (tables l.ids l.list) ≡ whole_file l.fn.held l.bytes (tables l.fn.ids l.fn.list))

abbrev pub decreases-loop-at : goal.decreases-loop-at
decreases-loop-at l = length l.bytes - l.at
