-- What is left of the bytes says what all of them say.
use Prim.Native.Nat.{◌-◌}
use mathlib.Core.Path.{◌≡◌}
use lib.ListN.{length, drop}
use Rattle.tables.specs.Room.{tables}
use Rattle.state.specs.Walks.{walk_of}
use Rattle.ack.specs.TurnLaws.{turn_from}
use Rattle.ack.specs.Turns.{lines_turn}
use Rattle.ack.proofs.lines_turn.Given as goal

abbrev pub invariant-loop-ids : goal.invariant-loop-ids
invariant-loop-ids l =
    turn_from l.bytes l.here (walk_of l.st) (tables l.ids l.list)
    ≡ lines_turn l.ended 0 (drop l.from l.bytes) (walk_of l.fn.opened) (tables l.initial.ids l.initial.list)

abbrev pub decreases-loop-ids : goal.decreases-loop-ids
decreases-loop-ids l = length l.bytes - l.here.at
