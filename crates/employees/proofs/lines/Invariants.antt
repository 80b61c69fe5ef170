-- At each turn the run has come to where it stands, and the numbers in use are marked.
use Prim.Native.Nat.{◌-◌, ◌<◌, ◌^◌}
use Rattle.employees.specs.RunTurnLaws.{Going}
use Rattle.state.specs.Walks.{walk_of}
use Rattle.employees.proofs.lines.Given as goal

abbrev pub invariant-loop : goal.invariant-loop
invariant-loop l =
    Going l.bytes l.template.low l.template.high l.list l.most (l.most - l.counter)
    (record { at = l.initial.run.at; walk = walk_of l.initial.run.state; ids = l.initial.ids })
    (record { at = l.run.at; walk = walk_of l.run.state; ids = l.ids }) l.marks
    × (l.run.at < 2 ^ 64)
