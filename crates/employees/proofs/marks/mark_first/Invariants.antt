-- At each turn those passed are marked.
use mathlib.Core.Path.{◌≡◌}
use lib.ListN.{take}
use Rattle.employees.specs.Marks.{with_marks}
use Rattle.employees.proofs.marks.mark_first.Given as goal

abbrev pub invariant-loop-id : goal.invariant-loop-id
invariant-loop-id l = l.marks ≡ with_marks (take l.id-index l.first) l.initial.marks
