-- At each turn those passed are marked.
use Prim.Native.Nat.{ℕ}
use mathlib.Core.Path.{sym, ap, ◌∙◌}
use native.Mathlib.Omega.{arith}
use mathlib.Core.List.{List}
use lib.ListN.{take, get_or}
use lib.Seq.{take_all}
use Rattle.tables.specs.TableSteps.{take_least}
use Rattle.employees.specs.MarkLaws.{with_none, with_more}
use Rattle.employees.specs.Marks.{with_mark, with_marks}
use Rattle.employees.proofs.marks.mark_first.Goals as goal

pub loop-id-init : goal.loop-id-init
loop-id-init c = sym (with_none c.args.marks.now)

pub loop-id-preserved : goal.loop-id-preserved
loop-id-preserved c =
    let l = c.loop-id in
    let first = take c.min.result c.args.ids.now in
    c.mark.ensures
    ∙ ap (λ (id : ℕ). with_mark id l.marks) c.from.ensures
    ∙ ap (with_mark (get_or first l.id-index 0)) l.invariant
    ∙ sym (with_more first l.id-index c.args.marks.now c.loop-id-test.true)
