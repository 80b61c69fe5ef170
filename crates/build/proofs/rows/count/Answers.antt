use native.Mathlib.Omega.{arith}
use Rattle.build.specs.RowLaws.{counted_by}
use Rattle.build.proofs.rows.count.Goals as goal

pub overflow_sub-result : goal.overflow_sub-result
overflow_sub-result c =
    let counted = counted_by c.kind_of.result _ _ _ c.order_of-kind.ensures c.first_field-from.ensures c.first_field.ensures in
    omega arith

pub returns : goal.returns
returns c =
    let counted = counted_by c.kind_of.result _ _ _ c.order_of-kind.ensures c.first_field-from.ensures c.first_field.ensures in
    rw (← c.kind_of.ensures) (omega arith)
