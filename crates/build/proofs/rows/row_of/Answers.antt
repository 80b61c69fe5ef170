-- The record's rows stand in the list of all rows from its first field on.
use Prim.Native.Nat.{ℕ, ◌+◌, ◌<◌}
use mathlib.Core.Path.{ap, ◌∙◌}
use mathlib.Core.List.{List}
use native.Mathlib.Omega.{arith}
use lib.ListN.{length, get_or}
use Rattle.edits.specs.FieldRow.{no_row}
use Rattle.pfml_fields.specs.Fields.{fields, first_field}
use Rattle.pfml.specs.Edits.{rows_for}
use Rattle.pfml.specs.declared.kind.Kind.{Kind}
use Rattle.build.specs.RowLaws.{row_inside, row_there}
use Rattle.field.specs.declared.class.Field.{Field}
use Rattle.build.proofs.rows.row_of.Goals as goal

pub overflow_add-first_field : goal.overflow_add-first_field
overflow_add-first_field c =
    let within : c.args.k < length (rows_for c.kind_of.result) = rw c.kind_of.ensures (omega arith) in
    let inside : c.first_field.result + c.args.k < 72 = rw (c.first_field.ensures, c.order_of-kind.ensures) (row_inside c.kind_of.result c.args.k within) in
    omega arith

pub returns-then-k-count : goal.returns-then-k-count
returns-then-k-count c =
    let k = c.args.k in
    let within : k < length (rows_for c.kind_of.result) = rw c.kind_of.ensures (omega arith) in
    c.row_at.ensures
    ∙ ap (λ (list : List Field). get_or list (c.first_field.result + k) no_row) c.all_rows.ensures
    ∙ ap (λ (n : ℕ). get_or fields (n + k) no_row) (c.first_field.ensures ∙ ap first_field c.order_of-kind.ensures)
    ∙ row_there c.kind_of.result k within
    ∙ ap (λ (named : Kind). get_or (rows_for named) k no_row) c.kind_of.ensures
