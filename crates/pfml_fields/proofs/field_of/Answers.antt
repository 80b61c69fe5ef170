-- Outside the records and their columns there is no field, and within them the map names it.
use mathlib.Core.Path.{sym}
use native.Mathlib.Omega.{arith}
use Rattle.pfml_fields.specs.MapLaws.{no_record}
use Rattle.pfml_fields.proofs.FieldOfColumn.{before_first, behind_last, field_in_map}
use Rattle.pfml_fields.proofs.field_of.Goals as goal

pub returns-then-kind-ge5 : goal.returns-then-kind-ge5
returns-then-kind-ge5 c = sym (no_record _ _ c.if-kind-ge5.true)

pub returns-then-column-eq0 : goal.returns-then-column-eq0
returns-then-column-eq0 c = rw c.if-column-eq0.true (sym (before_first _ c.if-kind-ge5.false))

pub returns-then-column-gt-RECORD : goal.returns-then-column-gt-RECORD
returns-then-column-gt-RECORD c = sym (behind_last _ c.if-kind-ge5.false _ c.if-column-gt-RECORD.true)

pub returns : goal.returns
returns c =
    rw c.all_columns-map.ensures
    (sym (field_in_map _ _ c.if-kind-ge5.false (omega (arith, c.if-column-eq0.false)) c.if-column-gt-RECORD.false))
