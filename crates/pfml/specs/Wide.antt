-- Laws: every field of the five records is as wide as its class asks.
use Rattle.std.specs.Prelude.{ℕ, ◌+◌, ◌<◌, ◌≤◌, ◌≡◌, get_or, take, drop}
use Rattle.std.proofs.Common.{◌∙◌, subst, arith, not-suc-le-zero, length-take, length-drop, get_or-take, get_or-drop}
use Rattle.edits.specs.FieldRow.{class_in, first_in, last_in}
use Rattle.pfml_fields.specs.Fields.{fields}
use Rattle.edits.specs.RowTestLaws.{wide_of}
use Rattle.pfml_fields.specs.Fit.{class_widths}
use Rattle.pfml_fields.specs.Rows.{part_of_A, part_of_E, part_of_S, part_of_T, part_of_F}
use Rattle.edits.specs.FieldRow.{no_row}
use Rattle.edits.specs.Tests.{AllWide}
use Rattle.pfml.specs.Edits.{rows_for}
use Rattle.pfml.specs.declared.kind.Kind.{Kind}
use Rattle.pfml.specs.declared.kind.Kind.TheVariants.{Transmitter, Employer, Employee, Total, Final, Unknown}

part_wide : (from n : ℕ) → from + n ≤ 72 → AllWide (take n (drop from fields))
part_wide from n fits k h =
    let here : k < n = let l = simp (length-take, length-drop) at h in omega arith in
    let there : from + k < 72 = omega arith in
    let row : get_or (take n (drop from fields)) k no_row ≡ get_or fields (from + k) no_row =
    get_or-take n (drop from fields) k no_row here ∙ get_or-drop from fields k no_row in
    rw row (wide_of (class_in (get_or fields (from + k) no_row)) (first_in (get_or fields (from + k) no_row)) (last_in (get_or fields (from + k) no_row)) (class_widths (from + k) there))

pub rows_wide : (kind : Kind) → AllWide (rows_for kind)
rows_wide Transmitter = subst (λ rows. AllWide rows) part_of_A (part_wide 0 17 (omega arith))
rows_wide Employer = subst (λ rows. AllWide rows) part_of_E (part_wide 17 28 (omega arith))
rows_wide Employee = subst (λ rows. AllWide rows) part_of_S (part_wide 45 13 (omega arith))
rows_wide Total = subst (λ rows. AllWide rows) part_of_T (part_wide 58 7 (omega arith))
rows_wide Final = subst (λ rows. AllWide rows) part_of_F (part_wide 65 7 (omega arith))
rows_wide Unknown = λ k h. absurd (not-suc-le-zero h)
