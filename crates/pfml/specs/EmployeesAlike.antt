-- Laws: two S records that are alike but for the employee, in contexts alike but for the sums: edit by edit they find the same.
use Rattle.std.specs.Prelude.{ℕ, true, ◌≡◌, eqb, get_or}
use mathlib.Core.List.{List, [], ◌++◌}
use Rattle.std.proofs.Math.Path.{refl, sym, ap}
use Rattle.std.proofs.Common.{ap₂, ◌∙◌, eqb-true}
use Rattle.laws.specs.Finding.{fine, or_else}
use Rattle.laws.specs.Spelling.{bytes}
use Rattle.number.specs.Numbers.{value_in}
use Rattle.field.specs.declared.class.Class.TheVariants.{RecordLetter, BlankSpace, Numeric, Period, PersonName, EntityCode, TaxYear, IdentityNumber}
use Rattle.pfml_fields.specs.Fields.{fields_of_s}
use Rattle.pfml_fields.specs.Rows.{rows_of_S}
use Rattle.pfml_fields.specs.FieldRules.{rules_of_s}
use Rattle.edits.specs.Counted.{without_sums}
use Rattle.edits.specs.Looks.{holds_from}
use Rattle.edits.specs.LooksLaws.{next_alike, next_shown}
use Rattle.edits.specs.Edit.{first_broken}
use Rattle.edits.specs.EditLaws.{append_fine, first_append}
use Rattle.edits.specs.FieldEdits.{field_edits}
use Rattle.edits.specs.FieldEditLaws.{no_fields}
use Rattle.edits.specs.declared.Context.{Context}
use Rattle.edits.specs.declared.Rule.TheVariants.{Nothing, YearOfA, PeriodOfA, FeinOfE, IdentityNew}
use Rattle.edits.specs.declared.Seen.{Seen}
use Rattle.shape.specs.Hidden.{of_employee, employee_in}
use Rattle.shape.specs.Twins.{Alike, Permits, Twins}
use Rattle.shape.specs.TwinLaws.{shown_by, shown_same, permitted_alike}
use Rattle.pfml.specs.Edits.{around, head_edits, text_edits, edits_on}
use Rattle.pfml.specs.Employees.{is_personal, own_in, personal_edits}
use Rattle.pfml.specs.Format.{pfml_shape}
use Rattle.pfml.specs.Kinds.{kind_of, kind_on, landmarks_of}
use Rattle.pfml.specs.Letters.{employee_letter, kind_of_S}
use Rattle.pfml.specs.Says.{said_by, says}
use Rattle.pfml.specs.declared.kind.Kind.{Kind}
use Rattle.pfml.specs.declared.kind.Kind.TheVariants.{Employee}

-- Each of the four personal fields meets its own rules.
parts_fine : (text : List ℕ) → first_broken (personal_edits text) ≡ fine
    → (first_broken (own_in text IdentityNumber 2 10) ≡ fine) × (first_broken (own_in text PersonName 11 30) ≡ fine)
    × (first_broken (own_in text PersonName 31 42) ≡ fine) × (first_broken (own_in text Numeric 64 77) ≡ fine)
parts_fine text own =
    let id = own_in text IdentityNumber 2 10 in
    let last = own_in text PersonName 11 30 in
    let first = own_in text PersonName 31 42 in
    let wages = own_in text Numeric 64 77 in
    let all = append_fine id (last ++ first ++ wages) own in
    let names = append_fine last (first ++ wages) all.1 in
    let rest = append_fine first wages names.1 in
    (all.0, names.0, rest.0, rest.1)

module _ (here here' : Context) (u v : List ℕ) (same : without_sums here ≡ without_sums here') (alike : Alike is_personal u v) where
  -- ---- characters, letter, place
  head_alike : Permits is_personal u → Permits is_personal v → first_broken (head_edits here u Employee) ≡ first_broken (head_edits here' v Employee)
  head_alike ours theirs =
      rw (permitted_alike is_personal u v alike ours theirs 290) (ap (λ (c : Context). first_broken (head_edits c v Employee)) same)

  -- ---- the fields
  fields_alike : first_broken (personal_edits u) ≡ fine → first_broken (personal_edits v) ≡ fine → (seen seen' : Seen)
      → eqb (value_in u 2 10) 0 ≡ eqb (value_in v 2 10) 0 → seen.id ≡ seen'.id
      → first_broken (field_edits (around here seen Employee) u fields_of_s rules_of_s) ≡ first_broken (field_edits (around here' seen' Employee) v fields_of_s rules_of_s)
  unfolding rules_of_s holds_from bytes
  fields_alike ours theirs seen seen' none new =
      let our = parts_fine u ours in
      let their = parts_fine v theirs in
      let full : here.ids_full ≡ here'.ids_full = ap (λ (c : Context). c.ids_full) same in
      let next = next_alike (landmarks_of Employee) (bytes "PFML") here here' same seen seen' new u v in
      let other = next_shown (landmarks_of Employee) (bytes "PFML") here here' same seen seen' new u v (shown_by is_personal) (shown_same is_personal u v alike) in
      rw rows_of_S
      (other RecordLetter Nothing 1 1 _ _ refl
      (next IdentityNumber IdentityNew 2 10 _ _ (our.0 ∙ sym their.0) (rw (new, none, full))
      (next PersonName Nothing 11 30 _ _ (our.1 ∙ sym their.1) refl
      (next PersonName Nothing 31 42 _ _ (our.2 ∙ sym their.2) refl
      (other BlankSpace Nothing 43 45 _ _ refl
      (other Period PeriodOfA 46 47 _ _ refl
      (other TaxYear YearOfA 48 51 _ _ refl
      (other BlankSpace Nothing 52 63 _ _ refl
      (next Numeric Nothing 64 77 _ _ (our.3 ∙ sym their.3) refl
      (other BlankSpace Nothing 78 142 _ _ refl
      (other EntityCode Nothing 143 146 _ _ refl
      (other Numeric FeinOfE 147 155 _ _ refl
      (other BlankSpace Nothing 156 290 _ _ refl
      (no_fields (around here seen Employee) u [] ∙ sym (no_fields (around here' seen' Employee) v [])))))))))))))))

-- ---- the record
employee_kind : (text : List ℕ) → of_employee (says text) ≡ true → kind_on text ≡ Employee
employee_kind text is = ap kind_of (eqb-true (get_or text 0 0) 83 (sym (employee_letter text) ∙ is)) ∙ kind_of_S

employee_id : (text : List ℕ) → kind_on text ≡ Employee → (employee_in (says text)).id ≡ value_in text 2 10
employee_id text is = ap (λ (kind : Kind). (employee_in (said_by kind text)).id) is

pub twins_alike : (here here' : Context) (seen seen' : Seen) (u v : List ℕ) → Twins pfml_shape here here' seen seen' u v
    → first_broken (edits_on here seen u) ≡ first_broken (edits_on here' seen' v)
twins_alike here here' seen seen' u v twins =
    let one = employee_kind u twins.employee_one in
    let other = employee_kind v twins.employee_other in
    let zeros : eqb (value_in u 2 10) 0 ≡ eqb (value_in v 2 10) 0 =
    ap (λ (n : ℕ). eqb n 0) (sym (employee_id u one)) ∙ twins.zeros ∙ ap (λ (n : ℕ). eqb n 0) (employee_id v other) in
    ap (λ (kind : Kind). first_broken (text_edits here seen u kind)) one ∙ first_append (head_edits here u Employee) (field_edits (around here seen Employee) u fields_of_s rules_of_s)
    ∙ ap₂ or_else (head_alike here here' u v twins.contexts twins.columns twins.permitted_one twins.permitted_other)
    (fields_alike here here' u v twins.contexts twins.columns twins.own_one twins.own_other seen seen' zeros twins.asked)
    ∙ sym (ap (λ (kind : Kind). first_broken (text_edits here' seen' v kind)) other ∙ first_append (head_edits here' v Employee) (field_edits (around here' seen' Employee) v fields_of_s rules_of_s))
