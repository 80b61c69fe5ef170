-- Laws: two S records that are alike but for the employee, in contexts alike but for the sums: edit by edit they find the same; and an R record in two such
-- contexts.
use Rattle.std.specs.Prelude.{ℕ, true, ◌≡◌, get_or}
use mathlib.Core.List.{List, [], ◌++◌}
use Rattle.std.proofs.Math.Path.{refl, sym, ap₂}
use Rattle.std.proofs.Common.{ap, ◌∙◌, eqb-true}
use Rattle.laws.specs.Finding.{fine, or_else}
use Rattle.laws.specs.Spelling.{bytes}
use Rattle.field.specs.declared.class.Class.TheVariants.{Ignored, RecordLetter, Numeric, Period, RequiredText, EntityCode, More}
use Rattle.field.specs.declared.class.Further.TheVariants.{SocialSecurity, MaineCode}
use Rattle.edits.specs.Counted.{without_sums}
use Rattle.edits.specs.Edit.{first_broken}
use Rattle.edits.specs.EditLaws.{append_fine, first_append}
use Rattle.edits.specs.FieldEdits.{field_edits}
use Rattle.edits.specs.FieldEditLaws.{no_fields}
use Rattle.edits.specs.Looks.{holds_from}
use Rattle.edits.specs.LooksLaws.{next_alike, next_shown, rows_in_contexts}
use Rattle.edits.specs.declared.Context.{Context}
use Rattle.edits.specs.declared.FurtherRule.TheVariants.{AccountOfE}
use Rattle.edits.specs.declared.Rule.TheVariants.{Nothing, YearOfA, PeriodOfA, More as MoreRules}
use Rattle.edits.specs.declared.Seen.{Seen}
use Rattle.shape.specs.Hidden.{of_employee}
use Rattle.shape.specs.Twins.{Alike, Permits, Twins}
use Rattle.shape.specs.TwinLaws.{shown_by, shown_same, permitted_alike}
use Rattle.shape.specs.declared.Note.{Note}
use Rattle.shape.specs.declared.Said.TheVariants.{OfNote}
use Rattle.wham_fields.specs.Fields.{fields_of_s, fields_of_r}
use Rattle.wham_fields.specs.FieldRules.{rules_of_s, rules_of_r}
use Rattle.wham_fields.specs.declared.Edition.{Edition}
use Rattle.wham.specs.Edits.{around, head_edits, text_edits, edits_on}
use Rattle.wham.specs.Employees.{is_personal, own_in, personal_edits}
use Rattle.wham.specs.Format.{wham_shape}
use Rattle.wham.specs.Kinds.{kind_of, kind_on, landmarks_of}
use Rattle.wham.specs.Letters.{employee_letter, kind_of_S, kind_said}
use Rattle.wham.specs.Says.{says}
use Rattle.wham.specs.declared.kind.Kind.{Kind}
use Rattle.wham.specs.declared.kind.Kind.TheVariants.{Employee, Deposit}

-- Each of the personal fields that have own rules meets them.
parts_fine : (text : List ℕ) → first_broken (personal_edits text) ≡ fine
    → (first_broken (own_in text (More SocialSecurity) 2 10) ≡ fine) × (first_broken (own_in text RequiredText 11 30) ≡ fine)
    × (first_broken (own_in text RequiredText 31 42) ≡ fine) × (first_broken (own_in text Numeric 191 202) ≡ fine) × (first_broken (own_in text Numeric 203 214) ≡ fine)
parts_fine text own =
    let id = own_in text (More SocialSecurity) 2 10 in
    let last = own_in text RequiredText 11 30 in
    let first = own_in text RequiredText 31 42 in
    let original = own_in text Numeric 191 202 in
    let correct = own_in text Numeric 203 214 in
    let all = append_fine id (last ++ first ++ original ++ correct) own in
    let names = append_fine last (first ++ original ++ correct) all.1 in
    let amounts = append_fine first (original ++ correct) names.1 in
    let rest = append_fine original correct amounts.1 in
    (all.0, names.0, amounts.0, rest.0, rest.1)

module _ (edition : Edition) (here here' : Context) (same : without_sums here ≡ without_sums here') where
  -- ---- two S records
  module _ (u v : List ℕ) (alike : Alike is_personal u v) where
    head_alike : Permits is_personal u → Permits is_personal v → first_broken (head_edits edition here u Employee) ≡ first_broken (head_edits edition here' v Employee)
    head_alike ours theirs =
        rw (permitted_alike is_personal u v alike ours theirs 275) (ap (λ (c : Context). first_broken (head_edits edition c v Employee)) same)

    fields_alike : first_broken (personal_edits u) ≡ fine → first_broken (personal_edits v) ≡ fine → (seen seen' : Seen) → seen.id ≡ seen'.id
        → first_broken (field_edits (around here seen Employee) u fields_of_s rules_of_s) ≡ first_broken (field_edits (around here' seen' Employee) v fields_of_s rules_of_s)
    unfolding fields_of_s rules_of_s holds_from bytes
    fields_alike ours theirs seen seen' asked =
        let our = parts_fine u ours in
        let their = parts_fine v theirs in
        let next = next_alike (landmarks_of Employee) (bytes "WHAM") here here' same seen seen' asked u v in
        let other = next_shown (landmarks_of Employee) (bytes "WHAM") here here' same seen seen' asked u v (shown_by is_personal) (shown_same is_personal u v alike) in
        other RecordLetter Nothing 1 1 _ _ refl
        (next (More SocialSecurity) Nothing 2 10 _ _ (our.0 ∙ sym their.0) refl
        (next RequiredText Nothing 11 30 _ _ (our.1 ∙ sym their.1) refl
        (next RequiredText Nothing 31 42 _ _ (our.2 ∙ sym their.2) refl
        (other Ignored Nothing 43 43 _ _ refl
        (other (More MaineCode) Nothing 44 45 _ _ refl
        (other Period PeriodOfA 46 47 _ _ refl
        (other Numeric YearOfA 48 51 _ _ refl
        (other Ignored Nothing 52 142 _ _ refl
        (other EntityCode Nothing 143 146 _ _ refl
        (other Ignored Nothing 147 190 _ _ refl
        (next Numeric Nothing 191 202 _ _ (our.3 ∙ sym their.3) refl
        (next Numeric Nothing 203 214 _ _ (our.4 ∙ sym their.4) refl
        (other RequiredText (MoreRules AccountOfE) 215 225 _ _ refl
        (other Ignored Nothing 226 275 _ _ refl
        (no_fields (around here seen Employee) u [] ∙ sym (no_fields (around here' seen' Employee) v []))))))))))))))))

  -- ---- an R record
  deposit_alike : (seen : Seen) (text : List ℕ)
      → first_broken (text_edits edition here seen text Deposit) ≡ first_broken (text_edits edition here' seen text Deposit)
  unfolding fields_of_r rules_of_r
  deposit_alike seen text =
      let fields = field_edits (around here seen Deposit) text fields_of_r rules_of_r in
      let fields' = field_edits (around here' seen Deposit) text fields_of_r rules_of_r in
      first_append (head_edits edition here text Deposit) fields
      ∙ ap₂ or_else (ap (λ (c : Context). first_broken (head_edits edition c text Deposit)) same)
      (ap first_broken (rows_in_contexts (landmarks_of Deposit) (bytes "WHAM") here here' same seen seen refl text fields_of_r rules_of_r tt))
      ∙ sym (first_append (head_edits edition here' text Deposit) fields')

  pub note_alike : (seen : Seen) (text : List ℕ) (note : Note) → says text ≡ OfNote note
      → first_broken (edits_on edition here seen text) ≡ first_broken (edits_on edition here' seen text)
  note_alike seen text note e =
      let is = kind_said text (OfNote note) e in
      ap (λ (kind : Kind). first_broken (text_edits edition here seen text kind)) is ∙ deposit_alike seen text
      ∙ sym (ap (λ (kind : Kind). first_broken (text_edits edition here' seen text kind)) is)

-- ---- the record
employee_kind : (text : List ℕ) → of_employee (says text) ≡ true → kind_on text ≡ Employee
employee_kind text is = ap kind_of (eqb-true (get_or text 0 0) 83 (sym (employee_letter text) ∙ is)) ∙ kind_of_S

pub twins_alike : (edition : Edition) (here here' : Context) (seen seen' : Seen) (u v : List ℕ) → Twins (wham_shape edition) here here' seen seen' u v
    → first_broken (edits_on edition here seen u) ≡ first_broken (edits_on edition here' seen' v)
twins_alike edition here here' seen seen' u v twins =
    let one = employee_kind u twins.employee_one in
    let other = employee_kind v twins.employee_other in
    ap (λ (kind : Kind). first_broken (text_edits edition here seen u kind)) one
    ∙ first_append (head_edits edition here u Employee) (field_edits (around here seen Employee) u fields_of_s rules_of_s)
    ∙ ap₂ or_else (head_alike edition here here' twins.contexts u v twins.columns twins.permitted_one twins.permitted_other)
    (fields_alike edition here here' twins.contexts u v twins.columns twins.own_one twins.own_other seen seen' twins.asked)
    ∙ sym (ap (λ (kind : Kind). first_broken (text_edits edition here' seen' v kind)) other
    ∙ first_append (head_edits edition here' v Employee) (field_edits (around here' seen' Employee) v fields_of_s rules_of_s))
