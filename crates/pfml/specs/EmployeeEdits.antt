-- Laws: the edits of S, one after the other, and its place.
use Rattle.std.specs.Prelude.{ℕ, true, not, ◌||◌, List, [], ◌∷◌, ◌≡◌, eqb, ltb}
use Rattle.std.proofs.Common.{◌∙◌, ltb-true}
use Rattle.std.proofs.lemmas.Bool.{lt-leb}
use Rattle.laws.specs.Finding.{fine, finding_in}
use Rattle.calendar.specs.Quarters.{is_filing_year}
use Rattle.chars.specs.declared.columns.Allowed.TheVariants.{Blanks, OfNames}
use Rattle.number.specs.Numbers.{value_in}
use Rattle.rules.specs.Rules.{period_in, may_be_filed}
use Rattle.text.specs.Text.{all_blank, is_indented, entity_test}
use Rattle.pfml_fields.specs.Fields.{fields_of_s}
use Rattle.pfml_fields.specs.Rows.{rows_of_S}
use Rattle.edits.specs.Edit.{Edit, at_first, rule, each_column, first_broken}
use Rattle.edits.specs.EditLaws.{first_one, first_append}
use Rattle.edits.specs.declared.Around.{Around}
use Rattle.edits.specs.FieldEdits.{field_edits}
use Rattle.edits.specs.FieldEditLaws.{none_listed, fields_cons}
use Rattle.edits.specs.Own.{digits_edit}
use Rattle.edits.specs.declared.Context.{Context}
use Rattle.edits.specs.declared.Phase.TheVariants.{EOpen}
use Rattle.pfml.specs.Edits.{placed_edits}
use Rattle.pfml.specs.Place.{place_edits, count_edit}
use Rattle.shape.specs.Limits.{most_employees}
use Rattle.pfml.specs.PlaceTables.{place_parts}
use Rattle.pfml_fields.specs.FieldRules.{rules_of_s}
use Rattle.pfml.specs.declared.kind.Kind.TheVariants.{Employee}

abbrev blank_edit : List ℕ → ℕ → ℕ → Edit
blank_edit text first last = each_column 31 Blanks text first last

abbrev pub edits_of_s : Around → List ℕ → List Edit
edits_of_s a text =
    digits_edit text 2 10 ∷ rule 52 2 (may_be_filed (value_in text 2 10)) ∷
    rule 53 2 (eqb (value_in text 2 10) 0 || not a.seen.id) ∷ rule 62 2 (eqb (value_in text 2 10) 0 || not a.here.ids_full) ∷
    rule 32 11 (not (all_blank text 11 30)) ∷ rule 33 11 (not (is_indented text 11)) ∷ each_column 54 OfNames text 11 30 ∷
    rule 32 31 (not (all_blank text 31 42)) ∷ rule 33 31 (not (is_indented text 31)) ∷ each_column 54 OfNames text 31 42 ∷
    blank_edit text 43 45 ∷
    at_first 40 46 (finding_in (period_in text 46 47)) ∷ rule 43 46 (eqb (value_in text 46 47) a.here.filed.month) ∷
    digits_edit text 48 51 ∷ rule 38 48 (is_filing_year (value_in text 48 51)) ∷ rule 42 48 (eqb (value_in text 48 51) a.here.filed.year) ∷
    blank_edit text 52 63 ∷
    digits_edit text 64 77 ∷
    blank_edit text 78 142 ∷
    at_first 34 143 (entity_test a.code text 143) ∷
    digits_edit text 147 155 ∷ rule 46 147 (eqb (value_in text 147 155) a.here.open.fein) ∷
    blank_edit text 156 290 ∷ []

pub edits_of_S : (a : Around) (text : List ℕ) → field_edits a text fields_of_s rules_of_s ≡ edits_of_s a text
unfolding rules_of_s
edits_of_S a text = rw rows_of_S (simp (fields_cons, none_listed))

-- It stands under an E that says that S records follow, and is not one too many.
pub place_of_S : (here : Context) → here.phase ≡ EOpen → here.open.follow ≡ true → ltb here.all.count most_employees ≡ true
    → first_broken (placed_edits here Employee) ≡ fine
place_of_S here phase follow few =
    let count = here.all.count in
    first_append (place_edits here.phase here.open.follow Employee) (count_edit Employee count ∷ [])
    ∙ rw (place_parts, phase, follow, first_one, lt-leb most_employees count (ltb-true count most_employees few))
