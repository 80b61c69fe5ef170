-- Laws: the edits of T and F, one after the other, and what makes a record pass that is one of the two.
use Rattle.std.specs.Prelude.{ℕ, true, not, ◌&&◌, List, [], ◌∷◌, ◌≡◌, refl, eqb, length}
use Rattle.std.proofs.Common.{sym, ap, ◌∙◌}
use Rattle.laws.specs.Finding.{fine, Reading, value, refused}
use Rattle.lines.specs.Cutting.{cutting}
use Rattle.lines.specs.Lines.{Line}
use Rattle.lines.specs.CutOutcomes.{taken_is_size}
use Rattle.chars.specs.Characters.{capitals}
use Rattle.chars.specs.Columns.{every_column}
use Rattle.chars.specs.declared.columns.Allowed.TheVariants.{Permitted, Blanks}
use Rattle.number.specs.Numbers.{value_in}
use Rattle.text.specs.Text.{entity_test}
use Rattle.pfml_fields.specs.Fields.{fields_of_t, fields_of_f}
use Rattle.pfml_fields.specs.Rows.{rows_of_T, rows_of_F}
use Rattle.edits.specs.Edit.{Edit, at_first, rule, each_column, first_broken, AllFine}
use Rattle.edits.specs.EditLaws.{all_fine, all_append, first_cons, first_one, first_append}
use Rattle.edits.specs.declared.Around.{Around}
use Rattle.edits.specs.FieldEdits.{field_edits}
use Rattle.edits.specs.FieldEditLaws.{none_listed, fields_cons}
use Rattle.edits.specs.Own.{digits_edit}
use Rattle.edits.specs.declared.Context.{Context}
use Rattle.edits.specs.declared.Phase.{Phase}
use Rattle.edits.specs.declared.Phase.TheVariants.{EOpen, AfterT}
use Rattle.edits.specs.declared.Seen.{Seen}
use Rattle.pfml.specs.Kinds.{kind_on, is_known}
use Rattle.pfml.specs.Edits.{rows_for, around, placed_edits, head_edits, text_edits, rules_for}
use Rattle.pfml.specs.Says.{said_by}
use Rattle.shape.specs.Shape.{passed, judge_by}
use Rattle.pfml.specs.Format.{pfml_shape}
use Rattle.shape.specs.HeadLaws.{head_passes}
use Rattle.pfml.specs.Place.{place_edits, count_edit}
use Rattle.pfml.specs.PlaceTables.{place_test, place_parts}
use Rattle.pfml_fields.specs.FieldRules.{rules_of_t, rules_of_f}
use Rattle.shape.specs.Theorems.{not_passed, accepted_iff, cut_refuses, cut_takes}
use Rattle.pfml.specs.declared.kind.Kind.{Kind}
use Rattle.pfml.specs.declared.kind.Kind.TheVariants.{Total, Final}
use Rattle.shape.specs.declared.Said.{Said}

-- The code of the format, and blank columns.
abbrev code_edit : Around → List ℕ → ℕ → Edit
code_edit a text first = at_first 34 first (entity_test a.code text first)

abbrev blank_edit : List ℕ → ℕ → ℕ → Edit
blank_edit text first last = each_column 31 Blanks text first last

abbrev pub edits_of_t : Around → List ℕ → List Edit
edits_of_t a text =
    digits_edit text 2 8 ∷ rule 55 2 (eqb (value_in text 2 8) a.here.open.count) ∷ rule 56 2 (not (eqb a.here.open.count 0 && a.here.open.follow)) ∷
    code_edit a text 9 ∷
    digits_edit text 13 21 ∷ rule 46 13 (eqb (value_in text 13 21) a.here.open.fein) ∷
    blank_edit text 22 26 ∷
    digits_edit text 27 40 ∷ rule 57 27 (eqb (value_in text 27 40) a.here.open.sum) ∷
    blank_edit text 41 290 ∷ []

abbrev pub edits_of_f : Around → List ℕ → List Edit
edits_of_f a text =
    digits_edit text 2 11 ∷ rule 58 2 (eqb (value_in text 2 11) a.here.all.count) ∷
    digits_edit text 12 21 ∷ rule 59 12 (eqb (value_in text 12 21) a.here.all.employers) ∷
    code_edit a text 22 ∷
    blank_edit text 26 40 ∷
    digits_edit text 41 55 ∷ rule 60 41 (eqb (value_in text 41 55) a.here.all.sum) ∷
    blank_edit text 56 290 ∷ []

module _ (a : Around) (text : List ℕ) where
  pub edits_of_T : field_edits a text fields_of_t rules_of_t ≡ edits_of_t a text
  unfolding rules_of_t
  edits_of_T = rw rows_of_T (simp (fields_cons, none_listed))

  pub edits_of_F : field_edits a text fields_of_f rules_of_f ≡ edits_of_f a text
  unfolding rules_of_f
  edits_of_F = rw rows_of_F (simp (fields_cons, none_listed))

-- ---- the place: T under an E, F right after a T
module _ (here : Context) where
  placed : (kind : Kind) → place_test here.phase here.open.follow kind ≡ fine → (count_edit kind here.all.count).finds ≡ fine
      → first_broken (placed_edits here kind) ≡ fine
  placed kind place count =
      first_append (place_edits here.phase here.open.follow kind) (count_edit kind here.all.count ∷ [])
      ∙ rw (place_parts, place, first_one, count)

  pub place_of_T : here.phase ≡ EOpen → first_broken (placed_edits here Total) ≡ fine
  place_of_T e = placed Total (ap (λ (phase : Phase). place_test phase here.open.follow Total) e) refl

  pub place_of_F : here.phase ≡ AfterT → first_broken (placed_edits here Final) ≡ fine
  place_of_F e = placed Final (ap (λ (phase : Phase). place_test phase here.open.follow Final) e) refl

-- ---- a line that passes
module _ (here : Context) (seen : Seen) (line : Line) (text : List ℕ) (read : capitals line.text ≡ text) (kind : Kind) (named : kind_on text ≡ kind)
    (taken : ℕ) where
  abbrev edits : List Edit
  edits = field_edits (around here seen kind) text (rows_for kind) (rules_for kind)

  -- It is cut off as a line, its characters are permitted, its letter is known and in place, and no edit of its fields is broken;
  pub passes : cutting 290 line ≡ value taken → every_column Permitted text 1 290 ≡ fine → is_known kind ≡ true → first_broken (placed_edits here kind) ≡ fine
      → AllFine edits → judge_by pfml_shape here seen line ≡ passed taken (said_by kind text)
  passes cut permitted known place fields =
      let head : first_broken (head_edits here text kind) ≡ fine = first_cons _ _ ∙ rw (permitted, first_cons, known) place in
      let all : first_broken (text_edits here seen text kind) ≡ fine = head_passes (head_edits here text kind) edits head ∙ all_fine edits fields in
      cut_takes pfml_shape here seen line taken cut ∙ rw (read, named, all)

  -- and the other way, where it passes none of its edits is broken;
  pub passed_text : (said : Said) → judge_by pfml_shape here seen line ≡ passed taken said → AllFine (text_edits here seen text kind)
  passed_text said e = rw (read, named) at ((accepted_iff pfml_shape here seen line).1 taken said e).1.1

  -- it has 290 characters, and no edit of its fields is broken.
  pub passed_fields : (said : Said) → judge_by pfml_shape here seen line ≡ passed taken said → (length line.text ≡ 290) × AllFine edits
  passed_fields said e = at (cutting 290 line) refl where
    at : (r : Reading) → cutting 290 line ≡ r → (length line.text ≡ 290) × AllFine edits
    at (refused column number) c = absurd (not_passed column number taken said (sym (cut_refuses pfml_shape here seen line column number c) ∙ e))
    at (value bytes) c =
        ((taken_is_size 290 bytes line c).0, (all_append (head_edits here text kind) edits (passed_text said e)).1)
