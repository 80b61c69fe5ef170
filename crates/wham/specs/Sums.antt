-- Laws: the edits of T and F, one after the other, and what makes a record pass that is one of the two.
use Rattle.std.specs.Prelude.{ℕ, Bool, true, false, not, ◌&&◌, List, [], ◌∷◌, ◌≡◌, refl, eqb, length}
use Rattle.std.proofs.Common.{inl, inr, sym, ap, ap₂, ◌∙◌}
use Rattle.laws.specs.Finding.{fine, Reading, value, refused}
use Rattle.laws.specs.Spelling.{bytes}
use Rattle.lines.specs.Cutting.{cutting}
use Rattle.lines.specs.Lines.{Line}
use Rattle.lines.specs.CutOutcomes.{taken_is_size}
use Rattle.chars.specs.Characters.{capitals}
use Rattle.chars.specs.Columns.{every_column}
use Rattle.chars.specs.declared.columns.Allowed.TheVariants.{Permitted, Digits}
use Rattle.number.specs.Numbers.{number_in, value_in}
use Rattle.text.specs.Text.{entity_test}
use Rattle.field.specs.declared.class.Class.TheVariants.{Ignored, RecordLetter, Numeric, EntityCode, More as MoreClasses}
use Rattle.field.specs.declared.class.Further.TheVariants.{Difference}
use Rattle.edits.specs.Edit.{Edit, at_first, rule, first_broken, AllFine}
use Rattle.edits.specs.EditLaws.{all_fine, all_append, first_cons, first_one, first_append}
use Rattle.edits.specs.FieldEdits.{field_edits}
use Rattle.edits.specs.FieldEditLaws.{none_listed, fields_cons}
use Rattle.edits.specs.FieldRow.{row}
use Rattle.edits.specs.Further.{is_negative, digits_from, is_due}
use Rattle.edits.specs.Own.{digits_edit}
use Rattle.edits.specs.declared.Context.{Context}
use Rattle.edits.specs.declared.Open.{Open}
use Rattle.edits.specs.declared.Phase.{Phase}
use Rattle.edits.specs.declared.Phase.TheVariants.{EOpen}
use Rattle.edits.specs.declared.Seen.{Seen}
use Rattle.edits.specs.declared.Totals.{Totals}
use Rattle.shape.specs.Fits.{EndsE}
use Rattle.shape.specs.HeadLaws.{head_passes}
use Rattle.shape.specs.Shape.{passed, judge_by}
use Rattle.shape.specs.Theorems.{not_passed, accepted_iff, cut_refuses, cut_takes}
use Rattle.shape.specs.declared.Said.{Said}
use Rattle.wham_fields.specs.FieldRules.{rules_of_t, rules_of_f}
use Rattle.wham_fields.specs.Fields.{fields_of_t, fields_of_f}
use Rattle.wham_fields.specs.declared.Edition.{Edition}
use Rattle.wham_fields.specs.declared.Edition.TheVariants.{Of2024}
use Rattle.wham.specs.Edits.{rows_for, rules_for, around, placed_edits, head_edits, text_edits}
use Rattle.wham.specs.Format.{wham_shape}
use Rattle.wham.specs.Kinds.{kind_on, is_known}
use Rattle.wham.specs.Place.{place_edits, count_edit}
use Rattle.wham.specs.PlaceTables.{place_test, place_parts}
use Rattle.wham.specs.Says.{said_by}
use Rattle.wham.specs.declared.kind.Kind.{Kind}
use Rattle.wham.specs.declared.kind.Kind.TheVariants.{Total, Final}

-- ---- the fields
-- The code of the format.
abbrev code_edit : List ℕ → ℕ → Edit
code_edit text first = at_first 34 first (entity_test (bytes "WHAM") text first)

-- What is due: digits, a hyphen in front of them or not; and the amended total less the payments.
abbrev due_digits : List ℕ → Edit
due_digits text = record { number = 30; first = 123; last = 136; finds = every_column Digits text (digits_from text 123 136) 136 }

abbrev pub is_due_of_t : List ℕ → Bool
is_due_of_t text = is_due (is_negative text 123 136) (value_in text (digits_from text 123 136) 136) (number_in text 213 226) (value_in text 112 122)

abbrev pub edits_of_t : Edition → Open → List ℕ → List Edit
edits_of_t Of2024 this text =
    digits_edit text 2 8 ∷ rule 55 2 (eqb (value_in text 2 8) this.count) ∷ rule 56 2 (not (eqb this.count 0 && this.follow)) ∷
    code_edit text 9 ∷
    digits_edit text 112 122 ∷
    due_digits text ∷ rule 57 123 (is_due_of_t text) ∷
    digits_edit text 175 188 ∷ rule 57 175 (eqb (value_in text 175 188) this.second) ∷
    digits_edit text 213 226 ∷ rule 57 213 (eqb (value_in text 213 226) this.sum) ∷ []

abbrev pub edits_of_f : Totals → List ℕ → List Edit
edits_of_f all text =
    digits_edit text 2 11 ∷ rule 58 2 (eqb (value_in text 2 11) all.count) ∷
    digits_edit text 12 21 ∷ rule 59 12 (eqb (value_in text 12 21) all.employers) ∷
    code_edit text 22 ∷
    digits_edit text 41 55 ∷ rule 60 41 (eqb (value_in text 41 55) all.sum) ∷ []

rows_of_T : fields_of_t
    ≡ row RecordLetter 1 1 ∷ row Numeric 2 8 ∷ row EntityCode 9 12 ∷ row Ignored 13 111 ∷ row Numeric 112 122 ∷ row (MoreClasses Difference) 123 136 ∷
    row Ignored 137 174 ∷ row Numeric 175 188 ∷ row Ignored 189 212 ∷ row Numeric 213 226 ∷ row Ignored 227 275 ∷ []
unfolding fields_of_t
rows_of_T = refl

rows_of_F : fields_of_f
    ≡ row RecordLetter 1 1 ∷ row Numeric 2 11 ∷ row Numeric 12 21 ∷ row EntityCode 22 25 ∷ row Ignored 26 40 ∷ row Numeric 41 55 ∷ row Ignored 56 275 ∷ []
unfolding fields_of_f
rows_of_F = refl

module _ (here : Context) (seen : Seen) (text : List ℕ) where
  pub edits_of_T : (edition : Edition) → field_edits (around here seen Total) text fields_of_t (rules_of_t edition) ≡ edits_of_t edition here.open text
  unfolding rules_of_t
  edits_of_T Of2024 = rw rows_of_T (simp (fields_cons, none_listed))

  pub edits_of_F : field_edits (around here seen Final) text fields_of_f rules_of_f ≡ edits_of_f here.all text
  unfolding rules_of_f
  edits_of_F = rw rows_of_F (simp (fields_cons, none_listed))

-- ---- the place: T under an E; F right after a T, or under an E that says that no S record follows
module _ (edition : Edition) (here : Context) where
  placed : (kind : Kind) → place_test edition here.phase here.open.follow kind ≡ fine
      → (count_edit kind here.all.count here.all.others).finds ≡ fine → first_broken (placed_edits edition here kind) ≡ fine
  placed kind place count =
      first_append (place_edits edition here.phase here.open.follow kind) (count_edit kind here.all.count here.all.others ∷ [])
      ∙ rw (place_parts, place, first_one, count)

  pub place_of_T : here.phase ≡ EOpen → first_broken (placed_edits edition here Total) ≡ fine
  place_of_T e = placed Total (ap (λ (phase : Phase). place_test edition phase here.open.follow Total) e ∙ under edition here.open.follow) refl where
    under : (edition : Edition) (follow : Bool) → place_test edition EOpen follow Total ≡ fine
    under edition true = refl
    under Of2024 false = refl

  pub place_of_F : EndsE here.phase here.open.follow → first_broken (placed_edits edition here Final) ≡ fine
  place_of_F ends = placed Final (at edition here.phase here.open.follow ends) refl where
    at : (edition : Edition) (phase : Phase) (follow : Bool) → EndsE phase follow → place_test edition phase follow Final ≡ fine
    at edition phase follow (inl after) = ap (λ (p : Phase). place_test edition p follow Final) after
    at Of2024 phase follow (inr o) = ap₂ (λ (p : Phase) (says : Bool). place_test Of2024 p says Final) o.0 o.1

-- ---- a line that passes
module _ (edition : Edition) (here : Context) (seen : Seen) (line : Line) (text : List ℕ) (read : capitals line.text ≡ text) (kind : Kind)
    (named : kind_on text ≡ kind) (taken : ℕ) where
  abbrev edits : List Edit
  edits = field_edits (around here seen kind) text (rows_for kind) (rules_for edition kind)

  -- It is cut off as a line, its characters are permitted, its letter is known and in place, and no edit of its fields is broken;
  pub passes : cutting 275 line ≡ value taken → every_column Permitted text 1 275 ≡ fine → is_known kind ≡ true
      → first_broken (placed_edits edition here kind) ≡ fine → AllFine edits → judge_by (wham_shape edition) here seen line ≡ passed taken (said_by kind text)
  passes cut permitted known place fields =
      let head : first_broken (head_edits edition here text kind) ≡ fine = first_cons _ _ ∙ rw (permitted, first_cons, known) place in
      let all : first_broken (text_edits edition here seen text kind) ≡ fine = head_passes (head_edits edition here text kind) edits head ∙ all_fine edits fields in
      cut_takes (wham_shape edition) here seen line taken cut ∙ rw (read, named, all)

  -- and the other way, where it passes none of its edits is broken,
  passed_text : (said : Said) → judge_by (wham_shape edition) here seen line ≡ passed taken said → AllFine (text_edits edition here seen text kind)
  passed_text said e = rw (read, named) at ((accepted_iff (wham_shape edition) here seen line).1 taken said e).1.1

  -- and it has 275 characters.
  pub passed_fields : (said : Said) → judge_by (wham_shape edition) here seen line ≡ passed taken said → (length line.text ≡ 275) × AllFine edits
  passed_fields said e = at (cutting 275 line) refl where
    at : (r : Reading) → cutting 275 line ≡ r → (length line.text ≡ 275) × AllFine edits
    at (refused column number) c = absurd (not_passed column number taken said (sym (cut_refuses (wham_shape edition) here seen line column number c) ∙ e))
    at (value bytes) c =
        ((taken_is_size 275 bytes line c).0, (all_append (head_edits edition here text kind) edits (passed_text said e)).1)
