-- Laws: built_read_back, built_passes, turned_away_iff: what a caller may rely on when a record is built, and when it is not.
use Rattle.std.specs.Prelude.{ℕ, ◌+◌, ◌<◌, ◌≤◌, Bool, true, false, ◌≡◌, eqb, ltb, length, get_or}
use mathlib.Core.List.{List, [], ◌∷◌, ◌++◌, map}
use Rattle.std.proofs.Math.Path.{refl}
use Rattle.std.proofs.Common.{sym, ap, ◌∙◌, arith, eqb-true, eq-eqb, ltb-true, ltb-false}
use Rattle.std.proofs.lemmas.List.{length-replicate}
use Rattle.laws.specs.Finding.{Finding, fine, broken, Reading, value, refused}
use Rattle.laws.specs.Spelling.{bytes}
use Rattle.reason.specs.ReasonNumbers.{Notice, notice}
use Rattle.chars.specs.Columns.{width_of, allowed_test, every_column}
use Rattle.chars.specs.ColumnLaws.{unless_fine, unless_labelled, permitted_labelled, fine_columns, columns_fine}
use Rattle.chars.specs.declared.columns.Allowed.TheVariants.{Permitted}
use Rattle.text.specs.Put.{blanks}
use Rattle.number.specs.Numbers.{number_in}
use Rattle.edits.specs.FieldRow.{first_in, last_in, no_row}
use Rattle.edits.specs.RowTests.{tiles}
use Rattle.edits.specs.RowTestLaws.{tiles_none, tiles_first}
use Rattle.edits.specs.Edit.{Edit, first_broken, AllFine}
use Rattle.edits.specs.EditLaws.{fine_all, all_fine, all_append, first_of_list}
use Rattle.edits.specs.FieldsLabelled.{own_labelled}
use Rattle.edits.specs.Labels.{AllLabelled, FirstIn}
use Rattle.edits.specs.LabelLaws.{none_labelled, more_labelled, labelled_append}
use Rattle.edits.specs.Own.{own}
use Rattle.edits.specs.declared.Landmarks.{Landmarks}
use Rattle.pfml.specs.Edits.{rows_for}
use Rattle.pfml.specs.Kinds.{kind_of, landmarks_of, is_known}
use Rattle.pfml.specs.Letters.{kind_of_A, kind_of_E, kind_of_S}
use Rattle.step.specs.Moves.{all_well}
use Rattle.write.specs.PartLaws.{puts_keep}
use Rattle.write.specs.Records.{record_of}
use Rattle.build.specs.Building.{part_of, padded, fits_in, filled_edits, edits_of_all, build_edits, built_by, building}
use Rattle.build.specs.FillLaws.{padded_is, padded_length}
use Rattle.build.specs.ReadLaws.{all_read}
use Rattle.build.specs.BuiltRecords.{Built, Each, Fits, ReadsBack, Passes}
use Rattle.build.specs.RowLaws.{rows_tiled, rows_readable}
use Rattle.build.specs.StandLaws.{each_at, record_stands}
use Rattle.build.specs.Values.{amount, none, Filled, form_in, fill_rows, fill_record, amount_in, read_by, as_read}
use Rattle.build.specs.declared.form.Form.{Form}
use Rattle.build.specs.declared.form.Form.TheVariants.{Amount}
use Rattle.field.specs.declared.class.Field.{Field}

-- ---- the labels of the refusals
module _ (landmarks : Landmarks) (line : List ℕ) where
  given_labelled : (fields : List Filled) → AllLabelled (edits_of_all landmarks line fields)
  unfolding edits_of_all
  given_labelled [] = none_labelled
  given_labelled (field ∷ fields) =
      let first = field.first in
      let last = field.last in
      let fits = fits_in (width_of first last) field.value in
      let these =
      more_labelled _ _ (unless_labelled fits first 85) refl refl
      (more_labelled _ _ (permitted_labelled line first last) tt refl (own_labelled landmarks (bytes "PFML") field.class line first last)) in
      labelled_append (filled_edits landmarks line field) (edits_of_all landmarks line fields) these (given_labelled fields)

-- What an edit of a call that builds a record finds is told by its label.
pub build_labelled : (landmarks : Landmarks) (fields : List Filled) (size : ℕ) → AllLabelled (build_edits landmarks fields size)
build_labelled landmarks fields size = more_labelled _ _ (unless_labelled (eqb size 290) 0 84) refl refl (given_labelled landmarks (padded fields) fields)

-- None is 0, "accepted".
says_fine : (found : Finding) (line out : List ℕ) → ((column number : ℕ) → found ≡ broken column number → number ≡ 0 → ⊥)
    → (built_by found line out).says ≡ all_well → found ≡ fine
says_fine fine line out some says = refl
says_fine (broken column number) line out some says = absurd (some column number refl (ap (λ (n : Notice). n.number) says))

-- ---- of every field
each_more : (P Q : Filled → Type 0) (fields : List Filled) → ((field : Filled) → P field → Q field) → Each P fields → Each Q fields
each_more P Q [] more all = tt
each_more P Q (field ∷ fields) more all = (more field all.0, each_more P Q fields more all.1)

module _ (landmarks : Landmarks) (line : List ℕ) where
  fine_each : (fields : List Filled) → AllFine (edits_of_all landmarks line fields) → Each (Passes landmarks line) fields
  unfolding edits_of_all
  fine_each [] all = tt
  fine_each (field ∷ fields) all =
      let both = all_append (filled_edits landmarks line field) (edits_of_all landmarks line fields) all in
      let these = both.0 in (
        record { fits = unless_fine _ field.first 85 these.0; permitted = these.1.0; own_fine = these.1.1 },
        fine_each fields both.1,
      )

  append_all : (a b : List Edit) → AllFine a → AllFine b → AllFine (a ++ b)
  append_all [] b p q = q
  append_all (edit ∷ a) b p q = (p.0, append_all a b p.1 q)

  each_fine : (fields : List Filled) → Each (Passes landmarks line) fields → AllFine (edits_of_all landmarks line fields)
  unfolding edits_of_all
  each_fine [] all = tt
  each_fine (field ∷ fields) all =
      let here = all.0 in
      append_all (filled_edits landmarks line field) (edits_of_all landmarks line fields) (rw here.fits refl, (here.permitted, here.own_fine)) (each_fine fields all.1)

-- ---- the whole line
columns_everywhere : (letter : ℕ) (line : List ℕ) (rows : List Field) (from : ℕ) (values texts : List ℕ) → tiles 290 from rows ≡ true
    → Each (λ (field : Filled). every_column Permitted line field.first field.last ≡ fine) (fill_rows letter rows values texts)
    → (k : ℕ) → from ≤ k + 1 → k < 290 → allowed_test Permitted line k ≡ fine
unfolding fill_rows
columns_everywhere letter line [] from values texts t all k low high = absurd (omega (arith, tiles_none 290 from t))
columns_everywhere letter line (row ∷ rows) from values texts t all k low high =
    let tile = tiles_first 290 from row rows t in
    by (ltb k (last_in row)) refl tile.0 (columns_everywhere letter line rows (last_in row + 1) _ _ tile.2 all.1 k) where
      by : (here : Bool) → ltb k (last_in row) ≡ here → first_in row ≡ from → (last_in row + 1 ≤ k + 1 → k < 290 → allowed_test Permitted line k ≡ fine)
          → allowed_test Permitted line k ≡ fine
      by true e begins later = fine_columns Permitted line (first_in row) (last_in row) all.0 k (omega arith) (ltb-true k (last_in row) e)
      by false e begins later = later (omega (arith, ltb-false k (last_in row) e)) high

-- ---- a field by its number
pub amount_only : (r : Reading) (v : ℕ) → amount_in r ≡ amount v → r ≡ value v
amount_only (value w) v e = let same : w ≡ v = cc in rw same
amount_only (refused column number) v e = let z : ◌≡◌ {A = ℕ} 0 1 = cc in absurd (omega arith)

-- ---- the theorems
-- The letters of A, E and S name records.
pub known_letters : (is_known (kind_of 65) ≡ true) × (is_known (kind_of 69) ≡ true) × (is_known (kind_of 83) ≡ true)
known_letters = (ap is_known kind_of_A, ap is_known kind_of_E, ap is_known kind_of_S)

module _ (letter : ℕ) (values texts out : List ℕ) where
  abbrev pub landmarks_for : Landmarks
  landmarks_for = landmarks_of (kind_of letter)

  abbrev pub given : List Filled
  given = fill_record letter values texts

  no_edit : Built letter values texts out → first_broken (build_edits landmarks_for given (length out)) ≡ fine
  unfolding building
  no_edit built =
      let edits = build_edits landmarks_for given (length out) in
      says_fine (first_broken edits) (padded given) out
      (λ column number e. (first_of_list edits (build_labelled landmarks_for given (length out)) column number e).by_label.not_accepted) built

  -- Then the slice is the padded record.
  pub built_slice : Built letter values texts out → (building letter values texts out).out ≡ padded given
  unfolding building
  built_slice built = rw (no_edit built)

  -- A refusal is the first broken edit in the stated order, told by its label, and the slice is then as it was.
  pub refused_first : (column number : ℕ) → first_broken (build_edits landmarks_for given (length out)) ≡ broken column number
      → (building letter values texts out ≡ record { says = notice number 0 column; out = out }) × FirstIn (build_edits landmarks_for given (length out)) column number
  unfolding building
  refused_first column number e =
      (rw e, first_of_list (build_edits landmarks_for given (length out)) (build_labelled landmarks_for given (length out)) column number e)

  -- turned_away_iff: it is built exactly if the slice has 290 bytes and every value passes; so it is turned away exactly if the slice has another
  -- length, or a value is too long for its field, or it holds a bad character, or the field's own rules refuse the padded result.
  pub turned_away_iff :
      (Built letter values texts out → (length out ≡ 290) × Each (Passes landmarks_for (padded given)) given)
      × ((length out ≡ 290) × Each (Passes landmarks_for (padded given)) given → Built letter values texts out)
  unfolding building
  turned_away_iff = (
    λ built.
        let all = fine_all (build_edits landmarks_for given (length out)) (no_edit built) in
        (eqb-true (length out) 290 (unless_fine _ 0 84 all.0), fine_each landmarks_for (padded given) given all.1),
    λ passes.
        let found = all_fine (build_edits landmarks_for given (length out)) (rw (eq-eqb (length out) 290 passes.0) refl, each_fine landmarks_for (padded given) given passes.1) in
        rw found,
  )

  module _ (known : is_known (kind_of letter) ≡ true) (built : Built letter values texts out) where
    passing : Each (Passes landmarks_for (padded given)) given
    passing = (turned_away_iff.0 built).1

    final_length : length (record_of (map part_of given)) ≡ 290
    final_length = puts_keep (map part_of given) (blanks 290) ∙ length-replicate {A = ℕ} 290 0x20

    -- built_read_back: each field of a built record reads as its value.
    pub built_read_back : Each (ReadsBack (building letter values texts out).out) given
    built_read_back =
        rw (built_slice built, padded_is given)
        (all_read letter (record_of (map part_of given)) final_length (rows_for (kind_of letter)) values texts (rows_readable (kind_of letter) known)
        (record_stands letter values texts known)
        (each_more (Passes landmarks_for (padded given)) Fits given (λ field passes. passes.fits) passing))

    -- The same of field k, counted from 0, by the row that the readers take; and of a number: it is read as the number given.
    pub field_read_back : (k : ℕ) → k < length (rows_for (kind_of letter))
        → read_by (form_in (get_or (rows_for (kind_of letter)) k no_row)) (building letter values texts out).out (first_in (get_or (rows_for (kind_of letter)) k no_row))
        (last_in (get_or (rows_for (kind_of letter)) k no_row))
        ≡ as_read (get_or (map (λ (field : Filled). field.value) given) k none)
    field_read_back k h = each_at (ReadsBack (building letter values texts out).out) letter (rows_for (kind_of letter)) values texts built_read_back k h

    pub number_read_back : (k : ℕ) → k < length (rows_for (kind_of letter)) → form_in (get_or (rows_for (kind_of letter)) k no_row) ≡ Amount
        → (v : ℕ) → get_or (map (λ (field : Filled). field.value) given) k none ≡ amount v
        → number_in (building letter values texts out).out (first_in (get_or (rows_for (kind_of letter)) k no_row)) (last_in (get_or (rows_for (kind_of letter)) k no_row)) ≡ value v
    number_read_back k h is v gives =
        let line = (building letter values texts out).out in
        let first = first_in (get_or (rows_for (kind_of letter)) k no_row) in
        let last = last_in (get_or (rows_for (kind_of letter)) k no_row) in
        amount_only (number_in line first last) v (ap (λ (form : Form). read_by form line first last) (sym is) ∙ field_read_back k h ∙ ap as_read gives)

    -- built_passes: it has 290 characters, all permitted, and passes the own edits of its fields.
    pub built_passes :
        (length (building letter values texts out).out ≡ 290)
        × (every_column Permitted (building letter values texts out).out 1 290 ≡ fine)
        × Each (λ (field : Filled). AllFine (own landmarks_for (bytes "PFML") field.class (building letter values texts out).out field.first field.last)) given
    built_passes =
        rw (built_slice built) (
          padded_length given,
          columns_fine Permitted (padded given) 1 290
              (λ k low high. columns_everywhere letter (padded given) (rows_for (kind_of letter)) 1 values texts (rows_tiled (kind_of letter) known)
              (each_more (Passes landmarks_for (padded given)) (λ (field : Filled). every_column Permitted (padded given) field.first field.last ≡ fine) given
              (λ field passes. passes.permitted) passing) k (omega arith) high),
          each_more (Passes landmarks_for (padded given)) (λ (field : Filled). AllFine (own landmarks_for (bytes "PFML") field.class (padded given) field.first field.last)) given
              (λ field passes. passes.own_fine) passing,
        )
