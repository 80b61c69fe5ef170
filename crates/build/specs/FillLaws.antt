-- Laws: filling rows with values, as a loop over the rows uses it.
use Rattle.std.specs.Prelude.{ℕ, ◌+◌, ◌-◌, ◌<◌, ◌≤◌, min, Bool, true, false, List, [], ◌∷◌, map, ◌≡◌, refl, leb, length, drop}
use Rattle.std.proofs.Common.{sym, ap, ◌∙◌, add-zero, arith, drop_of_length-le, drop-cons, leb-true, leb-false}
use Rattle.std.proofs.Math.Nat.{min-eq_left, min-eq_right, min-le_right}
use Rattle.std.proofs.Math.Numerals.{add-one}
use Rattle.std.proofs.Math.ListN.{get_or}
use Rattle.std.proofs.lemmas.List.{length-replicate}
use Rattle.std.proofs.Math.Seq.{drop-drop, get_or-drop}
use Rattle.laws.specs.Finding.{Finding, fine, broken, or_else}
use Rattle.chars.specs.Characters.{capitals}
use Rattle.chars.specs.CharacterLaws.{capitals_length, capitals_again}
use Rattle.chars.specs.Columns.{width_of, every_column, unless}
use Rattle.chars.specs.declared.columns.Allowed.TheVariants.{Permitted}
use Rattle.laws.specs.Spelling.{bytes}
use Rattle.field.specs.ClassTests.{class_test}
use Rattle.edits.specs.FieldRow.{no_row}
use Rattle.edits.specs.Edit.{first_broken}
use Rattle.edits.specs.EditLaws.{first_none, first_cons, first_append}
use Rattle.edits.specs.Tests.{own_rest, Wide}
use Rattle.edits.specs.FieldParts.{own_parts}
use Rattle.edits.specs.declared.Landmarks.{Landmarks}
use Rattle.text.specs.Put.{blanks}
use Rattle.write.specs.PartLaws.{puts_keep, put_none, put_first}
use Rattle.write.specs.Records.{put, put_all, record_of}
use Rattle.build.specs.Building.{part_of, padded, fits_in, filled_edits, edits_of_all}
use Rattle.build.specs.Values.{Filled, taken_by, form_in, filled, fill_rows}
use Rattle.field.specs.declared.class.Field.{Field}

-- ---- the texts that are left
-- Past the end of the texts there is none.
drop_least : (text : List ℕ) (at n : ℕ) → drop (at + n) text ≡ drop (at + min n (length text - at)) text
drop_least text at n = by (leb n (length text - at)) refl where
  by : (short : Bool) → leb n (length text - at) ≡ short → drop (at + n) text ≡ drop (at + min n (length text - at)) text
  by true e = rw (min-eq_left (leb-true n (length text - at) e))
  by false e =
      let past = leb-false n (length text - at) e in
      rw (min-eq_right {n = length text - at} {m = n} (omega arith), drop_of_length-le text {i = at + n} (omega arith), drop_of_length-le text {i = at + (length text - at)} (omega arith))

-- ---- field k, when the texts before place `at` are taken, and how many characters it takes
abbrev pub field_at : ℕ → List Field → List ℕ → List ℕ → ℕ → ℕ → Filled
field_at letter rows values texts k at = filled letter (get_or rows k no_row) (get_or values k 0) (drop at texts)

abbrev pub taken_at : List Field → List ℕ → List ℕ → ℕ → ℕ → ℕ
taken_at rows values texts k at = min (taken_by (form_in (get_or rows k no_row)) (get_or values k 0)) (length texts - at)

-- They do not go past the end of the texts.
pub taken_inside : (rows : List Field) (values texts : List ℕ) (k at taken : ℕ) → at ≤ length texts → taken ≡ taken_at rows values texts k at
    → at + taken ≤ length texts
taken_inside rows values texts k at taken h takes =
    let within = min-le_right (taken_by (form_in (get_or rows k no_row)) (get_or values k 0)) (length texts - at) in
    omega arith

-- The fields from number k on.
abbrev pub fill_from : ℕ → List Field → List ℕ → List ℕ → ℕ → ℕ → List Filled
fill_from letter rows values texts k at = fill_rows letter (drop k rows) (drop k values) (drop at texts)

module _ (letter : ℕ) (rows : List Field) (values texts : List ℕ) (k at : ℕ) where
  pub fill_done : length rows ≤ k → fill_from letter rows values texts k at ≡ []
  unfolding fill_rows
  fill_done h = rw (drop_of_length-le rows h)

  fill_more : k < length rows → (taken : ℕ) → taken ≡ taken_at rows values texts k at
      → fill_from letter rows values texts k at ≡ field_at letter rows values texts k at ∷ fill_from letter rows values texts (k + 1) (at + taken)
  unfolding fill_rows
  fill_more h taken takes =
      let n = taken_by (form_in (get_or rows k no_row)) (get_or values k 0) in
      let here : get_or (drop k values) 0 0 ≡ get_or values k 0 = get_or-drop k values 0 0 ∙ rw (add-zero k) in
      rw (drop-cons rows k no_row h, here, drop-drop 1 k values, drop-drop n at texts, drop_least texts at n, takes, add-one k)

-- ---- the values put in
pub still_blank : (line : List ℕ) (n : ℕ) → line ≡ blanks n → blanks (length line) ≡ line
still_blank line n e = ap blanks (ap length e ∙ length-replicate {A = ℕ} n 0x20) ∙ sym e

pub puts_done : (line : List ℕ) (fields : List Filled) → fields ≡ [] → put_all (map part_of fields) line ≡ line
puts_done line fields e = rw e (put_none line)

pub padded_is : (fields : List Filled) → padded fields ≡ capitals (record_of (map part_of fields))
unfolding padded
padded_is fields = refl

pub padded_read : (fields : List Filled) → capitals (padded fields) ≡ padded fields
unfolding padded
padded_read fields = capitals_again (record_of (map part_of fields))

pub padded_length : (fields : List Filled) → length (padded fields) ≡ 290
unfolding padded
padded_length fields =
    capitals_length (record_of (map part_of fields)) ∙ puts_keep (map part_of fields) (blanks 290) ∙ length-replicate {A = ℕ} 290 0x20

-- ---- the edits
module _ (landmarks : Landmarks) (line : List ℕ) where
  -- A field's edits in order.
  pub filled_parts : (field : Filled) → Wide field.class field.first field.last
      → first_broken (filled_edits landmarks line field)
      ≡ or_else (unless (fits_in (width_of field.first field.last) field.value) field.first 85)
      (or_else (every_column Permitted line field.first field.last)
      (or_else (class_test field.class line field.first field.last) (own_rest landmarks (bytes "PFML") field.class line field.first field.last)))
  filled_parts field wide =
      rw (first_cons, first_cons, own_parts landmarks (bytes "PFML") field.class line field.first field.last wide)

  pub edits_done : (fields : List Filled) → fields ≡ [] → first_broken (edits_of_all landmarks line fields) ≡ fine
  unfolding edits_of_all
  edits_done fields e = rw e first_none

-- ---- a loop's step: field k
module _ (letter : ℕ) (rows : List Field) (values texts : List ℕ) (k at : ℕ) (here : k < length rows) where
  pub put_next : (taken : ℕ) → taken ≡ taken_at rows values texts k at → (line after : List ℕ) → after ≡ put (part_of (field_at letter rows values texts k at)) line
      → put_all (map part_of (fill_from letter rows values texts k at)) line ≡ put_all (map part_of (fill_from letter rows values texts (k + 1) (at + taken))) after
  put_next taken takes line after puts =
      rw (fill_more letter rows values texts k at here taken takes, puts)
      (put_first (part_of (field_at letter rows values texts k at)) (map part_of (fill_from letter rows values texts (k + 1) (at + taken))) line)

  -- What its edits find: a broken one is the first; where there is none, the others' are left.
  module _ (landmarks own_landmarks : Landmarks) (line : List ℕ) (found : Finding) (same : own_landmarks ≡ landmarks)
      (finds : found ≡ first_broken (filled_edits own_landmarks line (field_at letter rows values texts k at))) where
    by_field : (taken : ℕ) → taken ≡ taken_at rows values texts k at
        → first_broken (edits_of_all landmarks line (fill_from letter rows values texts k at))
        ≡ or_else found (first_broken (edits_of_all landmarks line (fill_from letter rows values texts (k + 1) (at + taken))))
    unfolding edits_of_all
    by_field taken takes =
        rw (fill_more letter rows values texts k at here taken takes, finds, same)
        (first_append (filled_edits landmarks line (field_at letter rows values texts k at)) (edits_of_all landmarks line (fill_from letter rows values texts (k + 1) (at + taken))))

    pub edits_found : (column number : ℕ) → found ≡ broken column number
        → first_broken (edits_of_all landmarks line (fill_from letter rows values texts k at)) ≡ broken column number
    edits_found column number hit = by_field (taken_at rows values texts k at) refl ∙ rw hit

    pub edits_next : (taken : ℕ) → taken ≡ taken_at rows values texts k at → found ≡ fine
        → first_broken (edits_of_all landmarks line (fill_from letter rows values texts k at))
        ≡ first_broken (edits_of_all landmarks line (fill_from letter rows values texts (k + 1) (at + taken)))
    edits_next taken takes passed = by_field taken takes ∙ rw passed
