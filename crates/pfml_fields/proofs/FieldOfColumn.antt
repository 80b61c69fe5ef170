-- Laws: the map agrees with the list of fields, and each column lies in one field of its record.
use Prim.Native.Nat.{ℕ, zero, suc, ◌+◌, ◌*◌, ◌-◌, ◌/◌, ◌%◌, ◌≤◌, ◌<◌}
use Rattle.std.specs.Prelude.{true, false, ◌≡◌, T, length, get_or}
use Rattle.std.proofs.Math.Bool.{and-false}
use mathlib.Core.List.{List, [], ◌∷◌}
use Rattle.std.proofs.Math.Path.{refl, ap}
use Rattle.std.proofs.Common.{◌∙◌, not-suc-le-zero, add-zero, leb-true, ltb-true, le-leb}
use Rattle.std.proofs.Math.Nat.{le_of_suc-le-suc}
use native.Mathlib.Omega.{arith}
use Rattle.std.proofs.lemmas.Bool.{lt-leb}
use Rattle.laws.specs.ChoiceLaws.{both_hold, within}
use Rattle.laws.specs.Table.{every, at}
use Rattle.edits.specs.FieldRow.{no_row, first_in, last_in}
use Rattle.pfml_fields.specs.Fields.{fields_of_a, fields_of_e, fields_of_s, fields_of_t, fields_of_f, rows_of, fields, starts, first_field}
use Rattle.pfml_fields.specs.Rows.{in_record, row_of_record}
use Rattle.edits.specs.RowTests.{tiles}
use Rattle.edits.specs.RowTestLaws.{tiles_first, row_within}
use Rattle.pfml_fields.specs.MapLaws.{map_length}
use Rattle.pfml_fields.proofs.Tiling.{rows_tile}
use Rattle.pfml_fields.specs.Map.{spread, column_map, holds, is_of, covers, holding, fields_at}
use Rattle.field.specs.declared.class.Field.{Field}

-- ---- the map
all_agree : T (every covers 0 0 column_map)
unfolding covers is_of holds fields fields_of_a fields_of_e fields_of_s fields_of_t fields_of_f first_field starts column_map spread
all_agree = tt

-- "it must agree with the list of fields"
pub map_agrees : (n : ℕ) → n < 1450 → covers n (get_or column_map n 0) ≡ true
map_agrees n h = at covers 0 column_map all_agree n (rw map_length h)

-- ---- the rows that hold a column
does_hold : (row : Field) (column : ℕ) → first_in row ≤ column → column ≤ last_in row → holds row column ≡ true
unfolding holds
does_hold row column low high = rw (le-leb (first_in row) column low, le-leb column (last_in row) high)

not_before : (row : Field) (column : ℕ) → column < first_in row → holds row column ≡ false
unfolding holds
not_before row column h = rw (lt-leb (first_in row) column h)

not_behind : (row : Field) (column : ℕ) → last_in row < column → holds row column ≡ false
unfolding holds
not_behind row column h = rw (lt-leb column (last_in row) h, and-false)

module _ (column : ℕ) where
  none_holds : (k : ℕ) (rows : List Field) → ((i : ℕ) → i < length rows → holds (get_or rows i no_row) column ≡ false) → holding column k rows ≡ []
  unfolding holding
  none_holds k [] none = refl
  none_holds k (row ∷ rows) none =
      rw (none 0 (omega arith)) (none_holds (suc k) rows (λ i h. none (suc i) (omega arith)))

  one_holds : (from k : ℕ) (rows : List Field) (i : ℕ) → tiles 290 from rows ≡ true → i < length rows
      → first_in (get_or rows i no_row) ≤ column → column ≤ last_in (get_or rows i no_row) → holding column k rows ≡ (k + i) ∷ []
  unfolding holding
  one_holds from k [] i t h low high = absurd (not-suc-le-zero h)
  one_holds from k (row ∷ rows) zero t h low high =
      let rest = (tiles_first 290 from row rows t).2 in
      rw (does_hold row column low high, add-zero)
      (ap (λ (l : List ℕ). k ∷ l)
      (none_holds (suc k) rows
      (λ i below. not_before (get_or rows i no_row) column (omega (arith, (row_within 290 (last_in row + 1) rows i rest below).0)))))
  one_holds from k (row ∷ rows) (suc i) t h low high =
      let rest = (tiles_first 290 from row rows t).2 in
      let below = le_of_suc-le-suc h in
      let place : k + suc i ≡ suc k + i = omega arith in
      rw (not_behind row column (omega (arith, (row_within 290 (last_in row + 1) rows i rest below).0)), place)
      (one_holds (last_in row + 1) (suc k) rows i rest below low high)

-- ---- the field of a column
module _ (kind : ℕ) (h : kind < 5) where
  row_inside : (i : ℕ) → i < length (rows_of kind) → (1 ≤ first_in (get_or (rows_of kind) i no_row)) × (last_in (get_or (rows_of kind) i no_row) ≤ 290)
  row_inside i below = let w = row_within 290 1 (rows_of kind) i (rows_tile kind h) below in (w.0, w.2)

  pub before_first : fields_at kind 0 ≡ []
  unfolding fields_at
  before_first = none_holds 0 (first_field kind) (rows_of kind) (λ i below. not_before _ 0 (row_inside i below).0)

  pub behind_last : (column : ℕ) → 290 < column → fields_at kind column ≡ []
  unfolding fields_at
  behind_last column past =
      none_holds column (first_field kind) (rows_of kind) (λ i below. not_behind _ column (omega (arith, (row_inside i below).1)))

  -- A column of a field lies in that field, and in no other of its record.
  pub field_of_row : (k column : ℕ) → first_field kind ≤ k → k < first_field (suc kind)
      → first_in (get_or fields k no_row) ≤ column → column ≤ last_in (get_or fields k no_row) → fields_at kind column ≡ k ∷ []
  unfolding fields_at
  field_of_row k column from to low high =
      let i = k - first_field kind in
      let here : first_field kind + i ≡ k = omega arith in
      let row = row_of_record kind h k from to in
      one_holds column 1 (first_field kind) (rows_of kind) i (rows_tile kind h) (in_record kind h k from to) (rw row at low) (rw row at high)
      ∙ ap (λ (n : ℕ). n ∷ []) here

-- ---- the places of the map
covered : (n k : ℕ) → n < 1450 → covers n k ≡ true → fields_at (n / 290) (n % 290 + 1) ≡ k ∷ []
unfolding covers is_of holds
covered n k h t =
    let both = both_hold _ _ t in
    let of = both_hold _ _ both.0 in
    let between = within _ _ _ both.1 in
    field_of_row (n / 290) (omega arith) k (n % 290 + 1) (leb-true _ _ of.0) (ltb-true _ _ of.1) between.0 between.1

-- A column lies in one field of its record.
pub only_one : (n k j : ℕ) → n < 1450 → covers n k ≡ true → covers n j ≡ true → k ≡ j
only_one n k j h a b =
    let p = covered n k h a in
    let q = covered n j h b in
    cc

-- It is the one that the map names.
pub field_in_map : (kind column : ℕ) → kind < 5 → 1 ≤ column → column ≤ 290
    → fields_at kind column ≡ get_or column_map (kind * 290 + (column - 1)) 0 ∷ []
field_in_map kind column h low high =
    let n = kind * 290 + (column - 1) in
    let inside : n < 1450 = omega arith in
    let its_kind : n / 290 ≡ kind = omega arith in
    let its_column : n % 290 + 1 ≡ column = omega arith in
    rw (its_kind, its_column) at (covered n (get_or column_map n 0) inside (map_agrees n inside))
