-- Laws: the rows of the record that a letter names: where they stand in the list of all fields, and how wide their numbers are.
use Rattle.std.specs.Prelude.{ℕ, ◌+◌, ◌<◌, ◌≤◌, true, List, [], ◌≡◌, refl, length, get_or}
use Rattle.std.proofs.lemmas.Bool.{false≢true}
use Rattle.std.proofs.Common.{sym, ◌∙◌, not-suc-le-zero, arith}
use Rattle.laws.specs.Lists.{any_default}
use Rattle.edits.specs.FieldRow.{class_in, first_in, last_in, no_row}
use Rattle.pfml_fields.specs.Fields.{rows_of, fields, first_field}
use Rattle.pfml_fields.specs.Fit.{is_number, number_width}
use Rattle.pfml_fields.specs.Rows.{all_fields_lem, in_list, fields_counted, field_in_all, rows_in_order, none_behind}
use Rattle.edits.specs.RowTests.{tiles}
use Rattle.pfml_fields.proofs.Tiling.{rows_tile}
use Rattle.edits.specs.Tests.{Readable}
use Rattle.pfml.specs.Edits.{rows_for}
use Rattle.pfml.specs.Kinds.{place_in_order, is_known}
use Rattle.pfml.specs.declared.kind.Kind.{Kind}
use Rattle.pfml.specs.declared.kind.Kind.TheVariants.{Transmitter, Employer, Employee, Total, Final, Unknown}
use Rattle.field.specs.declared.class.Field.{Field}

rows_at : (kind : Kind) → rows_for kind ≡ rows_of (place_in_order kind)
rows_at Transmitter = sym rows_in_order.0
rows_at Employer = sym rows_in_order.1
rows_at Employee = sym rows_in_order.2
rows_at Total = sym rows_in_order.3
rows_at Final = sym rows_in_order.4
rows_at Unknown = sym rows_in_order.5

known_place : (kind : Kind) → is_known kind ≡ true → place_in_order kind < 5
known_place Transmitter known = omega arith
known_place Employer known = omega arith
known_place Employee known = omega arith
known_place Total known = omega arith
known_place Final known = omega arith
known_place Unknown known = absurd (false≢true known)

-- ---- a record that is known
module _ (kind : Kind) (known : is_known kind ≡ true) where
  known_counted : first_field (place_in_order kind + 1) ≡ first_field (place_in_order kind) + length (rows_for kind)
  known_counted = rw (rows_at kind) (fields_counted (place_in_order kind) (known_place kind known))

  pub rows_tiled : tiles 290 1 (rows_for kind) ≡ true
  rows_tiled = rw (rows_at kind) (rows_tile (place_in_order kind) (known_place kind known))

  module _ (k : ℕ) (h : k < length (rows_for kind)) where
    in_rows : k < length (rows_of (place_in_order kind))
    in_rows = rw (rows_at kind) at h

    known_row : get_or fields (first_field (place_in_order kind) + k) no_row ≡ get_or (rows_for kind) k no_row
    known_row = rw (rows_at kind) (field_in_all (place_in_order kind) (known_place kind known) k in_rows)

    known_inside : first_field (place_in_order kind) + k < 72
    known_inside = rw all_fields_lem at (in_list (place_in_order kind) (known_place kind known) k in_rows)

    -- A number has at most 15 columns.
    known_number : is_number (class_in (get_or (rows_for kind) k no_row)) ≡ true
        → Readable (first_in (get_or (rows_for kind) k no_row)) (last_in (get_or (rows_for kind) k no_row))
    known_number number =
        let all = first_field (place_in_order kind) + k in
        let same : get_or fields all no_row ≡ get_or (rows_for kind) k no_row = known_row in
        let w = rw same at (number_width all known_inside (rw same number)) in
        (omega arith, omega arith)

-- ---- any record; one that is not known has no fields
pub rows_counted : (kind : Kind) → first_field (place_in_order kind + 1) ≡ first_field (place_in_order kind) + length (rows_for kind)
rows_counted Transmitter = known_counted Transmitter refl
rows_counted Employer = known_counted Employer refl
rows_counted Employee = known_counted Employee refl
rows_counted Total = known_counted Total refl
rows_counted Final = known_counted Final refl
rows_counted Unknown = rw (none_behind.1, none_behind.0)

-- The same, of the numbers that a count has found.
pub counted_by : (kind : Kind) (order from to : ℕ) → order ≡ place_in_order kind → from ≡ first_field order → to ≡ first_field (order + 1)
    → to ≡ from + length (rows_for kind)
counted_by kind order from to o f t = rw (t, f, o) (rows_counted kind)

pub place_small : (kind : Kind) → place_in_order kind ≤ 5
place_small Transmitter = omega arith
place_small Employer = omega arith
place_small Employee = omega arith
place_small Total = omega arith
place_small Final = omega arith
place_small Unknown = omega arith

pub row_there : (kind : Kind) (k : ℕ) → k < length (rows_for kind) → get_or fields (first_field (place_in_order kind) + k) no_row ≡ get_or (rows_for kind) k no_row
row_there Transmitter k h = known_row Transmitter refl k h
row_there Employer k h = known_row Employer refl k h
row_there Employee k h = known_row Employee refl k h
row_there Total k h = known_row Total refl k h
row_there Final k h = known_row Final refl k h
row_there Unknown k h = absurd (not-suc-le-zero h)

-- Every field of a record stands in the list of all fields.
pub row_inside : (kind : Kind) (k : ℕ) → k < length (rows_for kind) → first_field (place_in_order kind) + k < 72
row_inside Transmitter k h = known_inside Transmitter refl k h
row_inside Employer k h = known_inside Employer refl k h
row_inside Employee k h = known_inside Employee refl k h
row_inside Total k h = known_inside Total refl k h
row_inside Final k h = known_inside Final refl k h
row_inside Unknown k h = absurd (not-suc-le-zero h)

-- Every row of a number may be read as one.
abbrev pub AllReadable : List Field → Type 0
AllReadable rows =
    (k : ℕ) → k < length rows → is_number (class_in (get_or rows k no_row)) ≡ true → Readable (first_in (get_or rows k no_row)) (last_in (get_or rows k no_row))

pub rows_readable : (kind : Kind) → is_known kind ≡ true → AllReadable (rows_for kind)
rows_readable kind known k h = known_number kind known k h
