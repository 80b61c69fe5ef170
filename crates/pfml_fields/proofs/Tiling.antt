-- Laws: the rows of each record tile its columns, 1 to 290, in order: one computed test, and what it says of each row.
use Rattle.std.specs.Prelude.{ℕ, suc, ◌+◌, ◌-◌, ◌≤◌, ◌<◌, Bool, true, List, [], ◌≡◌, T, length, get_or}
use Rattle.std.proofs.Common.{arith}
use Rattle.laws.specs.Table.{every, at}
use Rattle.edits.specs.FieldRow.{no_row, first_in, last_in}
use Rattle.edits.specs.RowTests.{tiles}
use Rattle.edits.specs.RowTestLaws.{next_row}
use Rattle.pfml_fields.specs.Fields.{fields_of_a, fields_of_e, fields_of_s, fields_of_t, fields_of_f, records, rows_of, fields, first_field}
use Rattle.pfml_fields.specs.Rows.{five_records, in_record, row_of_record}
use Rattle.field.specs.declared.class.Field.{Field}

tiles_all : ℕ → List Field → Bool
tiles_all kind rows = tiles 290 1 rows

all_tile : T (every tiles_all [] 0 records)
unfolding tiles_all tiles records fields_of_a fields_of_e fields_of_s fields_of_t fields_of_f
all_tile = tt

pub rows_tile : (kind : ℕ) → kind < 5 → tiles 290 1 (rows_of kind) ≡ true
unfolding tiles_all
rows_tile kind h = at tiles_all [] records all_tile kind (rw five_records h)

-- ---- the fields of a record
-- Each begins right after the one before.
pub next_begins : (kind k : ℕ) → kind < 5 → first_field kind ≤ k → suc k < first_field (suc kind)
    → first_in (get_or fields (suc k) no_row) ≡ last_in (get_or fields k no_row) + 1
next_begins kind k h low high =
    let i = k - first_field kind in
    let next : suc k - first_field kind ≡ suc i = omega arith in
    let below : suc i < length (rows_of kind) = rw next at (in_record kind h (suc k) (omega arith) high) in
    rw (row_of_record kind h (suc k) (omega arith) high, next, row_of_record kind h k low (omega arith))
    (next_row 290 1 (rows_of kind) i (rows_tile kind h) below)
