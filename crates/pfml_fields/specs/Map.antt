-- Definitions: the map of columns, and the field that a column lies in. Place n of the five records' 1,450 columns is column n % 290 + 1 of record n / 290.
use Rattle.std.specs.Prelude.{ℕ, suc, ◌+◌, ◌/◌, ◌%◌, Bool, ◌&&◌, List, [], ◌∷◌, ◌++◌, leb, ltb, get_or, replicate, if◌then◌else◌, Option, Some, None}
use Rattle.edits.specs.FieldRow.{no_row, first_in, last_in, width_in}
use Rattle.pfml_fields.specs.Fields.{rows_of, fields, first_field}
use Rattle.field.specs.declared.class.Field.{Field}

-- The number of each row, counted from k, once for each of its columns.
unfoldable pub spread : ℕ → List Field → List ℕ
spread k [] = []
spread k (row ∷ rows) = replicate (width_in row) k ++ spread (suc k) rows

-- "One map of 1,450 numbers gives the field of every column (5 records of 290)"
unfoldable pub column_map : List ℕ
column_map = spread 0 fields

-- A column lies between a row's first and last.
unfoldable pub holds : Field → ℕ → Bool
holds row column = leb (first_in row) column && leb column (last_in row)

-- Field k is one of a record's.
unfoldable pub is_of : ℕ → ℕ → Bool
is_of kind k = leb (first_field kind) k && ltb k (first_field (suc kind))

-- "and it must agree with the list of fields": place n lies in field k, which is one of its record's and holds its column.
unfoldable pub covers : ℕ → ℕ → Bool
covers n k = is_of (n / 290) k && holds (get_or fields k no_row) (n % 290 + 1)

-- The numbers of the rows that hold a column, counted from k.
unfoldable pub holding : ℕ → ℕ → List Field → List ℕ
holding column k [] = []
holding column k (row ∷ rows) = if holds row column then k ∷ holding column (suc k) rows else holding column (suc k) rows

-- The numbers of a record's fields that a column lies in.
unfoldable pub fields_at : ℕ → ℕ → List ℕ
fields_at kind column = holding column (first_field kind) (rows_of kind)

-- What the code answers, as such a list.
abbrev pub numbers_of : Option ℕ → List ℕ
numbers_of (Some k) = k ∷ []
numbers_of None = []
