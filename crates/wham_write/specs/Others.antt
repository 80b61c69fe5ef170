-- Definitions: in what another T or F that is accepted may differ from the written one.
use Rattle.std.specs.Prelude.{ℕ, ◌-◌, Bool, ◌&&◌, ◌||◌, List, ◌⊎◌, ◌≡◌, leb, take, drop}
use Rattle.laws.specs.Spelling.{bytes}
use Rattle.edits.specs.FieldRow.{first_in, last_in, width_in}
use Rattle.edits.specs.RowTests.{ignored_in}
use Rattle.shape.specs.Twins.{Alike}
use Rattle.wham_fields.specs.Fields.{fields_of_t, fields_of_f, due_of_t}
use Rattle.field.specs.declared.class.Field.{Field}

-- "in ignored columns": the same character in every column that is in no row of class Ignored
abbrev pub SameButIgnored : List Field → List ℕ → List ℕ → Type 0
SameButIgnored rows line written = Alike (ignored_in rows) line written

-- What stands in a field, and whether a column is one of the field's.
abbrev pub stands_in : Field → List ℕ → List ℕ
stands_in field line = take (width_in field) (drop (first_in field - 1) line)

abbrev pub is_of : Field → ℕ → Bool
is_of field column = leb (first_in field) column && leb column (last_in field)

-- "in T by a hyphen before thirteen zeros": in 123-136, where the written record has fourteen zeros; else the same but in ignored columns
pub record MinusZero (line written : List ℕ) : Type 0 where
  pub minus : stands_in due_of_t line ≡ bytes "-0000000000000"
  pub plus : stands_in due_of_t written ≡ bytes "00000000000000"
  pub elsewhere : Alike (λ column. ignored_in fields_of_t column || is_of due_of_t column) line written

abbrev pub SameTotal : List ℕ → List ℕ → Type 0
SameTotal line written = SameButIgnored fields_of_t line written ⊎ MinusZero line written

abbrev pub SameFinal : List ℕ → List ℕ → Type 0
SameFinal line written = SameButIgnored fields_of_f line written
