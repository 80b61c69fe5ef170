-- Definitions: computed tests of a list of fields: that its rows tile a record, how wide a field of each class is, and which columns are ignored.
use Rattle.std.specs.Prelude.{ℕ, ◌+◌, Bool, true, false, ◌&&◌, ◌||◌, List, [], ◌∷◌, eqb, leb}
use Rattle.field.specs.declared.class.Class.{Class}
use Rattle.field.specs.declared.class.Class.TheVariants.{Ignored, RecordLetter, BlankSpace, Numeric, AccountNumber, Flag, ThirdQuarterFlag, Period, RequiredText, OptionalText, PersonName, EntityCode, StateCode, ZipCode, ZipExtension, TaxYear, EmployerFein, IdentityNumber, CeaseDate, More}
use Rattle.field.specs.declared.class.Further.TheVariants.{SocialSecurity, MaineCode, Licence, Difference}
use Rattle.edits.specs.FieldRow.{class_in, first_in, last_in}
use Rattle.field.specs.declared.class.Field.{Field}

-- The first row begins at column `from`, each next one right after the one before, and the last ends at the record's last column.
unfoldable pub tiles : ℕ → ℕ → List Field → Bool
tiles end from [] = eqb from (end + 1)
tiles end from (row ∷ rows) = eqb (first_in row) from && leb from (last_in row) && tiles end (last_in row + 1) rows

-- How many columns a field of each class has.
abbrev pub width_test : Class → ℕ → Bool
width_test Ignored width = leb 1 width
width_test RecordLetter width = eqb width 1
width_test BlankSpace width = leb 1 width
width_test Numeric width = leb 1 width && leb width 15
width_test AccountNumber width = eqb width 10
width_test Flag width = eqb width 1
width_test ThirdQuarterFlag width = eqb width 1
width_test Period width = eqb width 2
width_test RequiredText width = leb 1 width
width_test OptionalText width = leb 1 width
width_test PersonName width = leb 1 width
width_test EntityCode width = eqb width 4
width_test StateCode width = eqb width 2
width_test ZipCode width = eqb width 5
width_test ZipExtension width = eqb width 5
width_test TaxYear width = eqb width 4
width_test EmployerFein width = eqb width 9
width_test IdentityNumber width = eqb width 9
width_test CeaseDate width = eqb width 8
width_test (More SocialSecurity) width = eqb width 9
width_test (More MaineCode) width = eqb width 2
width_test (More Licence) width = leb 1 width
width_test (More Difference) width = leb 2 width && leb width 15

abbrev pub is_ignored : Class → Bool
is_ignored Ignored = true
is_ignored class = false

-- A column of a field that is ignored.
unfoldable pub ignored_in : List Field → ℕ → Bool
ignored_in [] column = false
ignored_in (row ∷ rows) column =
    (is_ignored (class_in row) && leb (first_in row) column && leb column (last_in row)) || ignored_in rows column
