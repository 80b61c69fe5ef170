-- Definitions: the list of fields of the amended withholding file, edition 2024: the six tables of document 001. docs/formats/wham.md has its words beside
-- each field.
use Rattle.std.specs.Prelude.{List, [], ◌∷◌, ◌++◌}
use Rattle.field.specs.declared.class.Class.TheVariants.{Ignored, RecordLetter, Numeric, Flag, Period, RequiredText, OptionalText, EntityCode, StateCode, ZipCode, ZipExtension, More}
use Rattle.field.specs.declared.class.Further.TheVariants.{SocialSecurity, MaineCode, Licence, Difference}
use Rattle.field.specs.declared.class.Field.{Field}
use Rattle.edits.specs.FieldRow.{row}

-- The tables row by row: each row has the table's location, and beside it stands what the field is. A field that rules, meaning or writers name has its
-- row above the table.

-- Transmitter (A) record, 16 fields
abbrev pub year_of_a : Field
year_of_a = row Numeric 2 5

abbrev pub state_of_a : Field
state_of_a = row StateCode 139 140

unfoldable pub fields_of_a : List Field
fields_of_a =
    row RecordLetter 1 1 ∷  -- letter A
    year_of_a ∷  -- tax year
    row Numeric 6 14 ∷  -- transmitter's FEIN
    row EntityCode 15 18 ∷  -- entity
    row Ignored 19 23 ∷  -- ignored
    row RequiredText 24 73 ∷  -- name
    row RequiredText 74 113 ∷  -- street
    row RequiredText 114 138 ∷  -- city
    state_of_a ∷  -- state
    row Ignored 141 153 ∷  -- ignored
    row ZipCode 154 158 ∷  -- ZIP
    row ZipExtension 159 163 ∷  -- ZIP extension
    row RequiredText 164 193 ∷  -- contact
    row Numeric 194 203 ∷  -- telephone
    row OptionalText 204 207 ∷  -- extension or box
    row Ignored 208 275 ∷  -- ignored
    []

-- Employer (E) record, 24 fields
abbrev pub year_of_e : Field
year_of_e = row Numeric 2 5

abbrev pub fein_of_e : Field
fein_of_e = row Numeric 6 14

abbrev pub state_of_e : Field
state_of_e = row StateCode 139 140

abbrev pub period_of_e : Field
period_of_e = row Period 188 189

abbrev pub follow_of_e : Field
follow_of_e = row Flag 190 190

abbrev pub processor_of_e : Field
processor_of_e = row Numeric 209 217

abbrev pub account_of_e : Field
account_of_e = row RequiredText 258 268

unfoldable pub fields_of_e : List Field
fields_of_e =
    row RecordLetter 1 1 ∷  -- letter E
    year_of_e ∷  -- tax year
    fein_of_e ∷  -- employer's FEIN
    row Ignored 15 23 ∷  -- ignored
    row RequiredText 24 73 ∷  -- name
    row RequiredText 74 113 ∷  -- street
    row RequiredText 114 138 ∷  -- city
    state_of_e ∷  -- state
    row Ignored 141 148 ∷  -- ignored
    row ZipExtension 149 153 ∷  -- ZIP extension
    row ZipCode 154 158 ∷  -- ZIP
    row Ignored 159 166 ∷  -- ignored
    row EntityCode 167 170 ∷  -- entity
    row (More MaineCode) 171 172 ∷  -- state code
    row Ignored 173 187 ∷  -- ignored
    period_of_e ∷  -- period
    follow_of_e ∷  -- S records follow
    row Ignored 191 208 ∷  -- ignored
    processor_of_e ∷  -- payroll processor's EIN
    row (More Licence) 218 224 ∷  -- processor's licence
    row Numeric 225 228 ∷  -- number of employees
    row Ignored 229 257 ∷  -- ignored
    account_of_e ∷  -- withholding account
    row Ignored 269 275 ∷  -- ignored
    []

-- Employee (S) record, 15 rows: 46-51 is read as two, month and year, as in document 01
abbrev pub identity_of_s : Field
identity_of_s = row (More SocialSecurity) 2 10

abbrev pub last_name_of_s : Field
last_name_of_s = row RequiredText 11 30

abbrev pub first_name_of_s : Field
first_name_of_s = row RequiredText 31 42

abbrev pub initial_of_s : Field
initial_of_s = row Ignored 43 43

abbrev pub period_of_s : Field
period_of_s = row Period 46 47

abbrev pub year_of_s : Field
year_of_s = row Numeric 48 51

abbrev pub original_of_s : Field
original_of_s = row Numeric 191 202

abbrev pub correct_of_s : Field
correct_of_s = row Numeric 203 214

abbrev pub account_of_s : Field
account_of_s = row RequiredText 215 225

unfoldable pub fields_of_s : List Field
fields_of_s =
    row RecordLetter 1 1 ∷  -- letter S
    identity_of_s ∷  -- social security number
    last_name_of_s ∷  -- last name
    first_name_of_s ∷  -- first name
    initial_of_s ∷  -- middle initial
    row (More MaineCode) 44 45 ∷  -- state code
    period_of_s ∷  -- month
    year_of_s ∷  -- year
    row Ignored 52 142 ∷  -- ignored
    row EntityCode 143 146 ∷  -- entity
    row Ignored 147 190 ∷  -- ignored
    original_of_s ∷  -- original tax withheld
    correct_of_s ∷  -- correct tax withheld
    account_of_s ∷  -- withholding account
    row Ignored 226 275 ∷  -- ignored
    []

-- R record, 5 fields
abbrev pub quarter_of_r : Field
quarter_of_r = row Numeric 2 9

unfoldable pub fields_of_r : List Field
fields_of_r =
    row RecordLetter 1 1 ∷  -- letter R
    quarter_of_r ∷  -- quarter being amended
    row Ignored 10 18 ∷  -- ignored
    row Numeric 19 27 ∷  -- amount deposited
    row Ignored 28 275 ∷  -- ignored
    []

-- Total (T) record, 11 fields
abbrev pub letter_of_t : Field
letter_of_t = row RecordLetter 1 1

abbrev pub count_of_t : Field
count_of_t = row Numeric 2 8

abbrev pub code_of_t : Field
code_of_t = row EntityCode 9 12

abbrev pub payments_of_t : Field
payments_of_t = row Numeric 112 122

abbrev pub due_of_t : Field
due_of_t = row (More Difference) 123 136

abbrev pub original_of_t : Field
original_of_t = row Numeric 175 188

abbrev pub amended_of_t : Field
amended_of_t = row Numeric 213 226

unfoldable pub fields_of_t : List Field
fields_of_t =
    letter_of_t ∷  -- letter T
    count_of_t ∷  -- number of S records
    code_of_t ∷  -- entity
    row Ignored 13 111 ∷  -- ignored
    payments_of_t ∷  -- payments
    due_of_t ∷  -- due or overpaid
    row Ignored 137 174 ∷  -- ignored
    original_of_t ∷  -- original total of the S records
    row Ignored 189 212 ∷  -- ignored
    amended_of_t ∷  -- amended total
    row Ignored 227 275 ∷  -- ignored
    []

-- Final (F) record, 7 fields
abbrev pub letter_of_f : Field
letter_of_f = row RecordLetter 1 1

abbrev pub count_of_f : Field
count_of_f = row Numeric 2 11

abbrev pub employers_of_f : Field
employers_of_f = row Numeric 12 21

abbrev pub code_of_f : Field
code_of_f = row EntityCode 22 25

abbrev pub total_of_f : Field
total_of_f = row Numeric 41 55

unfoldable pub fields_of_f : List Field
fields_of_f =
    letter_of_f ∷  -- letter F
    count_of_f ∷  -- number of S records
    employers_of_f ∷  -- number of E records
    code_of_f ∷  -- entity
    row Ignored 26 40 ∷  -- ignored
    total_of_f ∷  -- total
    row Ignored 56 275 ∷  -- ignored
    []

-- The records, in the order A, E, S, R, T, F.
unfoldable pub records : List (List Field)
records = fields_of_a ∷ fields_of_e ∷ fields_of_s ∷ fields_of_r ∷ fields_of_t ∷ fields_of_f ∷ []

-- The fields, record after record.
unfoldable pub fields : List Field
fields = fields_of_a ++ fields_of_e ++ fields_of_s ++ fields_of_r ++ fields_of_t ++ fields_of_f
