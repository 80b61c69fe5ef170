-- Definitions: the list of fields: "Columns and fields are the five tables of document 000".
use Rattle.std.specs.Prelude.{ℕ, List, [], ◌∷◌, ◌++◌, get_or}
use Rattle.field.specs.declared.class.Class.TheVariants.{RecordLetter, BlankSpace, Numeric, AccountNumber, Flag, ThirdQuarterFlag, Period, RequiredText, OptionalText, PersonName, EntityCode, StateCode, ZipCode, ZipExtension, TaxYear, EmployerFein, IdentityNumber, CeaseDate}
use Rattle.field.specs.declared.class.Field.{Field}
use Rattle.edits.specs.FieldRow.{row}

-- The five tables row by row: each row has the table's location, and beside it stands the table's name of the field. A field that rules, meaning, writers
-- or the fast path name has its row above the table.

-- Transmitter (A) Record, "17 fields"
abbrev pub year_of_a : Field
year_of_a = row TaxYear 2 5

abbrev pub period_of_a : Field
period_of_a = row Period 19 20

abbrev pub state_of_a : Field
state_of_a = row StateCode 139 140

unfoldable pub fields_of_a : List Field
fields_of_a =
    row RecordLetter 1 1 ∷  -- Record Identifier
    year_of_a ∷  -- Tax Year
    row EmployerFein 6 14 ∷  -- Transmitter's Federal Employer ID #
    row EntityCode 15 18 ∷  -- Taxing Entity Code
    period_of_a ∷  -- Period Covered
    row BlankSpace 21 23 ∷  -- Blank Space
    row RequiredText 24 73 ∷  -- Transmitter Name
    row RequiredText 74 113 ∷  -- Transmitter Street Address
    row RequiredText 114 138 ∷  -- Transmitter City
    state_of_a ∷  -- Transmitter State
    row BlankSpace 141 153 ∷  -- Blank Space
    row ZipCode 154 158 ∷  -- Transmitter ZIP Code
    row ZipExtension 159 163 ∷  -- Transmitter ZIP Code Extension
    row RequiredText 164 193 ∷  -- Transmitter Contact
    row Numeric 194 203 ∷  -- Transmitter Contact Telephone Number
    row OptionalText 204 207 ∷  -- Telephone Extension/Box
    row BlankSpace 208 290 ∷  -- Blank Space
    []

-- Employer (E) Record, "28"
abbrev pub year_of_e : Field
year_of_e = row TaxYear 2 5

abbrev pub fein_of_e : Field
fein_of_e = row EmployerFein 6 14

abbrev pub state_of_e : Field
state_of_e = row StateCode 139 140

abbrev pub account_of_e : Field
account_of_e = row AccountNumber 173 182

abbrev pub amended_of_e : Field
amended_of_e = row Flag 187 187

abbrev pub period_of_e : Field
period_of_e = row Period 188 189

abbrev pub no_wages_of_e : Field
no_wages_of_e = row Flag 190 190

abbrev pub final_of_e : Field
final_of_e = row Flag 282 282

abbrev pub cease_date_of_e : Field
cease_date_of_e = row CeaseDate 283 290

unfoldable pub fields_of_e : List Field
fields_of_e =
    row RecordLetter 1 1 ∷  -- Record Identifier
    year_of_e ∷  -- Tax Year
    fein_of_e ∷  -- Employer Federal Employer ID Number
    row BlankSpace 15 23 ∷  -- Blank Space
    row RequiredText 24 73 ∷  -- Employer Name
    row RequiredText 74 113 ∷  -- Employer Street Address
    row RequiredText 114 138 ∷  -- Employer City
    state_of_e ∷  -- Employer State
    row BlankSpace 141 148 ∷  -- Blank Space
    row ZipExtension 149 153 ∷  -- Zip Code Extension
    row ZipCode 154 158 ∷  -- Zip Code
    row BlankSpace 159 166 ∷  -- Blank Space
    row EntityCode 167 170 ∷  -- Taxing Entity Code
    row BlankSpace 171 172 ∷  -- Blank Space
    account_of_e ∷  -- MPL Account Number
    row BlankSpace 183 186 ∷  -- Blank Space
    amended_of_e ∷  -- Amended Return
    period_of_e ∷  -- Period Covered
    no_wages_of_e ∷  -- No Wages
    row ThirdQuarterFlag 191 191 ∷  -- Did you have at least 15 covered employees ..
    row BlankSpace 192 200 ∷  -- Blank Space
    row RequiredText 201 230 ∷  -- Employer Contact
    row RequiredText 231 260 ∷  -- Employer Email
    row Numeric 261 270 ∷  -- Employer Phone: type N decides, not "Required text"
    row OptionalText 271 274 ∷  -- Employer Phone Ext.
    row BlankSpace 275 281 ∷  -- Blank Space
    final_of_e ∷  -- Is this your final return?
    cease_date_of_e ∷  -- Cease Date
    []

-- Employee (S) Record, "12": 13 rows, since "S 46-51 is read as two, 46-47 and 48-51"
abbrev pub letter_of_s : Field
letter_of_s = row RecordLetter 1 1

abbrev pub identity_of_s : Field
identity_of_s = row IdentityNumber 2 10

abbrev pub last_name_of_s : Field
last_name_of_s = row PersonName 11 30

abbrev pub first_name_of_s : Field
first_name_of_s = row PersonName 31 42

abbrev pub period_of_s : Field
period_of_s = row Period 46 47

abbrev pub year_of_s : Field
year_of_s = row TaxYear 48 51

abbrev pub wages_of_s : Field
wages_of_s = row Numeric 64 77

abbrev pub code_of_s : Field
code_of_s = row EntityCode 143 146

abbrev pub fein_of_s : Field
fein_of_s = row Numeric 147 155

unfoldable pub fields_of_s : List Field
fields_of_s =
    letter_of_s ∷  -- Record Identifier
    identity_of_s ∷  -- Social Security Number / ITIN
    last_name_of_s ∷  -- Employee/Individual Last Name
    first_name_of_s ∷  -- Employee/Individual First Name
    row BlankSpace 43 45 ∷  -- Blank Space
    period_of_s ∷  -- Reporting Quarter and Year: the quarter
    year_of_s ∷  -- Reporting Quarter and Year: the year
    row BlankSpace 52 63 ∷  -- Blank Space
    wages_of_s ∷  -- Total Wages Paid This Quarter
    row BlankSpace 78 142 ∷  -- Blank Space
    code_of_s ∷  -- Taxing Entity Code
    fein_of_s ∷  -- Employer's FEIN
    row BlankSpace 156 290 ∷  -- Blank Space
    []

-- Total (T) Record, "7"
abbrev pub letter_of_t : Field
letter_of_t = row RecordLetter 1 1

abbrev pub count_of_t : Field
count_of_t = row Numeric 2 8

abbrev pub code_of_t : Field
code_of_t = row EntityCode 9 12

abbrev pub fein_of_t : Field
fein_of_t = row Numeric 13 21

abbrev pub blank_of_t : Field
blank_of_t = row BlankSpace 22 26

abbrev pub wages_of_t : Field
wages_of_t = row Numeric 27 40

abbrev pub rest_of_t : Field
rest_of_t = row BlankSpace 41 290

unfoldable pub fields_of_t : List Field
fields_of_t =
    letter_of_t ∷  -- Record Identifier
    count_of_t ∷  -- Total Number of S Records
    code_of_t ∷  -- Taxing Entity Code
    fein_of_t ∷  -- Employer's FEIN
    blank_of_t ∷  -- Blank Space
    wages_of_t ∷  -- Total Wages Paid This Quarter
    rest_of_t ∷  -- Blank Space
    []

-- Final (F) Record, "7"
abbrev pub letter_of_f : Field
letter_of_f = row RecordLetter 1 1

abbrev pub count_of_f : Field
count_of_f = row Numeric 2 11

abbrev pub employers_of_f : Field
employers_of_f = row Numeric 12 21

abbrev pub code_of_f : Field
code_of_f = row EntityCode 22 25

abbrev pub blank_of_f : Field
blank_of_f = row BlankSpace 26 40

abbrev pub wages_of_f : Field
wages_of_f = row Numeric 41 55

abbrev pub rest_of_f : Field
rest_of_f = row BlankSpace 56 290

unfoldable pub fields_of_f : List Field
fields_of_f =
    letter_of_f ∷  -- Record Identifier
    count_of_f ∷  -- Total Number of S Records in File
    employers_of_f ∷  -- Total Number of E Records in File
    code_of_f ∷  -- Taxing Entity Code
    blank_of_f ∷  -- Blank Space
    wages_of_f ∷  -- Total Wages in File
    rest_of_f ∷  -- Blank Space
    []

-- The records, counted from 0 in the order A, E, S, T, F.
unfoldable pub records : List (List Field)
records = fields_of_a ∷ fields_of_e ∷ fields_of_s ∷ fields_of_t ∷ fields_of_f ∷ []

-- The fields of a record; past the five records there is none.
abbrev pub rows_of : ℕ → List Field
rows_of kind = get_or records kind []

-- "so 72 in all": the fields, counted from 0, record after record
unfoldable pub fields : List Field
fields = fields_of_a ++ fields_of_e ++ fields_of_s ++ fields_of_t ++ fields_of_f

-- Where the fields of each record begin in the list. Past the five records, after it.
unfoldable pub starts : List ℕ
starts = 0 ∷ 17 ∷ 45 ∷ 58 ∷ 65 ∷ []

unfoldable pub first_field : ℕ → ℕ
first_field kind = get_or starts kind 72
