-- Definitions: the values that a record is built from, and what a field reads as.
use Rattle.std.specs.Prelude.{ℕ, ◌-◌, List, [], ◌∷◌, eqb, get_or, take, drop, if◌then◌else◌}
use Rattle.laws.specs.Finding.{Reading, value, refused}
use Rattle.laws.specs.Spelling.{bytes}
use Rattle.chars.specs.Characters.{is_blank, capitals}
use Rattle.chars.specs.Columns.{width_of}
use Rattle.number.specs.Numbers.{number_in}
use Rattle.text.specs.Text.{all_blank}
use Rattle.field.specs.declared.class.Class.{Class}
use Rattle.field.specs.declared.class.Class.TheVariants.{Ignored, RecordLetter, BlankSpace, Numeric, AccountNumber, Flag, ThirdQuarterFlag, Period, RequiredText, OptionalText, PersonName, EntityCode, StateCode, ZipCode, ZipExtension, TaxYear, EmployerFein, IdentityNumber, CeaseDate, More}
use Rattle.edits.specs.FieldRow.{class_in, first_in, last_in}
use Rattle.pfml.specs.Edits.{rows_for}
use Rattle.pfml.specs.Kinds.{kind_of}
use Rattle.build.specs.declared.form.Form.{Form}
use Rattle.build.specs.declared.form.Form.TheVariants.{Amount, Account, Words, Letter, Code, Blank}
use Rattle.field.specs.declared.class.Field.{Field}

-- An unpadded value: a number, an account number that is left out, or a text.
pub data Value : Type 0 where
  amount : ℕ → Value
  none : Value
  words : List ℕ → Value

-- How a field of each class is filled: numbers are "given and read as numbers"; the letter, the entity code and blank space are no caller's.
abbrev pub form_of : Class → Form
form_of Ignored = Blank
form_of RecordLetter = Letter
form_of BlankSpace = Blank
form_of Numeric = Amount
form_of AccountNumber = Account
form_of Flag = Amount
form_of ThirdQuarterFlag = Amount
form_of Period = Amount
form_of RequiredText = Words
form_of OptionalText = Words
form_of PersonName = Words
form_of EntityCode = Code
form_of StateCode = Words
form_of ZipCode = Words
form_of ZipExtension = Words
form_of TaxYear = Amount
form_of EmployerFein = Amount
form_of IdentityNumber = Amount
form_of CeaseDate = Amount
-- No field of PFML is of another format's class.
form_of (More class) = Blank

-- "An empty account number" is given by the largest number of 64 bits, which no field has room for.
abbrev pub no_account : ℕ
no_account = 18446744073709551615

-- ---- the values given
-- The value of a field: of a number its entry; of a text as many characters as its entry says, or those that are there.
abbrev pub value_by : Form → ℕ → ℕ → List ℕ → Value
value_by Amount letter entry texts = amount entry
value_by Account letter entry texts = if eqb entry no_account then none else amount entry
value_by Words letter entry texts = words (take entry texts)
value_by Letter letter entry texts = words (letter ∷ [])
value_by Code letter entry texts = words (bytes "PFML")
value_by Blank letter entry texts = words []

-- How many characters of the texts it takes.
abbrev pub taken_by : Form → ℕ → ℕ
taken_by Amount entry = 0
taken_by Account entry = 0
taken_by Words entry = entry
taken_by Letter entry = 0
taken_by Code entry = 0
taken_by Blank entry = 0

-- A field of a record with its value.
pub record Filled : Type 0 where
  pub class : Class
  pub first : ℕ
  pub last : ℕ
  pub value : Value

abbrev pub form_in : Field → Form
form_in row = form_of (class_in row)

abbrev pub filled : ℕ → Field → ℕ → List ℕ → Filled
filled letter row entry texts =
    record { class = class_in row; first = first_in row; last = last_in row; value = value_by (form_in row) letter entry texts }

-- One entry for each row, 0 where there is none; the texts one after the other.
unfoldable pub fill_rows : ℕ → List Field → List ℕ → List ℕ → List Filled
fill_rows letter [] values texts = []
fill_rows letter (row ∷ rows) values texts =
    filled letter row (get_or values 0 0) texts ∷ fill_rows letter rows (drop 1 values) (drop (taken_by (form_in row) (get_or values 0 0)) texts)

-- The fields of the record that a letter names.
abbrev pub fill_record : ℕ → List ℕ → List ℕ → List Filled
fill_record letter values texts = fill_rows letter (rows_for (kind_of letter)) values texts

-- ---- the values read
-- "without trailing blanks"
abbrev pub keep : ℕ → List ℕ → List ℕ
keep c [] = if is_blank c then [] else c ∷ []
keep c (d ∷ text) = c ∷ d ∷ text

unfoldable pub trimmed : List ℕ → List ℕ
trimmed [] = []
trimmed (c ∷ text) = keep c (trimmed text)

-- The text in the columns first to last.
abbrev pub text_in : List ℕ → ℕ → ℕ → List ℕ
text_in line first last = trimmed (take (width_of first last) (drop (first - 1) line))

abbrev pub amount_in : Reading → Value
amount_in (value v) = amount v
amount_in (refused column number) = none

-- What a field of a line reads as.
abbrev pub read_by : Form → List ℕ → ℕ → ℕ → Value
read_by Amount line first last = amount_in (number_in line first last)
read_by Account line first last = if all_blank line first last then none else amount_in (number_in line first last)
read_by Words line first last = words (text_in line first last)
read_by Letter line first last = words (text_in line first last)
read_by Code line first last = words (text_in line first last)
read_by Blank line first last = words (text_in line first last)

-- "with capitals for small letters and without trailing blanks"
abbrev pub as_read : Value → Value
as_read (amount v) = amount v
as_read none = none
as_read (words text) = words (trimmed (capitals text))
