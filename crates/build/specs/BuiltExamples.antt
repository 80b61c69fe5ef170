-- Laws: records built and turned away, computed from the definitions.
use Rattle.std.specs.Prelude.{ℕ, ◌-◌, List, [], ◌∷◌, ◌++◌, map, ◌≡◌, refl, length}
use Prim.Native.String.{String}
use Rattle.laws.specs.Finding.{first_of}
use Rattle.laws.specs.Spelling.{bytes}
use Rattle.reason.specs.ReasonNumbers.{notice}
use Rattle.calendar.specs.Dates.{is_date}
use Rattle.calendar.specs.Quarters.{is_filing_year, is_quarter_month}
use Rattle.codes.specs.Codes as Codes
use Rattle.chars.specs.Characters.{is_permitted, capital_of, capitals, is_blank, is_digit, is_letter, is_of_name}
use Rattle.chars.specs.Columns.{column_test, every_column}
use Rattle.number.specs.Numbers.{number_from, number_in, value_in, put_digits, put_number}
use Rattle.rules.specs.Rules.{period_in, flag_in, begins_with69, is_nine_zeros, may_be_filed}
use Rattle.text.specs.Put.{blanks, put_text}
use Rattle.text.specs.Text.{all_blank, is_indented, is_asked, reads_as, has_pattern}
use Rattle.pfml_fields.specs.Fields.{fields_of_e, fields_of_s}
use Rattle.edits.specs.Edit.{first_broken}
use Rattle.pfml.specs.Kinds.{kind_of}
use Rattle.step.specs.Moves.{all_well}
use Rattle.write.specs.Records.{put_all}
use Rattle.write.specs.Writing.{Writing}
use Rattle.build.specs.Building.{padded, edits_of_all, building}
use Rattle.build.specs.Values.{no_account, fill_rows}

-- A call, and what it answers and leaves in the slice.
pub record Call : Type 0 where
  pub letter : ℕ
  pub values : List ℕ
  pub texts : List ℕ
  pub out : List ℕ
  pub stated : Writing

-- What the definitions say of it. Where this is opened, so is all that it is computed with.
unfoldable pub computed : Call → Writing
unfolding
    bytes first_of is_date is_filing_year is_quarter_month
    Codes.codes_in Codes.states Codes.provinces Codes.is_code Codes.is_among Codes.region_of
    is_permitted capital_of capitals is_blank is_digit is_letter is_of_name column_test every_column
    number_from number_in value_in put_digits put_number period_in flag_in begins_with69 is_nine_zeros may_be_filed
    put_text all_blank is_indented is_asked reads_as has_pattern
    fields_of_e fields_of_s first_broken kind_of put_all
    padded edits_of_all building fill_rows
computed c = building c.letter c.values c.texts c.out

-- A text in so many columns.
abbrev wide : ℕ → String → List ℕ
wide width text = bytes text ++ blanks (width - length (bytes text))

abbrev built : List ℕ → Writing
built line = record { says = all_well; out = line }

abbrev turned_away : ℕ → ℕ → List ℕ → Writing
turned_away number column out = record { says = notice number 0 column; out = out }

-- An S record: identity number, how long the two names are, period, year, wages and FEIN; the last entry, of blank space, is left out.
abbrev employee : ℕ → ℕ → List ℕ
employee last first = 0 ∷ 123456789 ∷ last ∷ first ∷ 0 ∷ 6 ∷ 2026 ∷ 0 ∷ 123456 ∷ 0 ∷ 0 ∷ 12345678 ∷ []

-- An E record without an account number.
abbrev employer : List ℕ
employer =
    0 ∷ 2026 ∷ 12345678 ∷ 0 ∷ 10 ∷ 13 ∷ 7 ∷ 2 ∷ 0 ∷ 0 ∷ 5 ∷ 0 ∷ 0 ∷ 0 ∷ no_account ∷ 0 ∷ 0 ∷ 3 ∷ 1 ∷ 0 ∷ 0 ∷ 7 ∷ 17 ∷ 2075550100 ∷ 0 ∷ 0 ∷ 0 ∷ 0 ∷ []

abbrev call : ℕ → List ℕ → List ℕ → ℕ → (List ℕ → Writing) → Call
call letter values texts size stated =
    record { letter = letter; values = values; texts = texts; out = blanks size; stated = stated (blanks size) }

abbrev pub calls : List Call
calls =
    -- numbers with zeros in front, texts in capitals with blanks after
    call 83 (employee 10 4) (bytes "O'Neil-RoyAnne") 290 (λ out. built (
    wide 30 "S123456789O'NEIL-ROY" ++ wide 15 "ANNE" ++ wide 18 "062026" ++ wide 79 "00000000123456" ++ wide 148 "PFML012345678")) ∷
    -- "An empty account number gives ten blanks."
    call 69 employer (bytes "Oak Bakery2 Main StreetAugustame04330A Clerkclerk@oak.example") 290 (λ out. built (
    wide 23 "E2026012345678" ++ wide 50 "OAK BAKERY" ++ wide 40 "2 MAIN STREET" ++ wide 25 "AUGUSTA" ++ wide 15 "ME" ++ wide 13 "04330" ++ wide 20 "PFML"
    ++ wide 14 "00310" ++ wide 30 "A CLERK" ++ wide 30 "CLERK@OAK.EXAMPLE" ++ wide 21 "2075550100" ++ bytes "000000000")) ∷
    -- a slice of 289 bytes; a name of 21 characters; a bad character; a digit in a name
    call 83 (employee 10 4) (bytes "O'Neil-RoyAnne") 289 (turned_away 84 0) ∷
    call 83 (employee 21 4) (bytes "O'Neil-RoyAnneO'Neil-RoyAnne") 290 (turned_away 85 11) ∷
    call 83 (employee 3 4) (bytes "Roy" ++ (65 ∷ 9 ∷ 65 ∷ 65 ∷ [])) 290 (turned_away 3 32) ∷
    call 83 (employee 3 5) (bytes "RoyAnne2") 290 (turned_away 54 35) ∷
    []

pub as_stated : map computed calls ≡ map (λ (c : Call). c.stated) calls
unfolding computed
as_stated = refl
