-- Definitions: cases of the amended withholding file, edition 2024, as a table: each is a whole file, with what docs/formats/wham.md says of it.
-- A computed example has to open the definitions that it computes with, those of crates below it too. Nothing rests on it.
use Rattle.std.specs.Prelude.{ℕ, List, [], ◌∷◌, ◌++◌, get_or, replicate}
use Prim.Native.String.{String}
use Rattle.laws.specs.Finding.{first_of}
use Rattle.laws.specs.Spelling.{bytes}
use Rattle.reason.specs.ReasonNumbers.{notice}
use Rattle.lines.specs.Cutting.{length_test, end_test}
use Rattle.lines.specs.Lines.{is_end, text_of, end_of, lines_from}
use Rattle.calendar.specs.Dates.{is_leap, month_days, days_in, is_last_day}
use Rattle.calendar.specs.Quarters.{is_quarter_month, is_after}
use Rattle.codes.specs.Codes as Codes
use Rattle.chars.specs.Characters.{is_permitted, capital_of, capitals, is_blank, is_digit, is_letter}
use Rattle.chars.specs.Columns.{column_test, every_column}
use Rattle.number.specs.Letters.{letters_from, letters_in}
use Rattle.number.specs.Numbers.{number_from, number_in, value_in}
use Rattle.rules.specs.Rules.{period_in, flag_in}
use Rattle.text.specs.Text.{all_blank, is_indented, is_asked, reads_as, has_pattern}
use Rattle.edits.specs.FieldEdits.{field_edits}
use Rattle.edits.specs.declared.Opening.{Opening}
use Rattle.edits.specs.declared.format.Format.TheVariants.{Wham2024}
use Rattle.wham_fields.specs.Fields.{fields_of_a, fields_of_e, fields_of_s, fields_of_r, fields_of_t, fields_of_f}
use Rattle.wham_fields.specs.FieldRules.{rules_of_a, rules_of_e, rules_of_s, rules_of_r, rules_of_t, rules_of_f}
use Rattle.wham.specs.Kinds.{kind_of}
use Rattle.tables.specs.Tables.{is_among}
use Rattle.tables.specs.declared.Employer.{Employer}
use Rattle.meaning.specs.Meaning.{edits_from, first_of_file, records_onto, Outcome, accepted, refused, meaning}
use Rattle.cases.specs.CaseTables.{room}
use Rattle.cases.specs.Example.{Change, reads, changed, file_of}

-- "Held quarter 202609."
abbrev held : Opening
held = record { format = Wham2024; year = 2026; month = 9 }

-- "Records by default, columns not named blank": a record of 275 characters with texts at their columns.
abbrev line_with : List Change → List ℕ
line_with texts = get_or (changed texts (replicate 275 0x20 ∷ [])) 0 []

abbrev at : ℕ → String → Change
at column text = reads 1 column text

abbrev A : List ℕ
A =
    line_with
    (at 1 "A2024010101010WHAM" ∷ at 24 "PINE PAYROLL" ∷ at 74 "1 MAIN STREET" ∷ at 114 "AUGUSTA" ∷ at 139 "ME" ∷ at 154 "04330" ∷ at 164 "A CLERK"
    ∷ at 194 "2075551212" ∷ [])

-- E, saying 1 or 0.
abbrev E : String → List ℕ
E says =
    line_with
    (at 1 "E2024012345678" ∷ at 24 "OAK BAKERY" ∷ at 74 "2 MAIN STREET" ∷ at 114 "BANGOR" ∷ at 139 "ME" ∷ at 154 "04401" ∷ at 167 "WHAM23" ∷ at 188 "03"
    ∷ at 190 says ∷ at 209 "000000000" ∷ at 225 "0002" ∷ at 258 "12345678900" ∷ [])

-- S, with the original and the correct tax.
abbrev S : String → String → List Change → List ℕ
S original correct changes =
    line_with
    ((at 1 "S001020003" ∷ at 11 "ROY" ∷ at 31 "ANNE" ∷ at 43 "M23032024" ∷ at 143 "WHAM" ∷ at 191 original ∷ at 203 correct ∷ at 215 "12345678900" ∷ [])
    ++ changes)

-- R, with its date.
abbrev R : String → List ℕ
R date = line_with (at 1 "R" ∷ at 2 date ∷ at 19 "000000100" ∷ [])

-- T, with the count; payments; what is due; the original and the amended total.
abbrev T : String → String → String → String → String → List ℕ
T count payments due original amended =
    line_with (at 1 "T" ∷ at 2 count ∷ at 9 "WHAM" ∷ at 112 payments ∷ at 123 due ∷ at 175 original ∷ at 213 amended ∷ [])

-- F, with the counts and the total.
abbrev F : String → String → String → List ℕ
F employees employers total = line_with (at 1 "F" ∷ at 2 employees ∷ at 12 employers ∷ at 22 "WHAM" ∷ at 41 total ∷ [])

-- A case: its number in the list, a file, and what the list says of the file.
pub record WhamCase : Type 0 where
  pub number : ℕ
  pub file : List ℕ
  pub stated : Outcome

abbrev case : ℕ → List (List ℕ) → Outcome → WhamCase
case number lines stated = record { number = number; file = file_of lines; stated = stated }

-- What the definitions say of it. Where this is opened, so is all that it is computed with.
unfoldable pub computed_wham : WhamCase → Outcome
unfolding
    bytes first_of
    lines_from is_end text_of end_of length_test end_test
    is_leap month_days days_in is_last_day is_quarter_month is_after
    Codes.codes_in Codes.states Codes.provinces Codes.is_code Codes.is_among Codes.region_of
    is_permitted capital_of capitals is_blank is_digit is_letter column_test every_column
    number_from number_in value_in letters_from letters_in period_in flag_in
    all_blank is_indented is_asked reads_as has_pattern
    fields_of_a fields_of_e fields_of_s fields_of_r fields_of_t fields_of_f
    field_edits kind_of rules_of_a rules_of_e rules_of_s rules_of_r rules_of_t rules_of_f
    is_among edits_from first_of_file records_onto
computed_wham c = meaning room held c.file

-- The employer's entry: the count and the correct tax of its S records; no kind of return is told.
abbrev entry : ℕ → ℕ → Employer
entry count cents = record { fein = 12345678; count = count; cents = cents; amended = 0; final_return = 0; cease_date = 0 }

abbrev two : List (List ℕ)
two = S "000000100000" "000000123456" [] ∷ S "000000000050" "000000000044" [] ∷ []

abbrev pub wham_table : List WhamCase
wham_table =
    -- Two S records and an R: the entry has the correct tax, the file's second sum the original one.
    case 1 ((A ∷ E "1" ∷ two) ++ (R "03312024" ∷ T "0000002" "00000100050" "00000000023450" "00000000100050" "00000000123500" ∷ F "0000000002" "0000000001" "000000000123500" ∷ []))
    (accepted (entry 2 123500 ∷ []) (record { count = 2; employers = 1; sum = 123500; second = 100050; others = 1; notes = 0 })) ∷
    -- "E saying 0, without T": the next E or F closes it.
    case 4 (A ∷ E "0" ∷ F "0000000000" "0000000001" "000000000000000" ∷ [])
    (accepted (entry 0 0 ∷ []) (record { count = 0; employers = 1; sum = 0; second = 0; others = 0; notes = 0 })) ∷
    case 5 (A ∷ E "1" ∷ E "1" ∷ []) (refused (notice 15 3 1)) ∷
    case 5 (A ∷ E "1" ∷ F "0000000000" "0000000001" "000000000000000" ∷ []) (refused (notice 17 3 1)) ∷
    case 5 (A ∷ E "1" ∷ T "0000000" "00000000000" "00000000000000" "00000000000000" "00000000000000" ∷ []) (refused (notice 56 3 2)) ∷
    case 7 (A ∷ R "03312024" ∷ []) (refused (notice 12 2 1)) ∷
    case 7 (A ∷ E "0" ∷ S "000000000000" "000000000000" [] ∷ []) (refused (notice 16 3 1)) ∷
    case 8 (A ∷ E "1" ∷ R "03302024" ∷ []) (refused (notice 91 3 2)) ∷
    -- A credit has a hyphen in front.
    case 10 (A ∷ E "1" ∷ S "000000000000" "000000001070" [] ∷ T "0000001" "00000010000" "-0000000008930" "00000000000000" "00000000001070" ∷ F "0000000001" "0000000001" "000000000001070" ∷ [])
    (accepted (entry 1 1070 ∷ []) (record { count = 1; employers = 1; sum = 1070; second = 0; others = 0; notes = 0 })) ∷
    case 10 (A ∷ E "1" ∷ S "000000000000" "000000001070" [] ∷ T "0000001" "00000010000" "00000000008930" "00000000000000" "00000000001070" ∷ []) (refused (notice 57 4 123)) ∷
    case 14 (A ∷ E "1" ∷ S "000000000000" "000000000000" (at 215 "12345678901" ∷ []) ∷ []) (refused (notice 46 3 215)) ∷
    case 21 (A ∷ E "1" ∷ S "000000000000" "000000000000" (at 2 "900700001" ∷ []) ∷ []) (refused (notice 52 3 2)) ∷ []
