-- Definitions: the cases a to l of "Checked by hand" as one table: each is a whole file, with what the paper says of it.
-- A second table has those of a FEIN of nine zeros, a third those of the current quarter.
-- A computed example has to open the definitions that it computes with, those of crates below it too. Nothing rests on it.
use Rattle.std.specs.Prelude.{ℕ, List, [], ◌∷◌, ◌++◌}
use Prim.Native.String.{String}
use Rattle.laws.specs.Finding.{first_of}
use Rattle.laws.specs.Spelling.{bytes}
use Rattle.reason.specs.ReasonNumbers.{notice}
use Rattle.lines.specs.Cutting.{length_test, end_test}
use Rattle.lines.specs.Lines.{is_end, text_of, end_of, lines_from}
use Rattle.calendar.specs.Dates.{is_leap, month_days, days_in, is_date, in_quarter}
use Rattle.calendar.specs.Quarters.{is_filing_year, is_quarter_month, is_after, is_same, current_quarter, timing_of}
use Rattle.codes.specs.Codes as Codes
use Rattle.chars.specs.Characters.{is_permitted, capital_of, capitals, is_blank, is_digit, is_letter, is_of_name}
use Rattle.chars.specs.Columns.{column_test, every_column}
use Rattle.number.specs.Numbers.{number_from, number_in, value_in}
use Rattle.rules.specs.Rules.{period_in, flag_in, begins_with69, is_nine_zeros, may_be_filed}
use Rattle.text.specs.Text.{all_blank, is_indented, is_asked, reads_as, has_pattern}
use Rattle.edits.specs.FieldEdits.{field_edits}
use Rattle.edits.specs.declared.Opening.{Opening}
use Rattle.edits.specs.declared.format.Format.TheVariants.{Pfml}
use Rattle.pfml_fields.specs.Fields.{fields_of_a, fields_of_e, fields_of_s, fields_of_t, fields_of_f}
use Rattle.pfml_fields.specs.FieldRules.{rules_of_a, rules_of_e, rules_of_s, rules_of_t, rules_of_f}
use Rattle.pfml.specs.Kinds.{kind_of}
use Rattle.tables.specs.Room.{Room}
use Rattle.tables.specs.Tables.{is_among}
use Rattle.meaning.specs.Meaning.{edits_from, first_of_file, records_onto, Outcome, accepted, refused, meaning}
use Rattle.cases.specs.Example.{Change, reads, lacks, has_more, example_with}

-- "Tables: 1,024 employers, 8,192 ids."
abbrev pub room : Room
room = record { ids = 8192; list = 1024 }

-- The format, and the last closed quarter: no file of a to l is of a later one.
abbrev pub held : Opening
held = record { format = Pfml; year = 2028; month = 3 }

-- A case: its letter, a file, and what the paper says of the file.
pub record Case : Type 0 where
  pub letter : String
  pub file : List ℕ
  pub stated : Outcome

abbrev case : String → List ℕ → Outcome → Case
case letter file stated = record { letter = letter; file = file; stated = stated }

-- What the definitions say of it. Where this is opened, so is all that it is computed with.
unfoldable pub computed : Case → Outcome
unfolding
    bytes first_of
    lines_from is_end text_of end_of length_test end_test
    is_leap month_days days_in is_date in_quarter is_filing_year is_quarter_month is_after is_same current_quarter timing_of
    Codes.codes_in Codes.states Codes.provinces Codes.is_code Codes.is_among Codes.region_of
    is_permitted capital_of capitals is_blank is_digit is_letter is_of_name column_test every_column
    number_from number_in value_in period_in flag_in begins_with69 is_nine_zeros may_be_filed
    all_blank is_indented is_asked reads_as has_pattern
    fields_of_a fields_of_e fields_of_s fields_of_t fields_of_f
    field_edits kind_of rules_of_a rules_of_e rules_of_s rules_of_t rules_of_f
    is_among edits_from first_of_file records_onto
computed c = meaning room held c.file

-- "passes": the file is accepted, with its employer of this FEIN and the totals of the two employees; and with the employer's return: whether it is
-- amended, whether it is final, and the cease date.
abbrev pub passes_as : ℕ → ℕ → ℕ → ℕ → Outcome
passes_as fein amended final date =
    accepted
    (record { fein = fein; count = 2; cents = 123500; amended = amended; final_return = final; cease_date = date } ∷ [])
    (record { count = 2; employers = 1; sum = 123500; second = 0; others = 0; notes = 0 })

abbrev pub passes : ℕ → Outcome
passes fein = passes_as fein 0 0 0

abbrev pub passes_final : ℕ → Outcome
passes_final date = passes_as 12345678 0 1 date

-- Another year, on A, E and S.
abbrev in_year : String → List Change
in_year year = reads 1 2 year ∷ reads 2 2 year ∷ reads 3 48 year ∷ reads 4 48 year ∷ []

-- Another period, on A, E and S.
abbrev in_period : String → List Change
in_period period = reads 1 19 period ∷ reads 2 188 period ∷ reads 3 46 period ∷ reads 4 46 period ∷ []

-- Another FEIN, on E, S and T.
abbrev of_employer : String → List Change
of_employer fein = reads 2 6 fein ∷ reads 3 147 fein ∷ reads 4 147 fein ∷ reads 5 13 fein ∷ []

-- A final return, with its cease date.
abbrev ceased : String → List Change
ceased date = reads 2 282 "1" ∷ reads 2 283 date ∷ []

-- A refusal is told as its number, line and column; a change as its line, its column and the text there.
abbrev pub table : List Case
table =
    -- "a. Empty file: 5 at line 1, column 1."
    case "a" [] (refused (notice 5 1 1)) ∷
    -- "b. 289 characters: 1 at 290."
    case "b" (example_with (lacks 1 290 ∷ [])) (refused (notice 1 1 290)) ∷
    -- "c. 291: 1 at 291."
    case "c" (example_with (has_more 1 291 0x20 ∷ [])) (refused (notice 1 1 291)) ∷
    -- "d. LF CR after a record: next line empty, 1 at 1." CR is 13.
    case "d" (example_with (has_more 2 1 13 ∷ [])) (refused (notice 1 2 1)) ∷
    -- "e. 02292028 is a date; 02292027 isn't."
    case "e" (example_with (in_year "2028" ++ ceased "02292028")) (passes_final 2292028) ∷
    case "e" (example_with (in_year "2027" ++ ceased "02292027")) (refused (notice 48 2 283)) ∷
    -- "f. Quarter 03 of 2026 holds 03312026, not 04012026."
    case "f" (example_with (ceased "03312026")) (passes_final 3312026) ∷
    case "f" (example_with (ceased "04012026")) (refused (notice 49 2 283)) ∷
    -- "g. FEIN 690000000: 44; 700000000 passes."
    case "g" (example_with (of_employer "690000000")) (refused (notice 44 2 6)) ∷
    case "g" (example_with (of_employer "700000000")) (passes 700000000) ∷
    -- "h. 665999999 passes; 666000001: 52."
    case "h" (example_with (reads 3 2 "665999999" ∷ [])) (passes 12345678) ∷
    case "h" (example_with (reads 3 2 "666000001" ∷ [])) (refused (notice 52 3 2)) ∷
    -- "i. 000000000 twice under one E passes."
    case "i" (example_with (reads 3 2 "000000000" ∷ reads 4 2 "000000000" ∷ [])) (passes 12345678) ∷
    -- "j. `K1A 0` passes with ON, 36 with ME." With ON the extension, in 159, is a province's too.
    case "j" (example_with (reads 1 139 "ON" ∷ reads 1 154 "K1A 0" ∷ reads 1 159 "B1" ∷ [])) (passes 12345678) ∷
    case "j" (example_with (reads 1 139 "ME" ∷ reads 1 154 "K1A 0" ∷ [])) (refused (notice 36 1 154)) ∷
    -- "k. `-1061` passes with ME."
    case "k" (example_with (reads 2 139 "ME" ∷ reads 2 149 "-1061" ∷ [])) (passes 12345678) ∷
    -- "l. `O'NEIL-ROY` passes; `ANNE2`: 54 at its fifth column.": 35 is the fifth from 31 on
    case "l" (example_with (reads 3 11 "O'NEIL-ROY" ∷ [])) (passes 12345678) ∷
    case "l" (example_with (reads 3 31 "ANNE2" ∷ [])) (refused (notice 54 3 35)) ∷ []

-- (iii) of document 02, "A FEIN of nine zeros": 64 in A and in E; in S and T it is not the open E's, 46.
abbrev pub nine_zeros : List Case
nine_zeros =
    case "iii" (example_with (reads 1 6 "000000000" ∷ [])) (refused (notice 64 1 6)) ∷
    case "iii" (example_with (of_employer "000000000")) (refused (notice 64 2 6)) ∷
    case "iii" (example_with (reads 3 147 "000000000" ∷ [])) (refused (notice 46 3 147)) ∷
    case "iii" (example_with (reads 5 13 "000000000" ∷ [])) (refused (notice 46 5 13)) ∷ []

-- (v) of document 02, "A business that closes this quarter": 03 of 2028 is the last closed quarter, and 06 of 2028 the current one.
abbrev pub closing : List Case
closing =
    -- "an employer that shuts in May"
    case "v" (example_with (in_year "2028" ++ in_period "06" ++ ceased "05312028")) (passes_final 5312028) ∷
    -- "In a current-quarter file every E must be a final return."
    case "v" (example_with (in_year "2028" ++ in_period "06")) (refused (notice 65 2 282)) ∷
    -- "after 47 there"
    case "v" (example_with (in_year "2028" ++ in_period "06" ++ (reads 2 282 "2" ∷ []))) (refused (notice 47 2 282)) ∷
    -- The cease date lies in A's quarter.
    case "v" (example_with (in_year "2028" ++ in_period "06" ++ ceased "03312028")) (refused (notice 49 2 283)) ∷
    -- In a file of the last closed quarter an E need not be final.
    case "v" (example_with (in_year "2028")) (passes 12345678) ∷
    -- "41 is for quarters after the current"
    case "v" (example_with (in_year "2028" ++ in_period "09" ++ ceased "08312028")) (refused (notice 41 1 19)) ∷
    -- "39 is for years beyond the current quarter's"
    case "v" (example_with (in_year "2029" ++ ceased "03312029")) (refused (notice 39 1 2)) ∷ []

-- (xiii) of document 02, "Employer entry with return kind": "the amended flag, the final flag and the cease date as a number, zero if none".
abbrev pub return_kinds : List Case
return_kinds =
    case "xiii" (example_with (reads 2 187 "1" ∷ [])) (passes_as 12345678 1 0 0) ∷
    case "xiii" (example_with (reads 2 187 "1" ∷ ceased "03312026")) (passes_as 12345678 1 1 3312026) ∷
    case "xiii" (example_with (ceased "01012026")) (passes_final 1012026) ∷ []
