-- Definitions: the rules of fields that read as numbers.
use Rattle.std.specs.Prelude.{ℕ, ◌/◌, ◌%◌, Bool, not, ◌&&◌, ◌||◌, List, eqb, leb, if◌then◌else◌}
use Rattle.laws.specs.Finding.{Reading, value, refused}
use Rattle.calendar.specs.Quarters.{is_filing_year, is_quarter_month}
use Rattle.number.specs.Numbers.{number_in}

-- A value that fails its rule is refused at the field's first column; the class test, 30, comes first.
abbrev pub only_if : (ℕ → Bool) → ℕ → ℕ → Reading → Reading
only_if passes first number (value v) = if passes v then value v else refused first number
only_if passes first number (refused column other) = refused column other

-- The same for a rule that gives its own number in place of 30.
abbrev pub only_own : (ℕ → Bool) → ℕ → ℕ → Reading → Reading
only_own passes first number (value v) = if passes v then value v else refused first number
only_own passes first number (refused column other) = refused first number

-- "Year: below 2025 38."
unfoldable pub year_in : List ℕ → ℕ → ℕ → Reading
year_in line first last = only_if is_filing_year first 38 (number_in line first last)

-- "Period: not 03, 06, 09, 12 40."; it gives "only 40 in place of 30".
unfoldable pub period_in : List ℕ → ℕ → ℕ → Reading
period_in line first last = only_own is_quarter_month first 40 (number_in line first last)

-- "E flags: 0 or 1 (47)."; they "give only 47".
unfoldable pub flag_in : List ℕ → ℕ → Reading
flag_in line column = only_own (λ flag. leb flag 1) column 47 (number_in line column column)

-- "FEIN in A and E: begins with 69 44 (glossary)." A FEIN has nine digits.
unfoldable pub begins_with69 : ℕ → Bool
begins_with69 fein = eqb (fein / 10000000) 69

-- (iii) of document 02, "A FEIN of nine zeros": "Refuse it". Nine zeros read as 0.
unfoldable pub is_nine_zeros : ℕ → Bool
is_nine_zeros fein = eqb fein 0

-- 44, and "64, right after 44"
unfoldable pub fein_in : List ℕ → ℕ → ℕ → Reading
fein_in line first last =
    only_if (λ fein. not (is_nine_zeros fein)) first 64 (only_if (λ fein. not (begins_with69 fein)) first 44 (number_in line first last))

abbrev pub is_from_to : ℕ → ℕ → ℕ → Bool
is_from_to first last n = leb first n && leb n last

-- The fourth and fifth digits of an ITIN: "50 to 65, 70 to 88, 90 to 92 or 94 to 99, as the IRS issues them" (document 02, i).
unfoldable pub are_issued : ℕ → Bool
are_issued digits = is_from_to 50 65 digits || is_from_to 70 88 digits || is_from_to 90 92 digits || is_from_to 94 99 digits

-- Of nine digits: four more stand after them.
abbrev pub fourth_and_fifth : ℕ → ℕ
fourth_and_fifth id = id / 10000 % 100

-- An identity number that may be filed. It has nine digits. One that begins with 9 "passes when its fourth and fifth digits are" those of an ITIN
-- that the IRS issues, "Otherwise it is refused as before"; of the others document 01 says "begins with 666 [...] 52."
unfoldable pub may_be_filed : ℕ → Bool
may_be_filed id = if eqb (id / 100000000) 9 then are_issued (fourth_and_fifth id) else not (eqb (id / 1000000) 666)

unfoldable pub identity_in : List ℕ → ℕ → ℕ → Reading
identity_in line first last = only_if may_be_filed first 52 (number_in line first last)
