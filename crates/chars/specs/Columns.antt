-- Definitions: columns of a line, counted from 1: column c is place c - 1 of the list of its characters.
-- After a line's last column there is no character, told as 0; column 0 is read as column 1.
use Rattle.std.specs.Prelude.{ℕ, ◌+◌, ◌-◌, Bool, true, false, List, get_or, if◌then◌else◌}
use Rattle.laws.specs.Finding.{Finding, fine, broken, first_of}
use Rattle.chars.specs.Characters.{is_permitted, is_blank, is_digit, is_of_name}
use Rattle.chars.specs.declared.columns.Allowed.{Allowed}
use Rattle.chars.specs.declared.columns.Allowed.TheVariants.{Anything, Permitted, Blanks, Digits, OfNames}

-- How many columns a field has.
abbrev pub width_of : ℕ → ℕ → ℕ
width_of first last = last - (first - 1)

-- A place whose character fails the test is a broken column.
unfoldable pub column_test : (ℕ → Bool) → ℕ → List ℕ → ℕ → Finding
column_test test number line at = if test (get_or line at 0) then fine else broken (at + 1) number

-- What a column may hold, and the number of its refusal.
abbrev pub allowed_test : Allowed → List ℕ → ℕ → Finding
allowed_test Anything line at = fine
allowed_test Permitted line at = column_test is_permitted 3 line at
allowed_test Blanks line at = column_test is_blank 31 line at
allowed_test Digits line at = column_test is_digit 30 line at
allowed_test OfNames line at = column_test is_of_name 54 line at

-- Every column holds what it may, or the first that does not: "A column named 'at the first' is that column".
unfoldable pub every_column : Allowed → List ℕ → ℕ → ℕ → Finding
every_column allowed line first last = first_of (allowed_test allowed line) (first - 1) (width_of first last)

abbrev pub is_fine : Finding → Bool
is_fine fine = true
is_fine (broken column number) = false

-- "other field refusals give the field's first column"
abbrev pub unless : Bool → ℕ → ℕ → Finding
unless passes first number = if passes then fine else broken first number
