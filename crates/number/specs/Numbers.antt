-- Definitions: a number read from a field, and written into one: one rule for all widths.
use Rattle.std.specs.Prelude.{ℕ, zero, suc, ◌+◌, ◌-◌, ◌*◌, ◌/◌, ◌%◌, List, ◌||◌, eqb, ltb, get_or, set, if◌then◌else◌}
use Rattle.laws.specs.Finding.{Reading, value, refused}
use Rattle.chars.specs.Characters.{is_digit}
use Rattle.chars.specs.Columns.{width_of}

-- n columns from a place on, when the columns before them read as v.
unfoldable pub number_from : List ℕ → ℕ → ℕ → ℕ → Reading
number_from line v at zero = value v
number_from line v at (suc n) =
    if is_digit (get_or line at 0)
    then number_from line (v * 10 + (get_or line at 0 - 48)) (at + 1) n
    else refused (at + 1) 30

-- "Number: all digits (30 at the first that is not)". A field of no columns, or of more than 19, whose numbers need not fit 64 bits, is refused
-- at its first column.
unfoldable pub number_in : List ℕ → ℕ → ℕ → Reading
number_in line first last =
    if eqb (width_of first last) 0 || ltb 19 (width_of first last)
    then refused first 30
    else number_from line 0 (first - 1) (width_of first last)

abbrev pub value_of : Reading → ℕ
value_of (value v) = v
value_of (refused column number) = 0

-- The number that a field reads as, 0 where it reads as none.
unfoldable pub value_in : List ℕ → ℕ → ℕ → ℕ
value_in line first last = value_of (number_in line first last)

-- v written into n places that end before place `end`, with zeros in front.
unfoldable pub put_digits : List ℕ → ℕ → ℕ → ℕ → List ℕ
put_digits line end zero v = line
put_digits line end (suc n) v = put_digits (set line (end - 1) (48 + v % 10)) (end - 1) n (v / 10)

-- "numbers right justified, zero filled": the last digits of v in the field's columns.
unfoldable pub put_number : List ℕ → ℕ → ℕ → ℕ → List ℕ
put_number line first last v = put_digits line last (width_of first last) v
