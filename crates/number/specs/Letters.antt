-- Definitions: a short text as a number, so that a text can be held and compared as numbers are.
use Rattle.std.specs.Prelude.{ℕ, zero, suc, ◌+◌, ◌-◌, ◌*◌, List, ltb, get_or, if◌then◌else◌}
use Rattle.chars.specs.Columns.{width_of}

-- n characters from a place on, to the base 256, when the characters before them read as v.
unfoldable pub letters_from : List ℕ → ℕ → ℕ → ℕ → ℕ
letters_from line v at zero = v
letters_from line v at (suc n) = letters_from line (v * 256 + get_or line at 0) (at + 1) n

-- The characters of columns first to last as one number. Of more than seven, which need not fit 64 bits, it is 0.
unfoldable pub letters_in : List ℕ → ℕ → ℕ → ℕ
letters_in line first last = if ltb 7 (width_of first last) then 0 else letters_from line 0 (first - 1) (width_of first last)
