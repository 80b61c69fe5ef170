-- Definitions: cutting a line that is to have n characters and an end.
use Rattle.std.specs.Prelude.{ℕ, ◌+◌, min, eqb, length, if◌then◌else◌}
use Rattle.laws.specs.Finding.{Finding, fine, broken, Reading, value, refused}
use Rattle.lines.specs.Lines.{Line, size_of}

-- The column after the last, 291 for 290. Columns are told in two bytes: a length of 65,535 leaves none after it, and 65,535 is told.
abbrev pub beyond : ℕ → ℕ
beyond n = min (n + 1) 65535

-- "Each line has 290 characters and an end, the last one too." The bytes that line and end take, or
-- "1: length not 290; column is the lesser of length + 1 and 291", "2: 290 characters, no end; column 291".
unfoldable pub cutting : ℕ → Line → Reading
cutting n line =
    if eqb (length line.text) n
    then (if eqb (length line.ending) 0 then refused (beyond n) 2 else value (size_of line))
    else refused (min (length line.text + 1) (beyond n)) 1

-- The same as two edits: the length, then the end.
unfoldable pub length_test : ℕ → Line → Finding
length_test n line = if eqb (length line.text) n then fine else broken (min (length line.text + 1) (beyond n)) 1

unfoldable pub end_test : ℕ → Line → Finding
end_test n line = if eqb (length line.ending) 0 then broken (beyond n) 2 else fine
