-- Definitions: a wage file to try cases on, and changes to it: the paper's own example, "FEIN 012345678, two employees with 1,234.56 and 0.44".
use Rattle.std.specs.Prelude.{ℕ, ◌+◌, ◌-◌, List, [], ◌∷◌, ◌++◌, length, get_or, take, drop, set, replicate}
use Prim.Native.String.{String}
use Rattle.laws.specs.Spelling.{bytes}

-- A change to a file: from a column of a line on so many characters are gone, and others stand in their place.
pub record Change : Type 0 where
  pub line : ℕ
  pub column : ℕ
  pub gone : ℕ
  pub instead : List ℕ

-- A text stands there.
abbrev pub reads : ℕ → ℕ → String → Change
reads line column text = record { line = line; column = column; gone = length (bytes text); instead = bytes text }

-- A character is missing there.
abbrev pub lacks : ℕ → ℕ → Change
lacks line column = record { line = line; column = column; gone = 1; instead = [] }

-- A character more stands there.
abbrev pub has_more : ℕ → ℕ → ℕ → Change
has_more line column character = record { line = line; column = column; gone = 0; instead = character ∷ [] }

-- Lines, the first of them line 1, with a change, and with several.
abbrev changed_line : Change → List ℕ → List ℕ
changed_line c text = take (c.column - 1) text ++ c.instead ++ drop (c.column - 1 + c.gone) text

abbrev changed_by : Change → List (List ℕ) → List (List ℕ)
changed_by c lines = set lines (c.line - 1) (changed_line c (get_or lines (c.line - 1) []))

abbrev pub changed : List Change → List (List ℕ) → List (List ℕ)
changed [] lines = lines
changed (c ∷ changes) lines = changed changes (changed_by c lines)

-- The file of these lines: each ends in LF, which is 10.
abbrev pub file_of : List (List ℕ) → List ℕ
file_of [] = []
file_of (line ∷ lines) = line ++ (10 ∷ file_of lines)

-- What the example's six lines say, and where; all else is blank.
abbrev entries : List Change
entries =
    -- A: year, FEIN, entity code and period; name; street; city; state; ZIP; contact; telephone
    reads 1 1 "A2026987654321PFML03" ∷
    reads 1 24 "PINE PAYROLL" ∷
    reads 1 74 "1 MAIN STREET" ∷
    reads 1 114 "AUGUSTA" ∷
    reads 1 139 "ME" ∷
    reads 1 154 "04330" ∷
    reads 1 164 "A CLERK" ∷
    reads 1 194 "2075550100" ∷
    -- E: year and FEIN; name; street; city; state; ZIP; entity code; not amended, period, S records follow; contact; email; phone; not final
    reads 2 1 "E2026012345678" ∷
    reads 2 24 "OAK BAKERY" ∷
    reads 2 74 "2 MAIN STREET" ∷
    reads 2 114 "AUGUSTA" ∷
    reads 2 139 "ME" ∷
    reads 2 154 "04330" ∷
    reads 2 167 "PFML" ∷
    reads 2 187 "0031" ∷
    reads 2 201 "A BAKER" ∷
    reads 2 231 "BAKER@EXAMPLE.COM" ∷
    reads 2 261 "2075550101" ∷
    reads 2 282 "000000000" ∷
    -- S: identity number; last name; first name; period and year; wages; entity code and FEIN
    reads 3 1 "S123456789" ∷
    reads 3 11 "DOE" ∷
    reads 3 31 "JANE" ∷
    reads 3 46 "032026" ∷
    reads 3 64 "00000000123456" ∷
    reads 3 143 "PFML012345678" ∷
    reads 4 1 "S234567890" ∷
    reads 4 11 "ROE" ∷
    reads 4 31 "JOHN" ∷
    reads 4 46 "032026" ∷
    reads 4 64 "00000000000044" ∷
    reads 4 143 "PFML012345678" ∷
    -- T: S records, entity code and FEIN; wages
    reads 5 1 "T0000002PFML012345678" ∷
    reads 5 27 "00000000123500" ∷
    -- F: S records, E records and entity code; wages
    reads 6 1 "F00000000020000000001PFML" ∷
    reads 6 41 "000000000123500" ∷
    []

-- The example's lines.
abbrev pub example_lines : List (List ℕ)
example_lines = changed entries (replicate 6 (replicate 290 0x20))

-- The example's file with changes.
abbrev pub example_with : List Change → List ℕ
example_with changes = file_of (changed changes example_lines)
