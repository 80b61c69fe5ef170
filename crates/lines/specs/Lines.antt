-- Definitions: the lines of a file.
use Rattle.std.specs.Prelude.{ℕ, zero, suc, ◌+◌, ◌-◌, Bool, ◌||◌, List, [], ◌∷◌, ◌++◌, eqb, length, drop, if◌then◌else◌}

-- "A line ends at LF, CR, or CR followed at once by LF." LF is 10, CR is 13.
unfoldable pub is_end : ℕ → Bool
is_end b = eqb b 10 || eqb b 13

-- The bytes before the first end: all of them where there is none.
unfoldable pub text_of : List ℕ → List ℕ
text_of [] = []
text_of (b ∷ s) = if is_end b then [] else b ∷ text_of s

-- The LF that follows a CR at once belongs to its end.
abbrev pub line_feed : List ℕ → List ℕ
line_feed [] = []
line_feed (b ∷ s) = if eqb b 10 then 10 ∷ [] else []

-- The end that stands first in these bytes, if there is one.
unfoldable pub end_of : List ℕ → List ℕ
end_of [] = []
end_of (b ∷ s) = if eqb b 10 then 10 ∷ [] else if eqb b 13 then 13 ∷ line_feed s else []

-- A line: its characters, and its end, of no bytes where the file stops before one.
pub record Line : Type 0 where
  pub text : List ℕ
  pub ending : List ℕ

-- "reads the first line of the bytes it is lent"; "No bytes at all are a line of length 0."
abbrev pub first_line : List ℕ → Line
first_line s = record { text = text_of s; ending = end_of (drop (length (text_of s)) s) }

-- "how many bytes that line and its end take"
abbrev pub size_of : Line → ℕ
size_of line = length line.text + length line.ending

-- The lines of a file, one after the other: `skip` bytes still belong to the line before.
unfoldable pub lines_from : ℕ → List ℕ → List Line
lines_from skip [] = []
lines_from zero (b ∷ s) = first_line (b ∷ s) ∷ lines_from (size_of (first_line (b ∷ s)) - 1) s
lines_from (suc skip) (b ∷ s) = lines_from skip s

abbrev pub lines_of : List ℕ → List Line
lines_of file = lines_from 0 file

-- A file made of lines: each line's characters, then its end.
unfoldable pub joined : List Line → List ℕ
joined [] = []
joined (line ∷ lines) = (line.text ++ line.ending) ++ joined lines
