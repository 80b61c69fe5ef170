-- Definitions: columns that are hidden on the lines of a file, told by places of the file; two files of equal bytes elsewhere; and changes of lines.
use Rattle.std.specs.Prelude.{ℕ, ◌+◌, ◌-◌, ◌≤◌, Bool, true, false, List, [], ◌∷◌, ◌≡◌, ltb, length, get_or, if◌then◌else◌}
use Rattle.lines.specs.Lines.{Line, size_of, lines_of, is_end}

-- `hides` tells of a line which of its columns are hidden, counted from 1. A place of some lines, counted from 0 over all their characters and ends, is hidden
-- where its column of its line is.
unfoldable pub hidden_in : (Line → ℕ → Bool) → List Line → ℕ → Bool
hidden_in hides [] at = false
hidden_in hides (line ∷ lines) at = if ltb at (size_of line) then hides line (at + 1) else hidden_in hides lines (at - size_of line)

abbrev pub hidden : (Line → ℕ → Bool) → List ℕ → ℕ → Bool
hidden hides file at = hidden_in hides (lines_of file) at

-- Two files as long as each other, with equal bytes except in the hidden places of the first, where the second has bytes that may stand there. Only the first is
-- cut into lines.
pub record EqualBut (hides : Line → ℕ → Bool) (may : ℕ → Bool) (one other : List ℕ) : Type 0 where
  pub long : length one ≡ length other
  pub elsewhere : (at : ℕ) → hidden hides one at ≡ false → get_or one at 0 ≡ get_or other at 0
  pub there : (at : ℕ) → hidden hides one at ≡ true → may (get_or other at 0) ≡ true

-- A change of lines that hides these columns and no others: they are columns of the text; lines that differ in them alone are changed to one line; the other
-- columns stay as they are; and a changed line still tells which they were.
pub record Hides (hides : Line → ℕ → Bool) (change : Line → Line) : Type 0 where
  pub in_text : (line : Line) (column : ℕ) → hides line column ≡ true → column ≤ length line.text
  pub nothing_left : (one other : Line) → length one.text ≡ length other.text → one.ending ≡ other.ending
      → ((at : ℕ) → hides one (at + 1) ≡ false → get_or one.text at 0 ≡ get_or other.text at 0) → change one ≡ change other
  pub others_stay : (line : Line) (at : ℕ) → hides line (at + 1) ≡ false → get_or (change line).text at 0 ≡ get_or line.text at 0
  pub columns_told : (one other : Line) → change one ≡ change other → (column : ℕ) → hides one column ≡ hides other column

-- What lines hold in their hidden columns may stand there.
abbrev pub MayHold : (Line → ℕ → Bool) → (ℕ → Bool) → List Line → Type 0
MayHold hides may [] = Unit {0}
MayHold hides may (line ∷ lines) = ((at : ℕ) → hides line (at + 1) ≡ true → may (get_or line.text at 0) ≡ true) × MayHold hides may lines

-- No byte of a text is an end.
abbrev pub has_no_end : List ℕ → Type 0
has_no_end [] = Unit {0}
has_no_end (b ∷ text) = (is_end b ≡ false) × has_no_end text

-- Lines may be changed without moving any: a change that keeps how long a text is, brings no end into it and leaves the ends alone.
pub record Keeps (change : Line → Line) : Type 0 where
  pub long : (line : Line) → length (change line).text ≡ length line.text
  pub ends : (line : Line) → (change line).ending ≡ line.ending
  pub no_end : (line : Line) → has_no_end line.text → has_no_end (change line).text
