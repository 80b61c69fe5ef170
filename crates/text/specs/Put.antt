-- Definitions: text written into a line.
use Rattle.std.specs.Prelude.{ℕ, ◌-◌, List, replicate}
use Rattle.std.proofs.lemmas.List.Edits.{sets}

-- A line of n blanks.
abbrev pub blanks : ℕ → List ℕ
blanks n = replicate n 0x20

-- "text left justified": one character after the other from a column on; after the line's end none is written.
unfoldable pub put_text : List ℕ → ℕ → List ℕ → List ℕ
put_text line first text = sets line (first - 1) text
