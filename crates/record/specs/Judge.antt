-- Definitions: the verdict on a line, by the format that the context holds.
use Rattle.std.specs.Prelude.{ℕ, Bool, List}
use Rattle.lines.specs.Lines.{Line}
use Rattle.chars.specs.Characters.{capitals}
use Rattle.edits.specs.Edit.{Edit}
use Rattle.edits.specs.declared.Context.{Context}
use Rattle.edits.specs.declared.Seen.{Seen}
use Rattle.edits.specs.declared.format.Format.{Format}
use Rattle.shape.specs.Shape.{Judged, said_on, judge_by, seen_by, edits_among_by}
use Rattle.shape.specs.declared.Said.{Said}
use Rattle.record.specs.ShapeOf.{shape_of}

-- The record on a line of a file of this format.
abbrev pub record_on : Format → Line → Said
record_on format line = said_on (shape_of format) line

-- Kept closed: the context stands in it twice, and a law that changes the context must find it as one argument.
unfoldable pub judge : Context → Seen → Line → Judged
judge here seen line = judge_by (shape_of here.held.format) here seen line

abbrev pub seen_on : Format → (ℕ → Bool) → (ℕ → Bool) → List ℕ → Seen
seen_on format earlier under text = seen_by (shape_of format) earlier under text

-- The edits of a line among others, and the verdict on it.
abbrev pub edits_among : Context → (ℕ → Bool) → (ℕ → Bool) → Line → List Edit
edits_among here earlier under line = edits_among_by (shape_of here.held.format) here earlier under line

abbrev pub judge_among : Context → (ℕ → Bool) → (ℕ → Bool) → Line → Judged
judge_among here earlier under line = judge here (seen_on here.held.format earlier under (capitals line.text)) line
