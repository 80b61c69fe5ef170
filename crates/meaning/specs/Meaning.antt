-- Definitions: what a file means: the first broken edit of all its edits in the stated order, or the employers with their totals.
use Rattle.std.specs.Prelude.{ℕ, ◌+◌, Bool, List, [], ◌∷◌, ◌++◌, leb, length}
use Rattle.laws.specs.Finding.{Finding, fine, broken}
use Rattle.reason.specs.ReasonNumbers.{Notice, notice}
use Rattle.lines.specs.Lines.{Line, lines_of}
use Rattle.edits.specs.Edit.{Edit}
use Rattle.edits.specs.declared.Context.{Context}
use Rattle.edits.specs.declared.Opening.{Opening}
use Rattle.edits.specs.declared.format.Format.{Format}
use Rattle.edits.specs.declared.Totals.{Totals}
use Rattle.shape.specs.Shape.{Judged}
use Rattle.record.specs.Judge.{record_on, edits_among, judge_among}
use Rattle.shape.specs.EndOfInput.{end_edits}
use Rattle.shape.specs.declared.Said.{Said}
use Rattle.tables.specs.Tables.{is_among}
use Rattle.tables.specs.Room.{Room, entries_used}
use Rattle.tables.specs.declared.Employer.{Employer}
use Rattle.meaning.specs.Before.{phase_in, filed_in, open_in, ids_under, totals_in, feins_in, entries_in}

-- The context of a line: the records before it, the format and the last closed quarter, and the room that is lent.
abbrev pub context_at : Room → Opening → List Said → Context
context_at room held p =
    record {
      phase = phase_in p;
      held = held;
      filed = filed_in p;
      «open» = open_in p;
      all = totals_in p;
      ids_full = leb room.ids (length (ids_under p));
      list_full = leb (entries_used room) (totals_in p).employers;
    }

-- "E: on an earlier E"; "Another number: already under this E"
abbrev pub on_earlier_e : List Said → ℕ → Bool
on_earlier_e p fein = is_among fein (feins_in p)

abbrev pub under_this_e : List Said → ℕ → Bool
under_this_e p id = is_among id (ids_under p)

-- The edits of a line by the records before it.
abbrev pub edits_at : Room → Opening → List Said → Line → List Edit
edits_at room held p line = edits_among (context_at room held p) (on_earlier_e p) (under_this_e p) line

-- Their verdict: the first broken one, or what the record says.
abbrev pub judge_at : Room → Opening → List Said → Line → Judged
judge_at room held p line = judge_among (context_at room held p) (on_earlier_e p) (under_this_e p) line

-- An edit, and the line that it is of; lines are counted from 1.
pub record LineEdit : Type 0 where
  pub line : ℕ
  pub edit : Edit

abbrev pub on_line : ℕ → List Edit → List LineEdit
on_line line [] = []
on_line line (edit ∷ edits) = record { line = line; edit = edit } ∷ on_line line edits

-- "Lines in file order", each with its edits by the records before it; then the input's end, "Line is lines read + 1".
unfoldable pub edits_from : Room → Opening → List Said → List Line → List LineEdit
edits_from room held p [] = on_line (length p + 1) (end_edits (phase_in p))
edits_from room held p (line ∷ lines) = on_line (length p + 1) (edits_at room held p line) ++ edits_from room held (record_on held.format line ∷ p) lines

-- All edits of a file in the stated order.
abbrev pub file_edits : Room → Opening → List ℕ → List LineEdit
file_edits room held file = edits_from room held [] (lines_of file)

-- The first broken edit: its line, and what it finds there.
pub data FileFinding : Type 0 where
  nothing : FileFinding
  found : (line column number : ℕ) → FileFinding

abbrev pub found_on : ℕ → Finding → FileFinding
found_on line fine = nothing
found_on line (broken column number) = found line column number

abbrev pub or_found : FileFinding → FileFinding → FileFinding
or_found nothing next = next
or_found (found line column number) next = found line column number

unfoldable pub first_of_file : List LineEdit → FileFinding
first_of_file [] = nothing
first_of_file (e ∷ edits) = or_found (found_on e.line e.edit.finds) (first_of_file edits)

-- The records of a file, the nearest to its end first.
unfoldable pub records_onto : Format → List Said → List Line → List Said
records_onto format p [] = p
records_onto format p (line ∷ lines) = records_onto format (record_on format line ∷ p) lines

-- "accepted" with the employers, and the counts and wages of the whole file; or "refused" with the first line, column and reason.
pub data Outcome : Type 0 where
  accepted : List Employer → Totals → Outcome
  refused : Notice → Outcome

abbrev pub outcome_by : FileFinding → List Said → Outcome
outcome_by nothing p = accepted (entries_in p) (totals_in p)
outcome_by (found line column number) p = refused (notice number line column)

-- The same from any records before.
abbrev pub meaning_from : Room → Opening → List Said → List Line → Outcome
meaning_from room held p lines = outcome_by (first_of_file (edits_from room held p lines)) (records_onto held.format p lines)

-- "'accepted' means the published edits found nothing, with each employer's totals below it; 'refused' gives the first line, column and reason."
abbrev pub meaning : Room → Opening → List ℕ → Outcome
meaning room held file = meaning_from room held [] (lines_of file)
