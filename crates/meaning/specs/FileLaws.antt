-- Laws: what the end of a file says, what a line that is refused says, and that a line which passes leaves the rest to say it.
use Rattle.std.specs.Prelude.{ℕ, ◌+◌, ◌≡◌, length}
use mathlib.Core.List.{List, [], ◌∷◌, ◌++◌, map, reverse_aux, append-nil}
use Rattle.std.proofs.Math.Path.{refl, ap}
use Rattle.std.proofs.Common.{sym, ◌∙◌}
use Rattle.laws.specs.Finding.{Finding, fine, broken, or_else}
use Rattle.reason.specs.ReasonNumbers.{notice}
use Rattle.lines.specs.Lines.{Line, size_of}
use Rattle.edits.specs.Edit.{Edit, first_broken}
use Rattle.edits.specs.EditLaws.{first_cons, first_none}
use Rattle.edits.specs.declared.Opening.{Opening}
use Rattle.edits.specs.declared.format.Format.{Format}
use Rattle.record.specs.Laws.{judge_says, passed_size}
use Rattle.shape.specs.Shape.{refusal, passed, verdict_by}
use Rattle.record.specs.Judge.{record_on}
use Rattle.shape.specs.EndOfInput.{end_edits}
use Rattle.shape.specs.Theorems.{not_passed}
use Rattle.shape.specs.declared.Said.{Said}
use Rattle.tables.specs.Room.{Room}
use Rattle.meaning.specs.Before.{phase_in}
use Rattle.meaning.specs.Meaning.{context_at, on_earlier_e, under_this_e, edits_at, judge_at, LineEdit, on_line, edits_from, FileFinding, nothing, found, found_on, or_found, first_of_file, records_onto, outcome_by, refused, meaning_from}

-- ---- the first broken edit
-- Nothing comes after the end.
or_nothing : (f : FileFinding) → or_found f nothing ≡ f
or_nothing nothing = refl
or_nothing (found line column number) = refl

-- The first of two findings on a line, then of the rest.
found_or : (line : ℕ) (a b : Finding) (next : FileFinding) → or_found (found_on line (or_else a b)) next ≡ or_found (found_on line a) (or_found (found_on line b) next)
found_or line fine b next = refl
found_or line (broken column number) b next = refl

-- The first broken edit of a line's edits and those after them.
first_on : (line : ℕ) (edits : List Edit) (rest : List LineEdit)
    → first_of_file (on_line line edits ++ rest) ≡ or_found (found_on line (first_broken edits)) (first_of_file rest)
unfolding first_of_file
first_on line [] rest = rw first_none
first_on line (edit ∷ edits) rest =
    ap (or_found (found_on line edit.finds)) (first_on line edits rest)
    ∙ sym (rw (first_cons edit edits) (found_or line edit.finds (first_broken edits) (first_of_file rest)))

-- The same with nothing after them.
first_alone : (line : ℕ) (edits : List Edit) → first_of_file (on_line line edits) ≡ found_on line (first_broken edits)
unfolding first_of_file
first_alone line edits =
    ap first_of_file (sym (append-nil (on_line line edits))) ∙ first_on line edits [] ∙ or_nothing (found_on line (first_broken edits))

-- The records of no line more, and of one line more.
module _ (format : Format) where
  pub onto_nil : (p : List Said) → records_onto format p [] ≡ p
  unfolding records_onto
  onto_nil p = refl

  pub onto_cons : (p : List Said) (line : Line) (lines : List Line) → records_onto format p (line ∷ lines) ≡ records_onto format (record_on format line ∷ p) lines
  unfolding records_onto
  onto_cons p line lines = refl

  -- The records of the lines in file order, turned round onto those before.
  pub records_reversed : (p : List Said) (lines : List Line) → records_onto format p lines ≡ reverse_aux (map (record_on format) lines) p
  unfolding records_onto
  records_reversed p [] = refl
  records_reversed p (line ∷ lines) = records_reversed (record_on format line ∷ p) lines

module _ (room : Room) (held : Opening) (p : List Said) where
  -- ---- the end
  -- The end's edits are all that is left.
  pub meaning_end : meaning_from room held p [] ≡ outcome_by (found_on (length p + 1) (first_broken (end_edits (phase_in p)))) p
  unfolding edits_from records_onto
  meaning_end = ap (λ (f : FileFinding). outcome_by f p) (first_alone (length p + 1) (end_edits (phase_in p)))

  -- ---- a line, then the others
  module _ (line : Line) (lines : List Line) where
    -- What is found after this line.
    abbrev behind : FileFinding
    behind = first_of_file (edits_from room held (record_on held.format line ∷ p) lines)

    -- The line's own edits come first.
    meaning_line : meaning_from room held p (line ∷ lines)
        ≡ outcome_by (or_found (found_on (length p + 1) (first_broken (edits_at room held p line))) behind) (records_onto held.format (record_on held.format line ∷ p) lines)
    unfolding edits_from records_onto
    meaning_line =
        ap (λ (f : FileFinding). outcome_by f (records_onto held.format (record_on held.format line ∷ p) lines))
        (first_on (length p + 1) (edits_at room held p line) (edits_from room held (record_on held.format line ∷ p) lines))

    -- The verdict on the line is by the same edits.
    verdict : judge_at room held p line ≡ verdict_by (first_broken (edits_at room held p line)) (size_of line) (record_on held.format line)
    verdict = judge_says (context_at room held p) (on_earlier_e p) (under_this_e p) line

    -- A line that is refused says what the file's outcome is.
    pub meaning_refuses : (column number : ℕ) → judge_at room held p line ≡ refusal column number
        → meaning_from room held p (line ∷ lines) ≡ refused (notice number (length p + 1) column)
    meaning_refuses column number e = meaning_line ∙ at (first_broken (edits_at room held p line)) (sym verdict ∙ e) where
      at : (f : Finding) → verdict_by f (size_of line) (record_on held.format line) ≡ refusal column number
          → outcome_by (or_found (found_on (length p + 1) f) behind) (records_onto held.format (record_on held.format line ∷ p) lines) ≡ refused (notice number (length p + 1) column)
      at fine told = absurd (not_passed column number (size_of line) (record_on held.format line) (sym told))
      at (broken c n) told =
          let same_column : c ≡ column = cc in
          let same_number : n ≡ number = cc in
          cc

    -- A line that passes leaves it to the lines after it, with its record before them.
    pub meaning_goes_on : (taken : ℕ) (said : Said) → judge_at room held p line ≡ passed taken said
        → meaning_from room held p (line ∷ lines) ≡ meaning_from room held (said ∷ p) lines
    meaning_goes_on taken said e =
        meaning_line ∙ rw (passed_size (context_at room held p) (on_earlier_e p) (under_this_e p) line taken said e).1
        (at (first_broken (edits_at room held p line)) (sym verdict ∙ e)) where
          at : (f : Finding) → verdict_by f (size_of line) (record_on held.format line) ≡ passed taken said
              → outcome_by (or_found (found_on (length p + 1) f) behind) (records_onto held.format (record_on held.format line ∷ p) lines) ≡ meaning_from room held (record_on held.format line ∷ p) lines
          at fine told = refl
          at (broken column number) told = absurd (not_passed column number taken said told)
