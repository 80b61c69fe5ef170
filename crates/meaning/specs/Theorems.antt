-- Laws: accepted_iff and first_is_first, of a whole file.
use Rattle.std.specs.Prelude.{ℕ, ◌+◌, List, [], ◌∷◌, ◌++◌, map, ◌≡◌, refl, length}
use Rattle.std.proofs.Common.{sym, ap, arith}
use Rattle.laws.specs.Finding.{Finding, fine, broken}
use Rattle.reason.specs.ReasonNumbers.{Notice, notice}
use Rattle.lines.specs.Lines.{Line, lines_of}
use Rattle.edits.specs.Edit.{Edit}
use Rattle.edits.specs.Labels.{ByLabel, AllLabelled}
use Rattle.edits.specs.LabelLaws.{labelled_append, labelled_first}
use Rattle.edits.specs.declared.Opening.{Opening}
use Rattle.edits.specs.declared.Totals.{Totals}
use Rattle.record.specs.Judge.{record_on}
use Rattle.record.specs.Laws.{line_labelled}
use Rattle.shape.specs.EndOfInputLaws.{end_labelled}
use Rattle.shape.specs.declared.Said.{Said}
use Rattle.tables.specs.Room.{Room}
use Rattle.tables.specs.declared.Employer.{Employer}
use Rattle.meaning.specs.Before.{phase_in, totals_in, entries_in}
use Rattle.meaning.specs.Meaning.{context_at, edits_at, LineEdit, on_line, edits_from, file_edits, FileFinding, nothing, found, found_on, or_found, first_of_file, records_onto, accepted, refused, outcome_by, meaning}
use Rattle.meaning.specs.BrokenEdits.{NoneBroken, FirstBroken}

-- ---- a list with none broken
-- Nothing is not something, and accepted is not refused.
not_found : (line column number : ℕ) → nothing ≡ found line column number → ⊥
not_found line column number e = let z : ◌≡◌ {A = ℕ} 0 1 = cc in omega arith

pub not_refused : (entries : List Employer) (totals : Totals) (says : Notice) → accepted entries totals ≡ refused says → ⊥
not_refused entries totals says e = let z : ◌≡◌ {A = ℕ} 0 1 = cc in omega arith

-- Where none is broken, nothing is found.
none_found : (edits : List LineEdit) → NoneBroken edits → first_of_file edits ≡ nothing
unfolding first_of_file
none_found [] none = refl
none_found (e ∷ edits) none = rw none.0 (none_found edits none.1)

-- Where an edit and those after it find nothing, each finds nothing.
both_nothing : (line : ℕ) (f : Finding) (next : FileFinding) → or_found (found_on line f) next ≡ nothing → (f ≡ fine) × (next ≡ nothing)
both_nothing line fine next e = (refl, e)
both_nothing line (broken column number) next e = absurd (not_found line column number (sym e))

-- Where nothing is found, none is broken.
found_none : (edits : List LineEdit) → first_of_file edits ≡ nothing → NoneBroken edits
unfolding first_of_file
found_none [] e = tt
found_none (this ∷ edits) e =
    let both = both_nothing this.line this.edit.finds (first_of_file edits) e in
    (both.0, found_none edits both.1)

-- ---- the labels
abbrev without_lines : List LineEdit → List Edit
without_lines edits = map (λ (e : LineEdit). e.edit) edits

off_line : (line : ℕ) (edits : List Edit) (rest : List LineEdit) → without_lines (on_line line edits ++ rest) ≡ edits ++ without_lines rest
off_line line [] rest = refl
off_line line (edit ∷ edits) rest = ap (λ (l : List Edit). edit ∷ l) (off_line line edits rest)

-- What any edit of a file finds is told by its label.
file_labelled : (room : Room) (held : Opening) (p : List Said) (lines : List Line) → AllLabelled (without_lines (edits_from room held p lines))
unfolding edits_from
file_labelled room held p [] = end_labelled (phase_in p)
file_labelled room held p (line ∷ lines) =
    let these = edits_at room held p line in
    let rest = edits_from room held (record_on held.format line ∷ p) lines in
    rw (off_line (length p + 1) these rest)
    (labelled_append these (without_lines rest) (line_labelled (context_at room held p) _ line) (file_labelled room held (record_on held.format line ∷ p) lines))

-- ---- the first
-- The first edit is broken, or it is one after it.
here_first : (this : LineEdit) (edits : List LineEdit) (says : Notice) (f : Finding) → this.edit.finds ≡ f
    → or_found (found_on this.line f) (first_of_file edits) ≡ found says.line says.column says.number
    → (this.edit.finds ≡ broken says.column says.number → ByLabel this.edit says.column says.number)
    → (first_of_file edits ≡ found says.line says.column says.number → FirstBroken edits says) → FirstBroken (this ∷ edits) says
here_first this edits says fine told e label rest =
    let r = rest e in
    record {
      earlier = this ∷ r.earlier;
      edit = r.edit;
      later = r.later;
      stands = ap (λ (l : List LineEdit). this ∷ l) r.stands;
      none_earlier = (told, r.none_earlier);
      on_line = r.on_line;
      hit = r.hit;
      by_label = r.by_label;
    }
here_first this edits says (broken column number) told e label rest =
    let same_column : column ≡ says.column = cc in
    let same_number : number ≡ says.number = cc in
    let hits : this.edit.finds ≡ broken says.column says.number = cc in
    record {
      earlier = [];
      edit = this;
      later = edits;
      stands = refl;
      none_earlier = tt;
      on_line = cc;
      hit = hits;
      by_label = label hits;
    }

-- What is found is what the first broken edit finds, on its line.
first_of_file_lem : (edits : List LineEdit) → AllLabelled (without_lines edits) → (says : Notice)
    → first_of_file edits ≡ found says.line says.column says.number → FirstBroken edits says
unfolding first_of_file
first_of_file_lem [] all says e = absurd (not_found says.line says.column says.number e)
first_of_file_lem (this ∷ edits) all says e =
    let labels = labelled_first this.edit (without_lines edits) all in
    here_first this edits says this.edit.finds refl e (labels.0 says.column says.number) (first_of_file_lem edits labels.1 says)

-- ---- the outcome
-- Only where nothing is found is a file accepted.
accepts_nothing : (f : FileFinding) (p : List Said) (entries : List Employer) (totals : Totals) → outcome_by f p ≡ accepted entries totals → f ≡ nothing
accepts_nothing nothing p entries totals e = refl
accepts_nothing (found line column number) p entries totals e = absurd (not_refused entries totals (notice number line column) (sym e))

-- A refusal says what was found.
refuses_found : (f : FileFinding) (p : List Said) (says : Notice) → outcome_by f p ≡ refused says → f ≡ found says.line says.column says.number
refuses_found nothing p says e = absurd (not_refused (entries_in p) (totals_in p) says e)
refuses_found (found line column number) p says e = let same : notice number line column ≡ says = cc in rw (← same)

module _ (room : Room) (held : Opening) (file : List ℕ) where
  -- "A file is accepted exactly if it breaks none of the edits"
  pub accepted_iff : (NoneBroken (file_edits room held file)
      → meaning room held file ≡ accepted (entries_in (records_onto held.format [] (lines_of file))) (totals_in (records_onto held.format [] (lines_of file))))
      × ((entries : List Employer) (totals : Totals) → meaning room held file ≡ accepted entries totals → NoneBroken (file_edits room held file))
  accepted_iff = (
    λ none. rw (none_found (file_edits room held file) none),
    λ entries totals e.
        found_none (file_edits room held file)
        (accepts_nothing (first_of_file (file_edits room held file)) (records_onto held.format [] (lines_of file)) entries totals e),
  )

  -- "Otherwise the line, column and reason are those of the first broken edit in the stated order."
  pub first_is_first : (says : Notice) → meaning room held file ≡ refused says → FirstBroken (file_edits room held file) says
  first_is_first says e =
      first_of_file_lem (file_edits room held file) (file_labelled room held [] (lines_of file)) says
      (refuses_found (first_of_file (file_edits room held file)) (records_onto held.format [] (lines_of file)) says e)
