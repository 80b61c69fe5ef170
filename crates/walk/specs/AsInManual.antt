-- Definitions: the sentence in the manual, of what a caller has at the end: "'accepted' means the published edits found nothing,
-- with each employer's totals below it; 'refused' gives the first line, column and reason."
use Rattle.std.specs.Prelude.{ℕ, List, ◌≡◌, length, replicate}
use Rattle.edits.specs.declared.format.Format.{Format}
use Rattle.tables.specs.Pad.{pad}
use Rattle.tables.specs.Room.{Tables}
use Rattle.tables.specs.Tables.{no_employer}
use Rattle.meaning.specs.Forward.{records_of, employers_of, totals_of}
use Rattle.meaning.specs.Meaning.{LineEdit}
use Rattle.meaning.specs.BrokenEdits.{NoneBroken, FirstBroken}
use Rattle.step.specs.Steps.{Out}
use Rattle.step.specs.Moves.{all_well}

-- What an accepted walk reports. "Acceptance leaves the employer list, in file order: FEIN, S count, cents; later entries zero."
pub record Reported (format : Format) (file : List ℕ) (t : Tables) (o : Out) : Type 0 where
  pub list : o.left.list ≡ pad no_employer (length t.list) (employers_of (records_of format file))
  pub ids : o.left.ids ≡ replicate (length t.ids) 0
  pub all : o.walk.all ≡ totals_of (records_of format file)

-- What the manual says of a file with these edits, of what a caller has at the end.
pub record AsInManual (format : Format) (edits : List LineEdit) (file : List ℕ) (t : Tables) (o : Out) : Type 0 where
  -- "'accepted' means the published edits found nothing": it is answered exactly if none is broken,
  pub accepted_none_broken : o.says ≡ all_well → NoneBroken edits
  pub none_broken_accepted : NoneBroken edits → o.says ≡ all_well
  -- "with each employer's totals below it": the employers of the file are then in the list.
  pub employers : o.says ≡ all_well → Reported format file t o
  -- "'refused' gives the first line, column and reason": any other answer is the first broken edit in the stated order.
  pub refused_first : (o.says ≡ all_well → ⊥) → FirstBroken edits o.says
