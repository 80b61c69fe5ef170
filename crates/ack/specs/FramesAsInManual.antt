-- Definitions: the sentence in the manual, told of the acknowledgement that the program writes.
use Rattle.std.specs.Prelude.{ℕ, List, ◌≡◌}
use Rattle.reason.specs.ReasonNumbers.{Notice}
use Rattle.edits.specs.declared.format.Format.{Format}
use Rattle.meaning.specs.Forward.{records_of, employers_of, totals_of}
use Rattle.meaning.specs.Meaning.{LineEdit, accepted}
use Rattle.meaning.specs.BrokenEdits.{NoneBroken, FirstBroken}
use Rattle.frames.specs.Frames.{refusal_frame, frames_of}

-- "accepted .. with each employer's totals below it": a frame for each E record, with the S records under it (and, in the wage file, the kind of return), then the closing frame with those of the file.
abbrev pub accepted_frames : Format → List ℕ → List ℕ
accepted_frames format file = frames_of format (accepted (employers_of (records_of format file)) (totals_of (records_of format file)))

-- "'refused' gives the first line, column and reason": one frame, that of the first broken edit in the stated order.
pub record RefusedFirst (edits : List LineEdit) (output : List ℕ) : Type 0 where
  pub says : Notice
  pub frame : output ≡ refusal_frame says
  pub first : FirstBroken edits says

-- What the manual says of a file with these edits, of the output.
pub record ToldAsInManual (format : Format) (edits : List LineEdit) (file output : List ℕ) : Type 0 where
  -- "'accepted' means the published edits found nothing": these frames are told exactly if none is broken,
  pub accepted_none_broken : output ≡ accepted_frames format file → NoneBroken edits
  pub none_broken_accepted : NoneBroken edits → output ≡ accepted_frames format file
  -- and any other output is a refusal.
  pub otherwise_refused : (output ≡ accepted_frames format file → ⊥) → RefusedFirst edits output
