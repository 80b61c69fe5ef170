-- Definitions: what the program answers: all input bytes to all output bytes.
use Rattle.std.specs.Prelude.{ℕ, List, drop, if◌then◌else◌}
use Rattle.tables.specs.Room.{Room}
use Rattle.edits.specs.Formats.{may_open}
use Rattle.edits.specs.declared.Opening.{Opening}
use Rattle.edits.specs.declared.format.Format.{Format}
use Rattle.meaning.specs.Meaning.{meaning}
use Rattle.step.specs.Moves.{opening_notice}
use Rattle.frames.specs.Frames.{refusal_frame, frames_of}
use Rattle.ack.specs.Turns.{header_size, header_opening}

-- "Tables: 1,024 employers, 8,192 ids."
abbrev pub program_room : Room
program_room = record { ids = 8192; list = 1024 }

-- The acknowledgement of a file of a format, under a last closed quarter.
abbrev pub file_frames : Opening → List ℕ → List ℕ
file_frames held file = if may_open held then frames_of held.format (meaning program_room held file) else refusal_frame (opening_notice held)

-- "Input: six digits YYYYMM of the last closed quarter and LF (else 70; not counted as a line), then the file."
abbrev pub acknowledgement : Format → List ℕ → List ℕ
acknowledgement format input = file_frames (header_opening format input) (drop header_size input)
