-- Definitions: the frames of an acknowledgement. "Output: lines of hexadecimal in capitals, one frame a line, LF, numbers big-endian."
use Rattle.std.specs.Prelude.{ℕ, ◌+◌, ◌*◌, List, [], ◌∷◌, ◌++◌, ltb, length, take, drop, get_or, if◌then◌else◌, Result, Ok, Err}
use Rattle.reason.specs.ReasonNumbers.{Notice}
use Rattle.edits.specs.declared.Totals.{Totals}
use Rattle.edits.specs.declared.format.Format.{Format}
use Rattle.edits.specs.declared.format.Format.TheVariants.{Pfml, Wham2024, Unknown}
use Rattle.tables.specs.Room.{Room}
use Rattle.tables.specs.declared.Employer.{Employer}
use Rattle.meaning.specs.Meaning.{Outcome, accepted, refused}
use Rattle.state.specs.Unfit.{unfit}
use Rattle.state.specs.Walks as walks
use Rattle.state.specs.Walks.{Standing, Walk}
use Rattle.frames.specs.Hex.{hex}
use Rattle.frames.specs.declared.Unframed.{Unframed}
use Rattle.frames.specs.declared.Unframed.TheVariants.{Unfit, NotEnded, TooSmall}

-- Two digits a byte; a frame ends with LF.
abbrev pub line_end : List ℕ
line_end = 10 ∷ []

-- A kind (1 byte) and three numbers, of 4, 4 and 8 bytes: an employer's frame and the closing one begin so.
abbrev pub three_numbers : ℕ → ℕ → ℕ → ℕ → List ℕ
three_numbers kind a b cents = hex 2 kind ++ hex 8 a ++ hex 8 b ++ hex 16 cents

-- An employer's frame, by the format.
abbrev pub employer_frame : Format → Employer → List ℕ
-- "The employer frame 01 becomes 02 with the flags (1 byte each) and the date (4 bytes) at its end, six bytes longer."
employer_frame Pfml e =
    three_numbers 2 e.fein e.count e.cents ++ hex 2 e.amended ++ hex 2 e.final_return ++ hex 8 e.cease_date ++ line_end
-- Document 01's frame: "01, FEIN (4 bytes), S count (4), cents (8), one for each employer". Other formats keep it. A number that names no format has it too,
-- and no walk of it is accepted.
employer_frame Wham2024 e = three_numbers 1 e.fein e.count e.cents ++ line_end
employer_frame Unknown e = three_numbers 1 e.fein e.count e.cents ++ line_end

-- Its length: 23 bytes in two digits each, and LF; document 01's has 17 bytes.
abbrev pub employer_size : Format → ℕ
employer_size Pfml = 47
employer_size Wham2024 = 35
employer_size Unknown = 35

unfoldable pub employer_frames : Format → List Employer → List ℕ
employer_frames format [] = []
employer_frames format (e ∷ list) = employer_frame format e ++ employer_frames format list

-- "then 00, S count (4), E count (4), cents (8)"
abbrev pub closing_frame : Totals → List ℕ
closing_frame all = three_numbers 0 all.count all.employers all.sum ++ line_end

-- "If refused, only FF, number (1), line (4), column (2)."
abbrev pub refusal_frame : Notice → List ℕ
refusal_frame says = hex 2 255 ++ hex 2 says.number ++ hex 8 says.line ++ hex 4 says.column ++ line_end

-- The acknowledgement of a file, by its format and its meaning.
abbrev pub frames_of : Format → Outcome → List ℕ
frames_of format (accepted entries totals) = employer_frames format entries ++ closing_frame totals
frames_of format (refused says) = refusal_frame says

-- How many bytes they are. PFML: "the output bound becomes 47 bytes for each employer and 35 more". 17 for a refusal.
abbrev pub bound : Format → Outcome → ℕ
bound format (accepted entries totals) = employer_size format * length entries + 35
bound format (refused says) = 17

-- ---- a call that writes frames
-- What it answers: the number, 0 if all is well, and how many bytes are written.
pub record FramedNumbers : Type 0 where
  pub number : ℕ
  pub bytes : ℕ

abbrev pub written : ℕ → FramedNumbers
written bytes = record { number = 0; bytes = bytes }

abbrev pub unwritten : ℕ → FramedNumbers
unwritten number = record { number = number; bytes = 0 }

-- "72: state unfit; nothing changed". The papers give no number to frames that are asked for before the walk has ended, nor to a buffer that is too
-- small for them: 87 and 88 are free in them.
abbrev pub framed_numbers : Result ℕ Unframed → FramedNumbers
framed_numbers (Ok bytes) = written bytes
framed_numbers (Err Unfit) = unwritten 72
framed_numbers (Err NotEnded) = unwritten 87
framed_numbers (Err TooSmall) = unwritten 88

-- The answer in numbers, and what is then in the lent buffer.
pub record Framing : Type 0 where
  pub says : FramedNumbers
  pub out : List ℕ

-- What the code answers, with what the buffer then holds.
abbrev pub framed_by : Result ℕ Unframed → List ℕ → Framing
framed_by framed out = record { says = framed_numbers framed; out = out }

-- Nothing is written: the buffer is as it was.
abbrev pub untouched : ℕ → List ℕ → Framing
untouched number out = record { says = unwritten number; out = out }

-- Frames written at the front of the buffer, or none where it is too small.
abbrev pub fitted : List ℕ → List ℕ → Framing
fitted frames out =
    if ltb (length out) (length frames)
    then untouched 88 out
    else record { says = written (length frames); out = frames ++ drop (length frames) out }

-- Frames come only for a walk that has ended: accepted, with frames of its format, or refused. One that still reads has none, the phase after F included.
abbrev pub standing_frames : Walk → List Employer → List ℕ → Standing → Framing
standing_frames walk list out (walks.reading phase) = untouched 87 out
standing_frames walk list out walks.accepted = fitted (employer_frames walk.held.format (take walk.all.employers list) ++ closing_frame walk.all) out
standing_frames walk list out (walks.refused says) = fitted (refusal_frame says) out

-- The call is lent no id table, so none is compared (72).
abbrev pub room_without : Walk → List Employer → Room
room_without walk list = record { ids = walk.used; list = length list }

unfoldable pub framing : Walk → List Employer → List ℕ → Framing
framing walk list out =
    if unfit (room_without walk list) walk
    then untouched 72 out
    else standing_frames walk list out walk.standing

abbrev pub first_byte : List ℕ → ℕ
first_byte output = get_or output 0 0
