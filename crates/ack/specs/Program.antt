-- Definitions: the program as turns over reads, and what its last turn writes.
use Rattle.std.specs.Prelude.{true, false, List, [], ◌∷◌, ◌++◌, ℕ, drop}
use Rattle.edits.specs.declared.format.Format.{Format}
use Rattle.tables.specs.Room.{Tables}
use Rattle.step.specs.Steps.{Out, open_step}
use Rattle.walk.specs.Calls.{calls, all}
use Rattle.frames.specs.Frames.{Framing, untouched, framing}
use Rattle.ack.specs.Turns.{Progress, waiting, walking, finished, Turn, turn, header_opening}

-- Reads one after the other, each put after what the turn before left over; at the end of the input one turn more. After a finished turn nothing is read.
unfoldable pub turns : Format → Progress → List ℕ → List (List ℕ) → Tables → Turn
turns format progress left [] t = turn format progress true left t
turns format (finished walk) left (read ∷ reads) t = record { progress = finished walk; left = []; tables = t }
turns format waiting left (read ∷ reads) t =
    let next = turn format waiting false (left ++ read) t in
    turns format next.progress next.left reads next.tables
turns format (walking walk) left (read ∷ reads) t =
    let next = turn format (walking walk) false (left ++ read) t in
    turns format next.progress next.left reads next.tables

-- All that is read.
abbrev pub input : List (List ℕ) → List ℕ
input [] = []
input (read ∷ reads) = read ++ input reads

-- The buffer that holds the frames of 1,024 employers in every format: "47 bytes for each employer and 35 more".
abbrev pub enough : ℕ
enough = 48163

-- The frames that a finished turn writes into a buffer.
abbrev pub turn_frames : Progress → Tables → List ℕ → Framing
turn_frames waiting t out = untouched 87 out
turn_frames (walking walk) t out = framing walk t.list out
turn_frames (finished walk) t out = framing walk t.list out

module _ (format : Format) where
  -- A walk over an input: header, then the file.
  abbrev pub walk_over : List ℕ → Tables → Out
  walk_over all-bytes t = calls all 0 (drop 7 all-bytes) (open_step (header_opening format all-bytes) t).walk (open_step (header_opening format all-bytes) t).left
