-- Definitions: a file that is read piece by piece. A turn takes the lines that are whole in what is held; what is left over stands before the next read.
use Rattle.std.specs.Prelude.{ℕ, zero, suc, ◌-◌, ◌/◌, ◌%◌, Bool, ◌||◌, List, [], ◌∷◌, eqb, leb, length, drop, get_or, if◌then◌else◌}
use Rattle.laws.specs.Finding.{Reading, value, refused}
use Rattle.calendar.specs.declared.Quarter.{Quarter}
use Rattle.number.specs.Numbers.{number_in}
use Rattle.tables.specs.Room.{Tables}
use Rattle.edits.specs.Formats.{opening_with}
use Rattle.edits.specs.declared.Opening.{Opening}
use Rattle.edits.specs.declared.format.Format.{Format}
use Rattle.shape.specs.After.{no_quarter}
use Rattle.state.specs.Walks.{Walk}
use Rattle.step.specs.Steps.{Out, open_step, end_step}
use Rattle.walk.specs.LineAndRun.{lines_step}

-- "Input: six digits YYYYMM of the last closed quarter and LF (else 70; not counted as a line), then the file." What is no header is read as no quarter, which
-- the opening refuses with 70.
abbrev pub header_size : ℕ
header_size = 7

abbrev pub quarter_of : ℕ → Bool → Quarter
quarter_of digits ends = if ends then record { year = digits / 100; month = digits % 100 } else no_quarter

abbrev pub quarter_by : Reading → Bool → Quarter
quarter_by (value digits) ends = quarter_of digits ends
quarter_by (refused column number) ends = no_quarter

unfoldable pub header_quarter : List ℕ → Quarter
header_quarter input = quarter_by (number_in input 1 6) (eqb (get_or input 6 0) 10)

-- The header tells the quarter; the format is the program's.
abbrev pub header_opening : Format → List ℕ → Opening
header_opening format input = opening_with format (header_quarter input)

-- So many bytes show a line whole, whatever its format: the longest record of any format has 512 characters, and the longest line end 2.
abbrev pub longest_line : ℕ
longest_line = 514

-- Where a program stands between two reads: before the header; within the file; or finished, with the end call's answer.
pub data Progress : Type 0 where
  waiting : Progress
  walking : Walk → Progress
  finished : Walk → Progress

-- What a turn leaves: where the program stands, the bytes that it has not taken, and the tables.
pub record Turn : Type 0 where
  pub progress : Progress
  pub left : List ℕ
  pub tables : Tables

abbrev pub ends : Out → Turn
ends o = record { progress = finished o.walk; left = []; tables = o.left }

abbrev pub goes_on : Walk → Tables → List ℕ → Turn
goes_on walk t left = record { progress = walking walk; left = left; tables = t }

-- Lines are taken while the longest line would be there whole, or the input has ended; then, or after a refusal, comes the end call. A call takes a line and
-- the plain S records right after it (`lines_step`), as a call for each of them would. `skip` bytes still belong to the lines taken last.
unfoldable pub lines_turn : Bool → ℕ → List ℕ → Walk → Tables → Turn
lines_turn ended skip [] walk t = if ended then ends (end_step walk t) else goes_on walk t []
lines_turn ended (suc skip) (b ∷ rest) walk t = lines_turn ended skip rest walk t
lines_turn ended zero (b ∷ rest) walk t =
    if ended || leb longest_line (length (b ∷ rest))
    then (let o = lines_step walk (b ∷ rest) t in
    if eqb o.taken 0 then ends (end_step o.walk o.left) else lines_turn ended (o.taken - 1) rest o.walk o.left)
    else goes_on walk t (b ∷ rest)

-- The header is read as soon as its bytes are there, or the input has ended.
abbrev pub header_turn : Format → Bool → List ℕ → Tables → Turn
header_turn format ended held t =
    if ended || leb header_size (length held)
    then lines_turn ended 0 (drop header_size held) (open_step (header_opening format held) t).walk (open_step (header_opening format held) t).left
    else record { progress = waiting; left = held; tables = t }

-- One turn on the bytes held, of an input in this format.
unfoldable pub turn : Format → Progress → Bool → List ℕ → Tables → Turn
turn format waiting ended held t = header_turn format ended held t
turn format (walking walk) ended held t = lines_turn ended 0 held walk t
turn format (finished walk) ended held t = record { progress = finished walk; left = []; tables = t }
