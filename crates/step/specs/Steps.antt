-- Definitions: opening, one line and the end over a state and the two lent tables: what is decided, and then carried out.
use Rattle.std.specs.Prelude.{ℕ, Bool, List, length, take, set, replicate}
use Rattle.reason.specs.ReasonNumbers.{Notice}
use Rattle.lines.specs.Lines.{Line}
use Rattle.tables.specs.Room.{Tables, tables, room_of}
use Rattle.tables.specs.Tables.{no_employer, wiped, is_among, closed_entry_at, feins_of}
use Rattle.tables.specs.declared.Employer.{Employer}
use Rattle.edits.specs.declared.Opening.{Opening}
use Rattle.state.specs.Walks.{Walk, walk_of}
use Rattle.step.specs.Moves.{Moved, notice_in, taken_in, line_moved, end_moved, open_moved}
use Rattle.step.specs.declared.Answer.{Answer}
use Rattle.step.specs.declared.Change.{Change}
use Rattle.step.specs.declared.Change.TheVariants.{Nothing, Clear, Opens, Adds, Closes}

-- What a caller has after a call: the answer in the paper's numbers, the bytes taken, the state, and the content of both tables.
pub record Out : Type 0 where
  pub says : Notice
  pub taken : ℕ
  pub walk : Walk
  pub left : Tables

-- What a change leaves in the id table, and in the employer list.
abbrev pub ids_after : Change → List ℕ → List ℕ
ids_after Nothing ids = ids
ids_after Clear ids = replicate (length ids) 0
ids_after (Opens at entry) ids = ids
ids_after (Adds at id) ids = set ids at id
ids_after (Closes used at count cents) ids = wiped 0 used ids

abbrev pub list_after : Change → List Employer → List Employer
list_after Nothing list = list
list_after Clear list = replicate (length list) no_employer
list_after (Opens at entry) list = set list at entry
list_after (Adds at id) list = list
list_after (Closes used at count cents) list = closed_entry_at at count cents list

abbrev pub written : Change → Tables → Tables
written change t = tables (ids_after change t.ids) (list_after change t.list)

abbrev pub carried : Moved → Tables → Out
carried m t = record { says = m.says; taken = m.taken; walk = m.walk; left = written m.change t }

-- What the tables say of a FEIN and of an identity number.
abbrev pub listed_fein : Walk → Tables → ℕ → Bool
listed_fein walk t fein = is_among fein (feins_of (take walk.all.employers t.list))

abbrev pub listed_id : Walk → Tables → ℕ → Bool
listed_id walk t id = is_among id (take walk.used t.ids)

abbrev pub open_step : Opening → Tables → Out
open_step held t = carried (open_moved held) t

abbrev pub line_step : Walk → Line → Tables → Out
line_step walk line t = carried (line_moved (room_of t) (listed_fein walk t) (listed_id walk t) walk line) t

abbrev pub end_step : Walk → Tables → Out
end_step walk t = carried (end_moved (room_of t) walk) t

-- What the code hands back, with what the tables then hold.
abbrev pub out_of : Answer → Tables → Out
out_of answer t = record { says = notice_in answer.reply; taken = taken_in answer.reply; walk = walk_of answer.state; left = t }
