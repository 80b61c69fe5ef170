-- Follows the code; need not be believed. A line and the plain S records right after it, taken at once.
use Rattle.std.specs.Prelude.{ℕ, ◌+◌, List, length, eqb, if◌then◌else◌}
use Rattle.lines.specs.Lines.{first_line}
use Rattle.tables.specs.Room.{Tables, tables}
use Rattle.tables.specs.declared.Employer.{Employer}
use Rattle.state.specs.Walks.{Walk}
use Rattle.step.specs.Steps.{Out, line_step}
use Rattle.employees.specs.Runs.{Left, behind}

-- What a call leaves but for the employer list, and with it.
abbrev pub left_in : Out → Left
left_in o = record { says = o.says; taken = o.taken; walk = o.walk; ids = o.left.ids }

abbrev pub with_list : Left → List Employer → Out
with_list l list = record { says = l.says; taken = l.taken; walk = l.walk; left = tables l.ids list }

-- S records do not change the employer list.
abbrev pub behind_step : List ℕ → Out → Out
behind_step s o = with_list (behind s (length o.left.list) (left_in o)) o.left.list

-- The line at the front of these bytes, and those after it.
abbrev pub lines_step : Walk → List ℕ → Tables → Out
lines_step walk s t = behind_step s (line_step walk (first_line s) t)

-- Where the loop goes on: after the bytes that a line took, or at the end where it was refused.
abbrev pub next_place : ℕ → ℕ → ℕ → ℕ
next_place at taken end = if eqb taken 0 then end else (at + taken)
