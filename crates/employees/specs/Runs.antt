-- Follows the code; need not be believed. A run of PFML's S records under one employer, each found good by one sweep, taken one after the other as a
-- call for each of them would take it.
use Rattle.std.specs.Prelude.{ℕ, zero, suc, ◌+◌, Bool, not, ◌&&◌, ◌||◌, List, eqb, ltb, length, take, drop, if◌then◌else◌}
use Rattle.reason.specs.ReasonNumbers.{Notice}
use Rattle.edits.specs.Formats.{is_pfml}
use Rattle.shape.specs.Limits.{most_employees}
use Rattle.shape.specs.declared.Said.{Said}
use Rattle.shape.specs.declared.Said.TheVariants.{OfS}
use Rattle.pfml.specs.Fitness.{most_lines}
use Rattle.plain.specs.Plain.{lowest, highest, fits, sight}
use Rattle.plain.specs.declared.Sighted.{Sighted}
use Rattle.tables.specs.Room.{Room}
use Rattle.tables.specs.Tables.{is_among}
use Rattle.state.specs.Unfit.{is_open, unfit}
use Rattle.state.specs.Walks.{Walk, walk_of}
use Rattle.step.specs.Moves.{notice_in, taken_in, walk_after, change_by}
use Rattle.step.specs.Steps.{ids_after}
use Rattle.step.specs.declared.Answer.{Answer}
use Rattle.employees.specs.declared.Run.{Run}

-- ---- when a walk takes a plain S record
-- It is of PFML, stands under an E that says that S records follow, and its state is fit.
abbrev pub awaits : Room → Walk → Bool
awaits room walk =
    is_pfml walk.held.format
    && (not (unfit room walk) && (is_open walk.standing && (walk.open.follow && fits walk.open.fein walk.filed)))

-- The identity number is none, or new and there is room for it.
abbrev pub is_new : Walk → List ℕ → ℕ → Bool
is_new walk ids id = eqb id 0 || (ltb walk.used (length ids) && not (is_among id (take walk.used ids)))

-- One line more, and one S record more.
abbrev pub has_room : Walk → Bool
has_room walk = ltb walk.all.count most_employees && ltb walk.lines most_lines

abbrev pub takes : Room → Walk → List ℕ → Sighted → Bool
takes room walk ids s = awaits room walk && (not (eqb s.taken 0) && (has_room walk && is_new walk ids s.id))

-- ---- the run
-- What the sweep sees at the front of these bytes.
abbrev pub sight_under : Walk → List ℕ → Sighted
sight_under walk s = sight (lowest walk.open.fein walk.filed) (highest walk.open.fein walk.filed) s

abbrev pub said_in : Sighted → Said
said_in s = OfS (record { id = s.id; wages = s.wages; second = 0 })

-- Where a run stands: the place in the bytes, the state, and the id table.
pub record Reached : Type 0 where
  pub at : ℕ
  pub walk : Walk
  pub ids : List ℕ

-- At most n lines more, while the line at the place is one that the walk takes; the employer list has so many entries.
unfoldable pub reaches : List ℕ → ℕ → ℕ → ℕ → Walk → List ℕ → Reached
reaches bytes list zero at walk ids = record { at = at; walk = walk; ids = ids }
reaches bytes list (suc n) at walk ids =
    let s = sight_under walk (drop at bytes) in
    if takes (record { ids = length ids; list = list }) walk ids s
    then reaches bytes list n (at + s.taken) (walk_after (said_in s) walk) (ids_after (change_by (said_in s) walk) ids)
    else record { at = at; walk = walk; ids = ids }

-- What the code answers, with what the id table then holds.
abbrev pub reached_by : Run → List ℕ → Reached
reached_by r ids = record { at = r.at; walk = walk_of r.state; ids = ids }

-- ---- after a line
-- What a call for a line leaves but for the employer list.
pub record Left : Type 0 where
  pub says : Notice
  pub taken : ℕ
  pub walk : Walk
  pub ids : List ℕ

abbrev pub left_by : Answer → List ℕ → Left
left_by a ids = record { says = notice_in a.reply; taken = taken_in a.reply; walk = walk_of a.state; ids = ids }

abbrev pub left_at : Notice → Reached → Left
left_at says r = record { says = says; taken = r.at; walk = r.walk; ids = r.ids }

-- The run after a line that was taken; the bytes begin with that line.
unfoldable pub behind : List ℕ → ℕ → Left → Left
behind s list o = if eqb o.taken 0 then o else left_at o.says (reaches s list (length s) o.taken o.walk o.ids)
