-- Definitions: 72, "state unfit", exactly by its list.
use Rattle.std.specs.Prelude.{ℕ, ◌*◌, Bool, false, not, ◌&&◌, ◌||◌, ltb, eqb, if◌then◌else◌}
use Rattle.calendar.specs.declared.Quarter.{Quarter}
use Rattle.edits.specs.Formats.{is_known, may_open}
use Rattle.edits.specs.declared.Open.{Open}
use Rattle.edits.specs.declared.Opening.{Opening}
use Rattle.edits.specs.declared.Phase.{Phase}
use Rattle.edits.specs.declared.Phase.TheVariants.{EOpen, AfterF}
use Rattle.edits.specs.declared.Totals.{Totals}
use Rattle.edits.specs.declared.format.Format.{Format}
use Rattle.shape.specs.Limits.{most_employees, most_fein}
use Rattle.shape.specs.Phases.{stands}
use Rattle.shape.specs.Shape.{Shape}
use Rattle.record.specs.ShapeOf.{shape_of}
use Rattle.tables.specs.Room.{Room, entries_used}
use Rattle.state.specs.Walks.{Standing, reading, accepted, refused, Walk}

-- "employers exceed the list or 65,536; S in the file exceed 100,000"; "either wage sum exceeds its S count times 99,999,999,999,999";
-- "lines read exceed 231,074": the last two numbers are the format's.
unfoldable pub file_unfit : Shape → ℕ → Totals → ℕ → Bool
file_unfit s entries all lines =
    ltb entries all.employers || ltb most_employees all.count || ltb (all.count * s.most_cents) all.sum || ltb s.most_lines lines

-- Of an open E: "S in the file .. are fewer than the open E's"; "either wage sum .."; "an E is open and there is no employer; the open E's FEIN exceeds
-- 999,999,999"
unfoldable pub open_unfit : Shape → Totals → Open → Bool
open_unfit s all this =
    ltb all.count this.count || ltb (this.count * s.most_cents) this.sum || eqb all.employers 0 || ltb most_fein this.fein

-- "nor an open E's numbers, ids in use among them, when none is open"
abbrev pub is_open : Standing → Bool
is_open (reading phase) = stands EOpen phase
is_open accepted = false
is_open (refused notice) = false

-- "A refusal from 1 to 63, or a later number for an edit of a record, .. After these and 70 the state keeps number and place": a number that a refusal leaves in
-- the state. An opening leaves 70 with any format and 73 with a number that names none; the others are left by the edits of one that is known.
unfoldable pub is_left : Format → ℕ → Bool
is_left format number = eqb number 70 || (if is_known format then (shape_of format).is_left number else eqb number 73)

-- "in a walk not refused, the quarter held, or A's once A is read, is none that this paper allows"; likewise its format is one that is known.
abbrev pub both_unfit : Phase → Opening → Quarter → Bool
both_unfit phase held filed = not (may_open held) || (shape_of held.format).quarter_unfit phase held filed

abbrev pub standing_unfit : Standing → Opening → Quarter → Bool
standing_unfit (reading phase) held filed = both_unfit phase held filed
standing_unfit accepted held filed = both_unfit AfterF held filed
-- "a refused walk's number is none that a refusal leaves in the state"
standing_unfit (refused notice) held filed = not (is_left held.format notice.number)

-- "72 comes first of all and exactly if": the file's numbers, an open E's, those of the format's own list, and where the walk stands
unfoldable pub unfit : Room → Walk → Bool
unfit room walk =
    file_unfit (shape_of walk.held.format) (entries_used room) walk.all walk.lines
    || is_open walk.standing && open_unfit (shape_of walk.held.format) walk.all walk.open
    || (shape_of walk.held.format).unfit_more room.ids walk.used (is_open walk.standing) walk.all walk.open
    || standing_unfit walk.standing walk.held walk.filed
