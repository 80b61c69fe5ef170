-- Definitions: the calls of demands 2 and 3: opening, line calls while any byte remains and none is refused, then one end call.
use Rattle.std.specs.Prelude.{ℕ, zero, suc, ◌+◌, ◌-◌, ◌≤◌, List, [], ◌∷◌, ◌⊎◌, eqb, length, take, if◌then◌else◌}
use Rattle.lines.specs.Lines.{first_line, lines_of}
use Rattle.reason.specs.ReasonNumbers.{Notice}
use Rattle.edits.specs.Formats.{may_open}
use Rattle.edits.specs.declared.Opening.{Opening}
use Rattle.edits.specs.declared.format.Format.{Format}
use Rattle.shape.specs.declared.Said.{Said}
use Rattle.record.specs.ShapeOf.{shape_of}
use Rattle.tables.specs.Pad.{pad}
use Rattle.tables.specs.Room.{Room, Tables, tables, room_of, zeroed}
use Rattle.tables.specs.Tables.{no_employer}
use Rattle.meaning.specs.Meaning.{Outcome, accepted, refused, records_onto, meaning}
use Rattle.state.specs.Walks.{Walk, refused_walk}
use Rattle.step.specs.Moves.{all_well, opening_notice}
use Rattle.step.specs.Steps.{Out, open_step, line_step, end_step}
use Rattle.walk.specs.At.{accepted_at}

-- How many bytes a call is lent, by how many remain: "all that remains, or at least 292 bytes", which is a line's length and two more. No two calls of a walk
-- have as many bytes before them, so whatever a caller lends is one of these.
abbrev pub Lending : Format → (ℕ → ℕ) → Type 0
Lending format lend = (remain : ℕ) → ((shape_of format).length + 2 ≤ lend remain) ⊎ (remain ≤ lend remain)

-- All that remains.
abbrev pub all : ℕ → ℕ
all remain = remain

-- "calls that are each lent the file from where the last one ended": line calls while any byte remains and none is refused ("0 if refused"), then one
-- end call, after a refusal too. `skip` bytes still belong to the line taken last.
unfoldable pub calls : (ℕ → ℕ) → ℕ → List ℕ → Walk → Tables → Out
calls lend skip [] walk t = end_step walk t
calls lend (suc skip) (b ∷ rest) walk t = calls lend skip rest walk t
calls lend zero (b ∷ rest) walk t =
    let o = line_step walk (first_line (take (lend (length (b ∷ rest))) (b ∷ rest))) t in
    if eqb o.taken 0 then end_step o.walk o.left else calls lend (o.taken - 1) rest o.walk o.left

-- From the opening on.
abbrev pub walked : (ℕ → ℕ) → Opening → List ℕ → Tables → Out
walked lend held file t = calls lend 0 file (open_step held t).walk (open_step held t).left

-- What a refusal by an edit leaves with the caller, in a walk of this format.
abbrev pub refused_with : Format → Notice → Room → Out
refused_with format says room = record { says = says; taken = 0; walk = refused_walk format says; left = zeroed room }

-- What an outcome leaves with the caller. "Acceptance leaves the employer list, in file order: FEIN, S count, cents; later entries zero."
abbrev pub leaves : Room → Opening → List Said → Outcome → Out
leaves room held p (accepted entries totals) =
    record {
      says = all_well;
      taken = 0;
      walk = accepted_at held p;
      left = tables (zeroed room).ids (pad no_employer room.list entries);
    }
leaves room held p (refused says) = refused_with held.format says room

-- What a whole file leaves: by its meaning; or, where the opening is refused, 70 or 73 with nothing touched.
abbrev pub whole_file : Opening → List ℕ → Tables → Out
whole_file held file t =
    if may_open held
    then leaves (room_of t) held (records_onto held.format [] (lines_of file)) (meaning (room_of t) held file)
    else record { says = opening_notice held; taken = 0; walk = refused_walk held.format (opening_notice held); left = t }
