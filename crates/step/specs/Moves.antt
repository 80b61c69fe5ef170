-- Definitions: what a call answers and what it writes, decided before any table is touched.
use Rattle.std.specs.Prelude.{ℕ, ◌+◌, ◌-◌, Bool, leb, eqb, if◌then◌else◌, Result, Ok, Err}
use Rattle.laws.specs.Finding.{Finding, fine, broken}
use Rattle.reason.specs.ReasonNumbers.{Notice, notice, notice_of}
use Rattle.calendar.specs.declared.Quarter.{Quarter}
use Rattle.lines.specs.Lines.{Line}
use Rattle.chars.specs.Characters.{capitals}
use Rattle.edits.specs.Edit.{first_broken}
use Rattle.edits.specs.Formats.{may_open, opening_number, is_of_opening}
use Rattle.edits.specs.declared.Context.{Context}
use Rattle.edits.specs.declared.Open.{Open}
use Rattle.edits.specs.declared.Opening.{Opening}
use Rattle.edits.specs.declared.Phase.{Phase}
use Rattle.edits.specs.declared.Seen.{Seen}
use Rattle.edits.specs.declared.Totals.{Totals}
use Rattle.shape.specs.Shape.{Judged, refusal, passed}
use Rattle.record.specs.Judge.{judge, seen_on}
use Rattle.shape.specs.EndOfInput.{end_edits}
use Rattle.shape.specs.declared.Said.{Said}
use Rattle.shape.specs.declared.Said.TheVariants.{OfA, OfE, OfS, OfT, OfF, OfNote, OfNone}
use Rattle.tables.specs.Room.{Room, entries_used}
use Rattle.shape.specs.After.{phase_after, filed_after, open_after, entry_at_e, used_after, totals_after}
use Rattle.state.specs.Unfit.{unfit}
use Rattle.state.specs.Walks.{Standing, reading, accepted, refused, Walk, phase_of, walk_of, opened_walk, refused_walk}
use Rattle.step.specs.declared.Change.{Change}
use Rattle.step.specs.declared.Change.TheVariants.{Nothing, Clear, Opens, Adds, Closes}
use Rattle.step.specs.declared.Move.{Move}
use Rattle.reason.specs.declared.Refusal.{Refusal}

-- An answer in the paper's numbers, the bytes taken, the state that is handed back, and what is written.
pub record Moved : Type 0 where
  pub says : Notice
  pub taken : ℕ
  pub walk : Walk
  pub change : Change

-- "accepted" is number 0, with line 0 and column 0.
abbrev pub all_well : Notice
all_well = notice 0 0 0

-- ---- what the code answers, in the paper's numbers
abbrev pub notice_in : Result ℕ Refusal → Notice
notice_in (Ok taken) = all_well
notice_in (Err why) = notice_of why

-- "answers how many bytes that line and its end take (0 if refused)"
abbrev pub taken_in : Result ℕ Refusal → ℕ
taken_in (Ok taken) = taken
taken_in (Err why) = 0

abbrev pub moved_by : Move → Moved
moved_by m =
    record {
      says = notice_in m.answer.reply;
      taken = taken_in m.answer.reply;
      walk = walk_of m.answer.state;
      change = m.change;
    }

-- ---- the answers that refuse
-- "71, 72 .. give line 0, column 0": nothing changed.
abbrev pub stays : ℕ → Walk → Moved
stays number walk = record { says = notice number 0 0; taken = 0; walk = walk; change = Nothing }

-- "is answered again, both zeroed again, to each later line or end call"; after 70 "each later line or end call answers 70 again and touches nothing",
-- and 73 does as 70 does
abbrev pub again : Notice → Walk → Moved
again says walk = record { says = says; taken = 0; walk = walk; change = if is_of_opening says.number then Nothing else Clear }

-- "A refusal from 1 to 63, or a later number for an edit of a record, zeroes both, ends the walk". The line is the one after those read.
abbrev pub refuses : Walk → ℕ → ℕ → Moved
refuses walk column number =
    record {
      says = notice number (walk.lines + 1) column;
      taken = 0;
      walk = refused_walk walk.held.format (notice number (walk.lines + 1) column);
      change = Clear;
    }

-- ---- a record that passes
-- What the walk is after it: one line more, with the phase, A's quarter, the open E, the whole file and the ids in use that the record leaves.
abbrev pub after : Walk → Phase → Quarter → Open → Totals → ℕ → Walk
after walk phase filed this all used =
    record {
      standing = reading phase;
      lines = walk.lines + 1;
      held = walk.held;
      filed = filed;
      «open» = this;
      all = all;
      used = used;
    }

abbrev pub walk_after : Said → Walk → Walk
walk_after said walk =
    after walk (phase_after said (phase_of walk.standing)) (filed_after said walk.filed) (open_after said walk.open)
    (totals_after said walk.all) (used_after said walk.used)

-- What it writes: an E its entry after those so far; an S its identity number after those in use; a T the count and cents of the last entry, and
-- the ids in use become zeros.
abbrev pub change_by : Said → Walk → Change
change_by (OfA quarter) walk = Nothing
change_by (OfE employer) walk = Opens walk.all.employers (entry_at_e employer)
change_by (OfS employee) walk = if eqb employee.id 0 then Nothing else Adds walk.used employee.id
change_by OfT walk = Closes walk.used (walk.all.employers - 1) walk.open.count walk.open.sum
change_by OfF walk = Nothing
change_by (OfNote note) walk = Nothing
change_by OfNone walk = Nothing

abbrev pub goes_on : Walk → ℕ → Said → Moved
goes_on walk taken said = record { says = all_well; taken = taken; walk = walk_after said walk; change = change_by said walk }

abbrev pub by_verdict : Walk → Judged → Moved
by_verdict walk (refusal column number) = refuses walk column number
by_verdict walk (passed taken said) = goes_on walk taken said

-- ---- a line
-- All that a line's edits depend on, as the state and the lengths of the tables tell it.
abbrev pub context_of : Room → Walk → Phase → Context
context_of room walk phase =
    record {
      phase = phase;
      held = walk.held;
      filed = walk.filed;
      «open» = walk.open;
      all = walk.all;
      ids_full = leb room.ids walk.used;
      list_full = leb (entries_used room) walk.all.employers;
    }

abbrev pub by_standing : Room → Seen → Line → Walk → Standing → Moved
by_standing room seen line walk (reading phase) = by_verdict walk (judge (context_of room walk phase) seen line)
by_standing room seen line walk accepted = stays 71 walk
by_standing room seen line walk (refused says) = again says walk

-- A line, when it is known whether its FEIN or identity number was seen before. "72 comes first of all"
unfoldable pub line_seen : Room → Seen → Walk → Line → Moved
line_seen room seen walk line = if unfit room walk then stays 72 walk else by_standing room seen line walk walk.standing

-- A line: `earlier` says of a FEIN whether it stands on an earlier E, `under` of an identity number whether it stands under the open E.
abbrev pub line_moved : Room → (ℕ → Bool) → (ℕ → Bool) → Walk → Line → Moved
line_moved room earlier under walk line = line_seen room (seen_on walk.held.format earlier under (capitals line.text)) walk line

-- ---- the end
abbrev pub accepts : Walk → Moved
accepts walk =
    record {
      says = all_well;
      taken = 0;
      walk = record {
        standing = accepted;
        lines = walk.lines;
        held = walk.held;
        filed = walk.filed;
        «open» = walk.open;
        all = walk.all;
        used = walk.used;
      };
      change = Nothing;
    }

abbrev pub end_verdict : Walk → Finding → Moved
end_verdict walk fine = accepts walk
end_verdict walk (broken column number) = refuses walk column number

abbrev pub end_standing : Walk → Standing → Moved
end_standing walk (reading phase) = end_verdict walk (first_broken (end_edits phase))
end_standing walk accepted = stays 71 walk
end_standing walk (refused says) = again says walk

unfoldable pub end_moved : Room → Walk → Moved
end_moved room walk = if unfit room walk then stays 72 walk else end_standing walk walk.standing

-- ---- the opening
-- "70: bad quarter at opening, line 0, column 0; nothing touched", and 73 likewise. "Opening zeroes both tables, every entry."
abbrev pub opening_notice : Opening → Notice
opening_notice held = notice (opening_number held) 0 0

unfoldable pub open_moved : Opening → Moved
open_moved held =
    if may_open held
    then record { says = all_well; taken = 0; walk = opened_walk held; change = Clear }
    else record { says = opening_notice held; taken = 0; walk = refused_walk held.format (opening_notice held); change = Nothing }
