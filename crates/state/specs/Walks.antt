-- Definitions: the state of a walk in the paper's numbers.
use Rattle.std.specs.Prelude.{ℕ}
use Rattle.reason.specs.ReasonNumbers.{Notice, notice_of}
use Rattle.calendar.specs.declared.Quarter.{Quarter}
use Rattle.edits.specs.Formats.{opening_with}
use Rattle.edits.specs.declared.Open.{Open}
use Rattle.edits.specs.declared.Opening.{Opening}
use Rattle.edits.specs.declared.Phase.{Phase}
use Rattle.edits.specs.declared.Phase.TheVariants.{BeforeA, AfterF}
use Rattle.edits.specs.declared.Totals.{Totals}
use Rattle.edits.specs.declared.format.Format.{Format}
use Rattle.edits.specs.declared.format.Format.TheVariants.{Unknown}
use Rattle.shape.specs.After.{no_quarter, none_open, no_totals}
use Rattle.state.specs.declared.Stage.{Stage}
use Rattle.state.specs.declared.Stage.TheVariants.{Reading, Accepted, Refused}
use Rattle.state.specs.declared.State.{State}

-- Where a walk stands: among the records of the file, in one of five phases; accepted; or refused with a number and a place.
pub data Standing : Type 0 where
  reading : Phase → Standing
  accepted : Standing
  refused : Notice → Standing

pub record Walk : Type 0 where
  pub standing : Standing
  -- lines read: "a refused line isn't counted as read"
  pub lines : ℕ
  -- what the walk was opened with, and A's quarter
  pub held : Opening
  pub filed : Quarter
  -- the open E, and the whole file
  pub «open» : Open
  pub all : Totals
  -- ids in use
  pub used : ℕ

-- The phase that the next record meets. No record meets an accepted or a refused walk.
abbrev pub phase_of : Standing → Phase
phase_of (reading phase) = phase
phase_of accepted = AfterF
phase_of (refused notice) = BeforeA

abbrev pub standing_of : Stage → Standing
standing_of (Reading phase) = reading phase
standing_of Accepted = accepted
standing_of (Refused refusal) = refused (notice_of refusal)

-- The code's state in the paper's numbers.
abbrev pub walk_of : State → Walk
walk_of st =
    record {
      standing = standing_of st.stage;
      lines = st.lines;
      held = st.held;
      filed = st.filed;
      «open» = st.open;
      all = st.all;
      used = st.used;
    }

-- What a walk that is not opened has in its place.
abbrev pub no_opening : Opening
no_opening = opening_with Unknown no_quarter

-- A walk that has read nothing.
abbrev pub opened_walk : Opening → Walk
opened_walk held =
    record {
      standing = reading BeforeA;
      lines = 0;
      held = held;
      filed = no_quarter;
      «open» = none_open;
      all = no_totals;
      used = 0;
    }

-- "After these and 70 the state keeps number and place, every count and sum zero, no E open." It keeps its format too.
abbrev pub refused_walk : Format → Notice → Walk
refused_walk format notice =
    record {
      standing = refused notice;
      lines = 0;
      held = opening_with format no_quarter;
      filed = no_quarter;
      «open» = none_open;
      all = no_totals;
      used = 0;
    }
