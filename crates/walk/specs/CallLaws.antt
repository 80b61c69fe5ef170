-- Laws: one call: lent a part of the bytes it answers as if lent all (pieces_are_whole);
-- on a walk that nobody altered it is never unfit, and answers what the records before say.
use Rattle.std.specs.Prelude.{ℕ, ◌≤◌, Bool, true, false, List, ◌≡◌, refl, length, take}
use Rattle.std.proofs.lemmas.Bool.{false≢true}
use Rattle.std.proofs.Common.{ap, ◌∙◌, arith}
use Rattle.chars.specs.Characters.{capitals}
use Rattle.lines.specs.Lines.{Line, first_line}
use Rattle.lines.specs.Lent.{Lent}
use Rattle.edits.specs.Edit.{first_broken}
use Rattle.edits.specs.Formats.{may_open}
use Rattle.edits.specs.declared.Opening.{Opening}
use Rattle.edits.specs.declared.Phase.{Phase}
use Rattle.edits.specs.declared.Phase.TheVariants.{BeforeA, AfterA, EOpen, AfterT, AfterF}
use Rattle.record.specs.ShapeOf.{shape_of}
use Rattle.record.specs.Laws.{judge_lent, lawful_of}
use Rattle.record.specs.Judge.{seen_on}
use Rattle.shape.specs.EndOfInput.{end_edits}
use Rattle.shape.specs.declared.Said.{Said}
use Rattle.tables.specs.Room.{Room, Tables, room_of, entries_used}
use Rattle.tables.specs.Tables.{is_among}
use Rattle.meaning.specs.Before.{phase_in, totals_in}
use Rattle.meaning.specs.Meaning.{on_earlier_e, under_this_e, judge_at}
use Rattle.state.specs.Unfit.{is_open, unfit}
use Rattle.state.specs.UnfitLaws.{FileSound, sound_fit}
use Rattle.state.specs.Walks.{Standing, reading, accepted, refused, Walk}
use Rattle.step.specs.MoveLaws.{line_alike, line_fit, end_fit}
use Rattle.step.specs.Moves.{Moved, by_verdict, by_standing, line_moved, end_verdict, end_moved}
use Rattle.step.specs.Steps.{carried, listed_fein, listed_id, line_step, end_step}
use Rattle.walk.specs.At.{walk_at, tables_at}
use Rattle.walk.specs.GoodLaws.{begun, done, Good}
use Rattle.walk.specs.StepLaws.{room_at, feins_listed, ids_listed}

-- ---- the law of one call behind every lending
module _ (room : Room) (earlier under : ℕ → Bool) (m : ℕ) (s : List ℕ) (walk : Walk) (lent : Lent (shape_of walk.held.format).length m s) where
  same_standing : (standing : Standing)
      → by_standing room (seen_on walk.held.format earlier under (capitals (first_line (take m s)).text)) (first_line (take m s)) walk standing
      ≡ by_standing room (seen_on walk.held.format earlier under (capitals (first_line s).text)) (first_line s) walk standing
  same_standing (reading phase) = ap (by_verdict walk) (judge_lent _ earlier under m s lent)
  same_standing accepted = refl
  same_standing (refused says) = refl

  same_line : line_moved room earlier under walk (first_line (take m s)) ≡ line_moved room earlier under walk (first_line s)
  same_line = line_alike room walk _ _ (first_line (take m s)) (first_line s) same_standing

-- A call that is lent a part of what remains, at least a line's length and two bytes more, answers and leaves what it would if it were lent all: for every
-- state, every content of the tables and every bytes.
pub pieces_are_whole : (walk : Walk) (t : Tables) (m : ℕ) (s : List ℕ) → Lent (shape_of walk.held.format).length m s → line_step walk (first_line (take m s)) t ≡ line_step walk (first_line s) t
pieces_are_whole walk t m s lent = ap (λ (moved : Moved). carried moved t) (same_line (room_of t) (listed_fein walk t) (listed_id walk t) m s walk lent)

-- ---- a walk that nobody altered
is_open_lem : (phase : Phase) → is_open (reading phase) ≡ true → phase ≡ EOpen
is_open_lem BeforeA e = absurd (false≢true e)
is_open_lem AfterA e = absurd (false≢true e)
is_open_lem EOpen e = refl
is_open_lem AfterT e = absurd (false≢true e)
is_open_lem AfterF e = absurd (false≢true e)

counts_small : (phase : Phase) → (begun phase ≤ 1) × (done phase ≤ 1)
counts_small BeforeA = (omega arith, omega arith)
counts_small AfterA = (omega arith, omega arith)
counts_small EOpen = (omega arith, omega arith)
counts_small AfterT = (omega arith, omega arith)
counts_small AfterF = (omega arith, omega arith)

module _ (room : Room) (held : Opening) (p : List Said) (g : Good room held p) (allowed : may_open held ≡ true) where
  pub file_sound_at : FileSound (shape_of held.format) (entries_used room) (totals_in p) (length p)
  file_sound_at =
      record {
        employers = g.list_fit;
        many = g.many;
        sum = g.sum;
        lines_read = omega (arith, g, counts_small (phase_in p), (lawful_of held.format).lines_allowed);
      }

  some_employer : phase_in p ≡ EOpen → 1 ≤ (totals_in p).employers
  some_employer e = rw e at g.some

  pub fit_at : unfit room (walk_at held p) ≡ false
  fit_at =
      sound_fit room (walk_at held p) file_sound_at
      (λ e. record {
        under = g.under;
        under_sum = g.under_sum;
        some = some_employer (is_open_lem (phase_in p) e);
        fein = g.fein;
      })
      g.more
      (rw (allowed, g.quarter))

  fit_line : (line : Line) → line_moved room (on_earlier_e p) (under_this_e p) (walk_at held p) line ≡ by_verdict (walk_at held p) (judge_at room held p line)
  fit_line line = line_fit room (walk_at held p) _ line (reading (phase_in p)) fit_at refl

  -- The tables tell a line what the records before it tell.
  moved_at : (line : Line) → line_moved (room_of (tables_at room p)) (listed_fein (walk_at held p) (tables_at room p)) (listed_id (walk_at held p) (tables_at room p)) (walk_at held p) line
      ≡ by_verdict (walk_at held p) (judge_at room held p line)
  moved_at line =
      let t = tables_at room p in
      let walk = walk_at held p in
      ap (λ (r : Room). line_moved r (listed_fein walk t) (listed_id walk t) walk line) (room_at room held p g)
      ∙ ap (λ (feins : List ℕ). line_moved room (λ fein. is_among fein feins) (listed_id walk t) walk line) (feins_listed room held p g)
      ∙ ap (λ (ids : List ℕ). line_moved room (on_earlier_e p) (λ id. is_among id ids) walk line) (ids_listed room held p g)
      ∙ fit_line line

  -- A line is judged by the records before it.
  pub line_at : (line : Line) → line_step (walk_at held p) line (tables_at room p) ≡ carried (by_verdict (walk_at held p) (judge_at room held p line)) (tables_at room p)
  line_at line = ap (λ (moved : Moved). carried moved (tables_at room p)) (moved_at line)

  ended_at : end_moved (room_of (tables_at room p)) (walk_at held p) ≡ end_verdict (walk_at held p) (first_broken (end_edits (phase_in p)))
  ended_at =
      ap (λ (r : Room). end_moved r (walk_at held p)) (room_at room held p g) ∙ end_fit room (walk_at held p) (reading (phase_in p)) fit_at refl

  pub end_at : end_step (walk_at held p) (tables_at room p) ≡ carried (end_verdict (walk_at held p) (first_broken (end_edits (phase_in p)))) (tables_at room p)
  end_at = ap (λ (moved : Moved). carried moved (tables_at room p)) ended_at
