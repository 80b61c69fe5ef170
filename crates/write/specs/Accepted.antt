-- Laws: a line call that is answered by "accepted", and the record on the line: what the one tells of the other.
use Rattle.std.specs.Prelude.{ℕ, ◌+◌, true, false, List, ◌≡◌, refl}
use Rattle.std.proofs.lemmas.Bool.{false≢true, not-false}
use Rattle.std.proofs.Common.{sym, ap, ◌∙◌, arith}
use Rattle.reason.specs.ReasonNumbers.{Notice}
use Rattle.chars.specs.Characters.{capitals}
use Rattle.lines.specs.Lines.{Line, first_line}
use Rattle.edits.specs.declared.Context.{Context}
use Rattle.edits.specs.declared.Phase.{Phase}
use Rattle.edits.specs.declared.Phase.TheVariants.{BeforeA, AfterA, EOpen, AfterT, AfterF}
use Rattle.edits.specs.declared.Seen.{Seen}
use Rattle.shape.specs.Shape.{Judged, refusal, passed}
use Rattle.shape.specs.declared.Said.{Said}
use Rattle.record.specs.Judge.{judge, record_on, seen_on}
use Rattle.record.specs.Laws.{judged_size}
use Rattle.tables.specs.Room.{Tables, room_of}
use Rattle.state.specs.Unfit.{is_open, standing_unfit, unfit}
use Rattle.state.specs.UnfitLaws.{fit_standing, left_not_0}
use Rattle.state.specs.Walks.{Standing, reading, accepted, refused, Walk}
use Rattle.step.specs.MoveLaws.{line_fit}
use Rattle.step.specs.Moves.{Moved, all_well, goes_on, by_verdict, context_of, by_standing}
use Rattle.step.specs.Steps.{carried, listed_fein, listed_id, line_step}
use Rattle.write.specs.Writing.{is_after_t}

-- ---- where the walk stands
pub open_stands : (standing : Standing) → is_open standing ≡ true → standing ≡ reading EOpen
open_stands (reading BeforeA) e = absurd (false≢true e)
open_stands (reading AfterA) e = absurd (false≢true e)
open_stands (reading EOpen) e = refl
open_stands (reading AfterT) e = absurd (false≢true e)
open_stands (reading AfterF) e = absurd (false≢true e)
open_stands accepted e = absurd (false≢true e)
open_stands (refused says) e = absurd (false≢true e)

pub after_T_stands : (standing : Standing) → is_after_t standing ≡ true → standing ≡ reading AfterT
after_T_stands (reading BeforeA) e = absurd (false≢true e)
after_T_stands (reading AfterA) e = absurd (false≢true e)
after_T_stands (reading EOpen) e = absurd (false≢true e)
after_T_stands (reading AfterT) e = refl
after_T_stands (reading AfterF) e = absurd (false≢true e)
after_T_stands accepted e = absurd (false≢true e)
after_T_stands (refused says) e = absurd (false≢true e)

-- ---- the line
module _ (walk : Walk) (t : Tables) (line : Line) where
  -- What is asked of the tables for the line.
  abbrev pub asked : Seen
  asked = seen_on walk.held.format (listed_fein walk t) (listed_id walk t) (capitals line.text)

  -- The walk reads, and its line passes.
  pub record Passing : Type 0 where
    pub phase : Phase
    pub stands : walk.standing ≡ reading phase
    pub taken : ℕ
    pub passes : judge (context_of (room_of t) walk phase) asked line ≡ passed taken (record_on walk.held.format line)

module _ (walk : Walk) (t : Tables) (fit : unfit (room_of t) walk ≡ false) (line : Line) where
  -- Where the line passes, the call is answered by "accepted",
  pub passing_accepted : (phase : Phase) → walk.standing ≡ reading phase → (taken : ℕ) (said : Said)
      → judge (context_of (room_of t) walk phase) (asked walk t line) line ≡ passed taken said → line_step walk line t ≡ carried (goes_on walk taken said) t
  passing_accepted phase stands taken said e =
      ap (λ (m : Moved). carried m t) (line_fit (room_of t) walk (asked walk t line) line (reading phase) fit stands ∙ ap (by_verdict walk) e)

  says_standing : (line_step walk line t).says ≡ all_well → (standing : Standing) → walk.standing ≡ standing
      → (by_standing (room_of t) (asked walk t line) line walk standing).says ≡ all_well
  says_standing says standing stands = ap (λ (m : Moved). m.says) (sym (line_fit (room_of t) walk (asked walk t line) line standing fit stands)) ∙ says

  by_verdict_lem : (phase : Phase) → walk.standing ≡ reading phase → (verdict : Judged)
      → judge (context_of (room_of t) walk phase) (asked walk t line) line ≡ verdict → (by_verdict walk verdict).says ≡ all_well → Passing walk t line
  by_verdict_lem phase stands (refusal column number) e says = let z : walk.lines + 1 ≡ 0 = ap (λ (n : Notice). n.line) says in absurd (omega arith)
  by_verdict_lem phase stands (passed taken said) e says =
      record {
        phase = phase;
        stands = stands;
        taken = taken;
        passes = e ∙ ap (passed taken) (judged_size (context_of (room_of t) walk phase) (asked walk t line) line taken said e).1;
      }

  -- and only there.
  pub accepted_passing : (line_step walk line t).says ≡ all_well → Passing walk t line
  accepted_passing says = at walk.standing refl where
    at : (standing : Standing) → walk.standing ≡ standing → Passing walk t line
    at (reading phase) stands =
        by_verdict_lem phase stands (judge (context_of (room_of t) walk phase) (asked walk t line) line) refl (says_standing says (reading phase) stands)
    at accepted stands = let z : ◌≡◌ {A = ℕ} 71 0 = ap (λ (n : Notice). n.number) (says_standing says accepted stands) in absurd (omega arith)
    at (refused why) stands =
        let zero = ap (λ (n : Notice). n.number) (says_standing says (refused why) stands) in
        let left = ap (λ (s : Standing). standing_unfit s walk.held walk.filed) (sym stands) ∙ fit_standing (room_of t) walk fit in
        absurd (left_not_0 walk.held.format why.number (not-false _ left) zero)

-- ---- the line that a call accepts
module _ (walk : Walk) (t : Tables) (fit : unfit (room_of t) walk ≡ false) (s : List ℕ) (says : (line_step walk (first_line s) t).says ≡ all_well) where
  pub reads : Passing walk t (first_line s)
  reads = accepted_passing walk t fit (first_line s) says

  -- What it is judged by, and that it passes.
  abbrev pub reading_context : Context
  reading_context = context_of (room_of t) walk reads.phase

  pub judged : (said : Said) → record_on walk.held.format (first_line s) ≡ said
      → judge reading_context (asked walk t (first_line s)) (first_line s) ≡ passed reads.taken said
  judged said is = reads.passes ∙ ap (passed reads.taken) is
