-- Laws: the records of an accepted file were all taken, and the last of them is F.
use Rattle.std.specs.Prelude.{ℕ, ◌+◌, true, List, [], ◌∷◌, ◌≡◌, refl, length}
use Rattle.std.proofs.Common.{sym, ap, subst, ◌∙◌}
use Rattle.reason.specs.ReasonNumbers.{Notice, notice}
use Rattle.laws.specs.Finding.{Finding}
use Rattle.lines.specs.Lines.{Line}
use Rattle.edits.specs.Formats.{is_known, may_open}
use Rattle.edits.specs.declared.Opening.{Opening}
use Rattle.edits.specs.declared.Phase.{Phase}
use Rattle.edits.specs.declared.Phase.TheVariants.{BeforeA, AfterA, EOpen, AfterT, AfterF}
use Rattle.edits.specs.declared.Totals.{Totals}
use Rattle.record.specs.Laws.{passed_size, refusal_left, lawful_of}
use Rattle.record.specs.ShapeOf.{shape_of}
use Rattle.shape.specs.Shape.{Judged, refusal, passed}
use Rattle.shape.specs.EndOfInputLaws.{end_test, end_parts}
use Rattle.shape.specs.declared.Said.{Said}
use Rattle.tables.specs.Room.{Room}
use Rattle.tables.specs.declared.Employer.{Employer}
use Rattle.meaning.specs.Before.{phase_in}
use Rattle.meaning.specs.FileLaws.{onto_nil, onto_cons, meaning_end, meaning_refuses, meaning_goes_on}
use Rattle.meaning.specs.Meaning.{context_at, on_earlier_e, under_this_e, judge_at, found_on, records_onto, accepted, refused, outcome_by, meaning_from}
use Rattle.meaning.specs.Theorems.{not_refused}
use Rattle.state.specs.Unfit.{is_left}
use Rattle.state.specs.UnfitLaws.{left_number}
use Rattle.walk.specs.GoodLaws.{Good}
use Rattle.walk.specs.WalkMeans.{taken_good}

module _ (room : Room) (held : Opening) (allowed : may_open held ≡ true) (entries : List Employer) (totals : Totals) where
  abbrev TakenAll : List Said → Type 0
  TakenAll p = Good room held p × (phase_in p ≡ AfterF)

  -- The input ends after F.
  last_phase : (p : List Said) (phase : Phase) → phase_in p ≡ phase → outcome_by (found_on (length p + 1) (end_test phase)) p ≡ accepted entries totals → phase_in p ≡ AfterF
  last_phase p BeforeA e ends = absurd (not_refused entries totals _ (sym ends))
  last_phase p AfterA e ends = absurd (not_refused entries totals _ (sym ends))
  last_phase p EOpen e ends = absurd (not_refused entries totals _ (sym ends))
  last_phase p AfterT e ends = absurd (not_refused entries totals _ (sym ends))
  last_phase p AfterF e ends = e

  pub all_taken : (lines : List Line) (p : List Said) → Good room held p → meaning_from room held p lines ≡ accepted entries totals → TakenAll (records_onto held.format p lines)
  all_taken [] p g ends =
      let by = sym (meaning_end room held p ∙ ap (λ (f : Finding). outcome_by (found_on (length p + 1) f) p) (end_parts (phase_in p))) ∙ ends in
      subst TakenAll (sym (onto_nil held.format p)) (g, last_phase p (phase_in p) refl by)
  all_taken (line ∷ lines) p g ends = by (judge_at room held p line) refl (all_taken lines) where
    by : (v : Judged) → judge_at room held p line ≡ v
        → ((q : List Said) → Good room held q → meaning_from room held q lines ≡ accepted entries totals → TakenAll (records_onto held.format q lines))
        → TakenAll (records_onto held.format p (line ∷ lines))
    by (refusal column number) e more = absurd (not_refused entries totals _ (sym ends ∙ meaning_refuses room held p line lines column number e))
    by (passed taken said) e more =
        let is = (passed_size (context_at room held p) (on_earlier_e p) (under_this_e p) line taken said e).1 in
        let rest = more (said ∷ p) (taken_good room held allowed p g line taken said e) (sym (meaning_goes_on room held p line lines taken said e) ∙ ends) in
        subst TakenAll (ap (λ (s : Said). records_onto held.format (s ∷ p) lines) is ∙ sym (onto_cons held.format p line lines)) rest

-- A refusal of a file has a number that the refusal of an edit leaves in the state.
module _ (room : Room) (held : Opening) (says : Notice) where
  abbrev Left : ℕ → Type 0
  Left number = (shape_of held.format).is_left number ≡ true

  same_number : (number line column : ℕ) → refused (notice number line column) ≡ refused says → Left number → Left says.number
  same_number number line column e left = let same : number ≡ says.number = cc in subst Left same left

  end_left : (p : List Said) (phase : Phase) → outcome_by (found_on (length p + 1) (end_test phase)) p ≡ refused says → Left says.number
  end_left p BeforeA e = same_number 5 (length p + 1) 1 e (lawful_of held.format).ends_left.0
  end_left p AfterA e = same_number 6 (length p + 1) 1 e (lawful_of held.format).ends_left.1
  end_left p EOpen e = same_number 7 (length p + 1) 1 e (lawful_of held.format).ends_left.2
  end_left p AfterT e = same_number 8 (length p + 1) 1 e (lawful_of held.format).ends_left.3
  end_left p AfterF e = absurd (not_refused _ _ says e)

  pub refused_by_edit : (lines : List Line) (p : List Said) → meaning_from room held p lines ≡ refused says → Left says.number
  refused_by_edit [] p ends =
      end_left p (phase_in p) (sym (meaning_end room held p ∙ ap (λ (f : Finding). outcome_by (found_on (length p + 1) f) p) (end_parts (phase_in p))) ∙ ends)
  refused_by_edit (line ∷ lines) p ends = by (judge_at room held p line) refl (refused_by_edit lines) where
    by : (v : Judged) → judge_at room held p line ≡ v → ((q : List Said) → meaning_from room held q lines ≡ refused says → Left says.number) → Left says.number
    by (refusal column number) e more =
        same_number number (length p + 1) column (sym (meaning_refuses room held p line lines column number e) ∙ ends) (refusal_left _ _ line column number e)
    by (passed taken said) e more = more (said ∷ p) (sym (meaning_goes_on room held p line lines taken said e) ∙ ends)

  pub refused_left : (lines : List Line) (p : List Said) → is_known held.format ≡ true → meaning_from room held p lines ≡ refused says
      → is_left held.format says.number ≡ true
  refused_left lines p known ends = left_number held.format says.number known (refused_by_edit lines p ends)
