-- Laws: never_unfit: a walk from an opening whose state and tables nobody altered never answers 72.
use Rattle.std.specs.Prelude.{ℕ, ◌+◌, Bool, true, false, List, [], ◌∷◌, ◌⊎◌, ◌≡◌, refl, length, if◌then◌else◌}
use Rattle.std.proofs.lemmas.Bool.{false≢true}
use Rattle.std.proofs.Common.{inl, inr, sym, ap, subst, ◌∙◌, arith}
use Rattle.std.proofs.lemmas.List.{length-replicate}
use Rattle.reason.specs.ReasonNumbers.{Notice, notice}
use Rattle.lines.specs.Lines.{Line, first_line}
use Rattle.edits.specs.FormatLaws.{opens_known}
use Rattle.edits.specs.Formats.{may_open, is_of_opening}
use Rattle.edits.specs.declared.Opening.{Opening}
use Rattle.edits.specs.declared.Phase.{Phase}
use Rattle.edits.specs.declared.Phase.TheVariants.{BeforeA, AfterA, EOpen, AfterT, AfterF}
use Rattle.shape.specs.Shape.{Judged, refusal, passed}
use Rattle.record.specs.ShapeOf.{shape_of}
use Rattle.record.specs.Laws.{refusal_left, lawful_of}
use Rattle.shape.specs.EndOfInputLaws.{end_test}
use Rattle.shape.specs.declared.Said.{Said}
use Rattle.tables.specs.PadLaws.{length_pad}
use Rattle.tables.specs.Room.{Room, Tables, room_of, zeroed}
use Rattle.tables.specs.Tables.{no_employer}
use Rattle.meaning.specs.Before.{phase_in, totals_in, entries_in}
use Rattle.meaning.specs.Meaning.{judge_at, found_on, accepted, outcome_by}
use Rattle.state.specs.Unfit.{is_left, unfit}
use Rattle.state.specs.UnfitLaws.{left_number, left_opening, left_not_72, sound_fit}
use Rattle.state.specs.Walks as walks
use Rattle.state.specs.Walks.{Walk, refused_walk}
use Rattle.step.specs.MoveLaws.{line_fit, end_fit, open_refused}
use Rattle.step.specs.Moves.{Moved, all_well, again, opening_notice}
use Rattle.step.specs.Steps.{Out, written, carried, open_step, line_step, end_step}
use Rattle.step.specs.declared.Change.TheVariants.{Nothing, Clear}
use Rattle.walk.specs.At.{walk_at, accepted_at, tables_at}
use Rattle.walk.specs.Calls.{refused_with, leaves}
use Rattle.walk.specs.CallLaws.{file_sound_at}
use Rattle.walk.specs.GoodLaws.{good_none, Good}
use Rattle.walk.specs.WalkMeans.{again_line, again_end, ends_by, line_refused, line_taken, taken_good}
use Rattle.walk.specs.StepLaws.{entries_within}
use Rattle.walk.specs.TablesAt.{opened_at_lem}
use Rattle.walk.specs.CallsInRow.{Call, call_step, after_calls, line_call, end_call}

-- Where a walk that nobody altered stands: after records that were taken; accepted; or refused.
pub record Reads (room : Room) (held : Opening) (o : Out) : Type 0 where
  pub allowed : may_open held ≡ true
  pub p : List Said
  pub good : Good room held p
  pub walk : o.walk ≡ walk_at held p
  pub left : o.left ≡ tables_at room p

pub record Ended (room : Room) (held : Opening) (o : Out) : Type 0 where
  pub allowed : may_open held ≡ true
  pub p : List Said
  pub good : Good room held p
  pub final : phase_in p ≡ AfterF
  pub walk : o.walk ≡ accepted_at held p
  pub left : room_of o.left ≡ room

pub record Stopped (room : Room) (held : Opening) (o : Out) : Type 0 where
  pub says : Notice
  pub number : is_left held.format says.number ≡ true
  pub walk : o.walk ≡ refused_walk held.format says
  pub left : room_of o.left ≡ room

abbrev pub Unaltered : Room → Opening → Out → Type 0
Unaltered room held o = Reads room held o ⊎ (Ended room held o ⊎ Stopped room held o)

-- A call leaves the walk so, and does not answer 72.
abbrev Well : Room → Opening → Out → Type 0
Well room held o = (o.says.number ≡ 72 → ⊥) × Unaltered room held o

zeroed_room : (room : Room) → room_of (zeroed room) ≡ room
zeroed_room room = rw (length-replicate {A = ℕ} room.ids 0, length-replicate room.list no_employer)

well_refused : (room : Room) (held : Opening) (says : Notice) (o : Out) → is_left held.format says.number ≡ true → o ≡ refused_with held.format says room
    → Well room held o
well_refused room held says o e same = (
  λ unfit-said. left_not_72 held.format says.number e (sym (ap (λ (x : Out). x.says.number) same) ∙ unfit-said),
  inr (inr (record {
    says = says;
    number = e;
    walk = ap (λ (x : Out). x.walk) same;
    left = ap (λ (x : Out). room_of x.left) same ∙ zeroed_room room;
  })),
)

-- ---- from records that were taken
module _ (room : Room) (held : Opening) (allowed : may_open held ≡ true) (p : List Said) (g : Good room held p) where
  reads : (o : Out) → o ≡ record { says = all_well; taken = o.taken; walk = walk_at held p; left = tables_at room p } → Well room held o
  reads o same = (
    λ unfit-said. let z : ◌≡◌ {A = ℕ} 0 72 = sym (ap (λ (x : Out). x.says.number) same) ∙ unfit-said in omega arith,
    inl (record {
      allowed = allowed;
      p = p;
      good = g;
      walk = ap (λ (x : Out). x.walk) same;
      left = ap (λ (x : Out). x.left) same;
    }),
  )

module _ (room : Room) (held : Opening) (allowed : may_open held ≡ true) (p : List Said) (g : Good room held p) where
  left : (number : ℕ) → (shape_of held.format).is_left number ≡ true → is_left held.format number ≡ true
  left number = left_number held.format number (opens_known held allowed)

  well_line : (bytes : List ℕ) → Well room held (line_step (walk_at held p) (first_line bytes) (tables_at room p))
  well_line bytes = by (judge_at room held p (first_line bytes)) refl where
    by : (v : Judged) → judge_at room held p (first_line bytes) ≡ v → Well room held (line_step (walk_at held p) (first_line bytes) (tables_at room p))
    by (refusal column number) e =
        well_refused room held (notice number (length p + 1) column) _ (left number (refusal_left _ _ (first_line bytes) column number e))
        (line_refused room held allowed p g (first_line bytes) column number e)
    by (passed taken said) e =
        let same = line_taken room held allowed p g (first_line bytes) taken said e in
        subst (Well room held) (sym same)
        (reads room held allowed (said ∷ p) (taken_good room held allowed p g (first_line bytes) taken said e) _ refl)

  well_accepted : phase_in p ≡ AfterF → Well room held (leaves room held p (accepted (entries_in p) (totals_in p)))
  well_accepted e = (
    λ unfit-said. let z : ◌≡◌ {A = ℕ} 0 72 = unfit-said in omega arith,
    inr (inl (record {
      allowed = allowed;
      p = p;
      good = g;
      final = e;
      walk = refl;
      left = rw (length-replicate {A = ℕ} room.ids 0, length_pad no_employer room.list (entries_in p) (entries_within room held p g));
    })),
  )

  well_phase : (phase : Phase) → phase_in p ≡ phase → Well room held (leaves room held p (outcome_by (found_on (length p + 1) (end_test phase)) p))
  well_phase BeforeA e = well_refused room held (notice 5 (length p + 1) 1) _ (left 5 (lawful_of held.format).ends_left.0) refl
  well_phase AfterA e = well_refused room held (notice 6 (length p + 1) 1) _ (left 6 (lawful_of held.format).ends_left.1) refl
  well_phase EOpen e = well_refused room held (notice 7 (length p + 1) 1) _ (left 7 (lawful_of held.format).ends_left.2) refl
  well_phase AfterT e = well_refused room held (notice 8 (length p + 1) 1) _ (left 8 (lawful_of held.format).ends_left.3) refl
  well_phase AfterF e = well_accepted e

  well_end : Well room held (end_step (walk_at held p) (tables_at room p))
  well_end = subst (Well room held) (sym (ends_by room held allowed p g)) (well_phase (phase_in p) refl)

  well_reads : (call : Call) (o : Out) → o.walk ≡ walk_at held p → o.left ≡ tables_at room p → Well room held (call_step call o)
  well_reads (line_call bytes) o walk left =
      subst (Well room held) (sym (ap (λ (w : Walk). line_step w (first_line bytes) o.left) walk ∙ ap (line_step (walk_at held p) (first_line bytes)) left)) (well_line bytes)
  well_reads end_call o walk left = subst (Well room held) (sym (ap (λ (w : Walk). end_step w o.left) walk ∙ ap (end_step (walk_at held p)) left)) well_end

-- ---- from acceptance
module _ (room : Room) (held : Opening) (allowed : may_open held ≡ true) (p : List Said) (g : Good room held p) (last : phase_in p ≡ AfterF) where
  accepted_fit : unfit room (accepted_at held p) ≡ false
  accepted_fit =
      sound_fit room (accepted_at held p) (file_sound_at room held p g allowed) (λ o. absurd (false≢true o))
      (rw last at g.more)
      (rw (allowed, rw last at g.quarter))

  abbrev ended : Tables → Out
  ended t = record { says = notice 71 0 0; taken = 0; walk = accepted_at held p; left = t }

  well_ended : (t : Tables) → room_of t ≡ room → Well room held (ended t)
  well_ended t same = (
    λ unfit-said. let z : ◌≡◌ {A = ℕ} 71 72 = unfit-said in omega arith,
    inr (inl (record { allowed = allowed; p = p; good = g; final = last; walk = refl; left = same })),
  )

  ended_line : (line : Line) (t : Tables) → room_of t ≡ room → line_step (accepted_at held p) line t ≡ ended t
  ended_line line t same =
      let fit : unfit (room_of t) (accepted_at held p) ≡ false = rw same accepted_fit in
      ap (λ (moved : Moved). carried moved t) (line_fit (room_of t) (accepted_at held p) _ line walks.accepted fit refl)

  ended_end : (t : Tables) → room_of t ≡ room → end_step (accepted_at held p) t ≡ ended t
  ended_end t same =
      let fit : unfit (room_of t) (accepted_at held p) ≡ false = rw same accepted_fit in
      ap (λ (moved : Moved). carried moved t) (end_fit (room_of t) (accepted_at held p) walks.accepted fit refl)

  well_accepted_call : (call : Call) (o : Out) → o.walk ≡ accepted_at held p → room_of o.left ≡ room → Well room held (call_step call o)
  well_accepted_call (line_call bytes) o walk same =
      subst (Well room held) (sym (ap (λ (w : Walk). line_step w (first_line bytes) o.left) walk ∙ ended_line (first_line bytes) o.left same)) (well_ended o.left same)
  well_accepted_call end_call o walk same =
      subst (Well room held) (sym (ap (λ (w : Walk). end_step w o.left) walk ∙ ended_end o.left same)) (well_ended o.left same)

-- ---- from a refusal
module _ (room : Room) (held : Opening) (says : Notice) (number : is_left held.format says.number ≡ true) where
  kept_room : (opening : Bool) (t : Tables) → room_of (written (if opening then Nothing else Clear) t) ≡ room_of t
  kept_room true t = refl
  kept_room false t = zeroed_room (room_of t)

  well_again : (t : Tables) → room_of t ≡ room → Well room held (carried (again says (refused_walk held.format says)) t)
  well_again t same = (
    left_not_72 held.format says.number number,
    inr (inr (record { says = says; number = number; walk = refl; left = kept_room (is_of_opening says.number) t ∙ same })),
  )

  well_refused_call : (call : Call) (o : Out) → o.walk ≡ refused_walk held.format says → room_of o.left ≡ room → Well room held (call_step call o)
  well_refused_call (line_call bytes) o walk same =
      subst (Well room held) (sym (ap (λ (w : Walk). line_step w (first_line bytes) o.left) walk ∙ again_line held.format says number (first_line bytes) o.left)) (well_again o.left same)
  well_refused_call end_call o walk same =
      subst (Well room held) (sym (ap (λ (w : Walk). end_step w o.left) walk ∙ again_end held.format says number o.left)) (well_again o.left same)

-- ---- all together
module _ (room : Room) (held : Opening) where
  well_call : (call : Call) (o : Out) → Unaltered room held o → Well room held (call_step call o)
  well_call call o (inl at) = well_reads room held at.allowed at.p at.good call o at.walk at.left
  well_call call o (inr (inl at)) = well_accepted_call room held at.allowed at.p at.good at.final call o at.walk at.left
  well_call call o (inr (inr at)) = well_refused_call room held at.says at.number call o at.walk at.left

  unaltered_after : (calls : List Call) (o : Out) → Unaltered room held o → Unaltered room held (after_calls calls o)
  unaltered_after [] o at = at
  unaltered_after (call ∷ more) o at = unaltered_after more (call_step call o) (well_call call o at).1

opened_well : (held : Opening) (t : Tables) → Unaltered (room_of t) held (open_step held t)
opened_well held t = at (may_open held) refl where
  at : (allowed : Bool) → may_open held ≡ allowed → Unaltered (room_of t) held (open_step held t)
  at true e =
      let opened = opened_at_lem held t e in
      inl (record { allowed = e; p = []; good = good_none (room_of t) held; walk = opened.0; left = opened.1 })
  at false e = inr (inr (record { says = opening_notice held; number = left_opening held e; walk = rw (open_refused held e); left = rw (open_refused held e) }))

-- A walk from any opening, whatever its calls are lent, never answers 72 where the caller altered neither state nor tables.
pub never_unfit : (held : Opening) (t : Tables) (calls : List Call) (call : Call) → (call_step call (after_calls calls (open_step held t))).says.number ≡ 72 → ⊥
never_unfit held t calls call =
    (well_call (room_of t) held call (after_calls calls (open_step held t)) (unaltered_after (room_of t) held calls (open_step held t) (opened_well held t))).0
