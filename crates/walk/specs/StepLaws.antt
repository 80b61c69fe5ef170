-- Laws: one call on a walk that nobody altered: it answers as the records before say, and leaves what the records with this one more leave.
use Rattle.std.specs.Prelude.{ℕ, ◌+◌, ◌≤◌, ◌<◌, Bool, true, false, List, [], ◌∷◌, ◌++◌, ◌⊎◌, ◌≡◌, refl, eqb, leb, length, take, if◌then◌else◌}
use Rattle.std.proofs.lemmas.Bool.{false≢true}
use Rattle.std.proofs.Common.{inl, inr, sym, ap, ◌∙◌, add-one, arith, eq-eqb, leb-false}
use Rattle.edits.specs.declared.Opening.{Opening}
use Rattle.edits.specs.declared.Phase.{Phase}
use Rattle.edits.specs.declared.Phase.TheVariants.{BeforeA, AfterA, EOpen, AfterT}
use Rattle.shape.specs.Fits.{EndsE, Fits}
use Rattle.shape.specs.declared.EmployeeOn.{EmployeeOn}
use Rattle.shape.specs.declared.EmployerOn.{EmployerOn}
use Rattle.record.specs.ShapeOf.{shape_of}
use Rattle.shape.specs.declared.Said.{Said}
use Rattle.shape.specs.declared.Said.TheVariants.{OfA, OfE, OfS, OfT, OfF, OfNote, OfNone}
use Rattle.tables.specs.Last.{closed_padded}
use Rattle.tables.specs.Pad.{pad}
use Rattle.tables.specs.PadLaws.{pad_none, length_pad, take_pad, set_pad, wiped_pad}
use Rattle.tables.specs.Room.{Room, Tables, tables, room_of, entries_used}
use Rattle.tables.specs.Tables.{no_employer, feins_of}
use Rattle.tables.specs.declared.Employer.{Employer}
use Rattle.shape.specs.After.{entry_at_e, ids_with, used_after}
use Rattle.meaning.specs.Before.{phase_in, open_in, ids_under, totals_in, feins_in, entries_in}
use Rattle.meaning.specs.BeforeLaws.{entries_many, entries_feins}
use Rattle.meaning.specs.Meaning.{context_at}
use Rattle.step.specs.Moves.{walk_after, change_by}
use Rattle.step.specs.Steps.{written}
use Rattle.step.specs.declared.Change.TheVariants.{Nothing, Adds}
use Rattle.walk.specs.At.{walk_at, tables_at}
use Rattle.walk.specs.GoodLaws.{length_snoc, opens, Good}

-- ---- the tables
module _ (room : Room) (held : Opening) (p : List Said) (g : Good room held p) where
  pub entries_within : length (entries_in p) ≤ room.list
  entries_within = omega (arith, entries_many p, g.list_fit)

  -- They keep their lengths.
  pub room_at : room_of (tables_at room p) ≡ room
  room_at = rw (length_pad 0 room.ids (ids_under p) g.ids_fit, length_pad no_employer room.list (entries_in p) entries_within)

  -- They list the FEINs of the E records and the identity numbers under the open E.
  pub feins_listed : feins_of (take (totals_in p).employers (tables_at room p).list) ≡ feins_in p
  feins_listed = rw (← entries_many p, take_pad no_employer room.list (entries_in p)) (entries_feins p)

  pub ids_listed : take (length (ids_under p)) (tables_at room p).ids ≡ ids_under p
  ids_listed = take_pad 0 room.ids (ids_under p)

-- ---- the state
one_used_lem : (ids : List ℕ) (id : ℕ) (none : Bool) → (if none then length ids else length ids + 1) ≡ length (if none then ids else ids ++ (id ∷ []))
one_used_lem ids id true = refl
one_used_lem ids id false = sym (length_snoc ids id)

pub used_after_lem : (said : Said) (ids : List ℕ) → used_after said (length ids) ≡ length (ids_with said ids)
used_after_lem (OfA quarter) ids = refl
used_after_lem (OfE e) ids = refl
used_after_lem (OfS s) ids = one_used_lem ids s.id (eqb s.id 0)
used_after_lem OfT ids = refl
used_after_lem OfF ids = refl
used_after_lem (OfNote note) ids = refl
used_after_lem OfNone ids = refl

-- The walk takes the same steps.
pub after_said : (held : Opening) (p : List Said) (said : Said) → walk_after said (walk_at held p) ≡ walk_at held (said ∷ p)
after_said held p said = rw (add-one, used_after_lem said (ids_under p))

-- ---- what is written
-- No ids are kept where no E is open.
pub ids_none : (p : List Said) (phase : Phase) → phase_in p ≡ phase → opens phase ≡ 0 → ids_under p ≡ []
ids_none [] phase e none = refl
ids_none (OfA quarter ∷ p) phase e none = refl
ids_none (OfE employer ∷ p) phase e none = refl
ids_none (OfS s ∷ p) phase e none =
    let z : opens EOpen ≡ 0 = ap opens e ∙ none in
    absurd (omega arith)
ids_none (OfT ∷ p) phase e none = refl
ids_none (OfF ∷ p) phase e none = refl
ids_none (OfNote note ∷ p) phase e none = ids_none p phase e none
ids_none (OfNone ∷ p) phase e none = refl

module _ (room : Room) (held : Opening) (p : List Said) (g : Good room held p) where
  abbrev filled : List ℕ → List Employer → Tables
  filled ids entries = tables (pad 0 room.ids ids) (pad no_employer room.list entries)

  -- Nor where an E has ended.
  ids_ended : EndsE (phase_in p) (open_in p).follow → ids_under p ≡ []
  ids_ended (inl t) = ids_none p AfterT t refl
  ids_ended (inr (e, none)) = g.none_follow none

  ids_before_e : (phase_in p ≡ AfterA) ⊎ EndsE (phase_in p) (open_in p).follow → ids_under p ≡ []
  ids_before_e (inl a) = ids_none p AfterA a refl
  ids_before_e (inr ends) = ids_ended ends

  no_ids : (ids : List ℕ) (entries : List Employer) → ids ≡ [] → filled ids entries ≡ filled [] entries
  no_ids ids entries none = rw none

  wrote_e : (e : EmployerOn) → Fits (shape_of held.format) (context_at room held p) (OfE e)
      → written (change_by (OfE e) (walk_at held p)) (tables_at room p) ≡ tables_at room (OfE e ∷ p)
  wrote_e e fits =
      let less : (totals_in p).employers < entries_used room = leb-false (entries_used room) (totals_in p).employers fits.1 in
      rw (set_pad no_employer room.list (entries_in p) (totals_in p).employers (entry_at_e e) (entries_many p) (omega (arith, less)))
      (no_ids (ids_under p) (entries_in (OfE e ∷ p)) (ids_before_e fits.0))

  wrote_s : (s : EmployeeOn) → Fits (shape_of held.format) (context_at room held p) (OfS s)
      → written (change_by (OfS s) (walk_at held p)) (tables_at room p) ≡ tables_at room (OfS s ∷ p)
  wrote_s s fits = at (eqb s.id 0) refl fits.3 where
    at : (none : Bool) → eqb s.id 0 ≡ none → (s.id ≡ 0) ⊎ (leb room.ids (length (ids_under p)) ≡ false)
        → written (if none then Nothing else Adds (length (ids_under p)) s.id) (tables_at room p)
        ≡ filled (if none then ids_under p else ids_under p ++ (s.id ∷ [])) (entries_in (OfS s ∷ p))
    at true e new = refl
    at false e (inl zero_id) = absurd (false≢true (sym e ∙ eq-eqb s.id 0 zero_id))
    at false e (inr free) =
        let less : length (ids_under p) < room.ids = leb-false room.ids (length (ids_under p)) free in
        rw (set_pad 0 room.ids (ids_under p) (length (ids_under p)) s.id refl less)

  wrote_t : phase_in p ≡ EOpen → written (change_by OfT (walk_at held p)) (tables_at room p) ≡ tables_at room (OfT ∷ p)
  wrote_t e =
      let some : 1 ≤ (totals_in p).employers = rw e at g.some in
      rw (
        wiped_pad 0 room.ids (ids_under p) g.ids_fit,
        pad_none {A = ℕ} 0 room.ids,
        ← entries_many p,
        closed_padded (open_in p).count (open_in p).sum room.list (entries_in p) (omega (arith, some, entries_many p)),
      )

  -- What a record that passes writes is what the records with it leave.
  pub wrote : (said : Said) → Fits (shape_of held.format) (context_at room held p) said
      → written (change_by said (walk_at held p)) (tables_at room p) ≡ tables_at room (said ∷ p)
  wrote (OfA quarter) fits = no_ids (ids_under p) (entries_in p) (ids_none p BeforeA fits refl)
  wrote (OfE e) fits = wrote_e e fits
  wrote (OfS s) fits = wrote_s s fits
  wrote OfT fits = wrote_t fits
  wrote OfF fits = no_ids (ids_under p) (entries_in p) (ids_ended fits)
  wrote (OfNote note) fits = refl
  wrote OfNone fits = absurd fits
