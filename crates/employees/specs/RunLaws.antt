-- Laws: a run: what holds of a line that a walk takes, what the walk is after it, and how far a run goes.
use Prim.Native.Nat.{ℕ, zero, suc, ◌+◌, ◌-◌, ◌≤◌, ◌<◌, ◌^◌}
use Rattle.std.specs.Prelude.{Bool, true, false, not, ◌&&◌, ◌||◌, List, ◌⊎◌, ◌≡◌, eqb, leb, ltb, length, take, drop, if◌then◌else◌}
use Rattle.std.proofs.lemmas.Bool.{false≢true, lt-leb, eqb-false, not-true}
use Rattle.std.proofs.Math.Bool.{or-true}
use Rattle.std.proofs.Common.{inl, inr, sym, ap, ◌∙◌, suc-add, zero-add, add-zero, arith, length-drop, length-set, take_all, ltb-true, lt-ltb, eqb-true}
use Rattle.std.proofs.Math.Path.{refl}
use Rattle.laws.specs.ChoiceLaws.{both_hold}
use Rattle.lines.specs.Lines.{first_line}
use Rattle.chars.specs.Characters.{capitals}
use Rattle.edits.specs.FormatLaws.{pfml_is}
use Rattle.edits.specs.Formats.{is_pfml}
use Rattle.edits.specs.declared.Context.{Context}
use Rattle.edits.specs.declared.Phase.TheVariants.{BeforeA, AfterA, EOpen, AfterT, AfterF}
use Rattle.edits.specs.declared.Seen.{Seen}
use Rattle.edits.specs.declared.format.Format.TheVariants.{Pfml}
use Rattle.shape.specs.After.{open_after, used_after, totals_after}
use Rattle.shape.specs.Limits.{most_employees}
use Rattle.shape.specs.Shape.{passed}
use Rattle.shape.specs.declared.Said.{Said}
use Rattle.pfml.specs.Fitness.{most_lines}
use Rattle.record.specs.ShapeOf.{shape_of}
use Rattle.record.specs.Judge.{judge_among, seen_on}
use Rattle.record.specs.Laws.{judged_bounded, more_kept}
use Rattle.plain.specs.Laws.{plain_passes}
use Rattle.plain.specs.Plain.{lowest, highest, fits}
use Rattle.plain.specs.declared.Sighted.{Sighted}
use Rattle.tables.specs.Room.{Room}
use Rattle.tables.specs.Tables.{is_among}
use Rattle.state.specs.Cents.{one_more}
use Rattle.state.specs.Unfit.{is_open, unfit}
use Rattle.state.specs.UnfitLaws.{fit_file, fit_open, fit_more, fit_standing, sound_fit}
use Rattle.state.specs.Walks.{Standing, reading, accepted, refused, Walk}
use Rattle.step.specs.Moves.{context_of, walk_after, change_by}
use Rattle.step.specs.Ready.{Ready}
use Rattle.step.specs.ReadyLaws.{passed_ready}
use Rattle.step.specs.Steps.{ids_after}
use Rattle.step.specs.declared.Change.TheVariants.{Nothing, Adds}
use Rattle.employees.specs.Runs.{awaits, is_new, has_room, takes, sight_under, said_in, Reached, reaches}

-- ---- a walk that awaits S records
open_standing : (standing : Standing) → is_open standing ≡ true → standing ≡ reading EOpen
open_standing (reading BeforeA) e = absurd (false≢true e)
open_standing (reading AfterA) e = absurd (false≢true e)
open_standing (reading EOpen) e = refl
open_standing (reading AfterT) e = absurd (false≢true e)
open_standing (reading AfterF) e = absurd (false≢true e)
open_standing accepted e = absurd (false≢true e)
open_standing (refused says) e = absurd (false≢true e)

pub record Awaits (room : Room) (walk : Walk) : Type 0 where
  pub pfml : walk.held.format ≡ Pfml
  pub fit : unfit room walk ≡ false
  pub stands : walk.standing ≡ reading EOpen
  pub follow : walk.open.follow ≡ true
  pub fits : fits walk.open.fein walk.filed ≡ true

pub awaits_parts : (room : Room) (walk : Walk) → awaits room walk ≡ true → Awaits room walk
awaits_parts room walk e =
    let f = both_hold (is_pfml walk.held.format) _ e in
    let a = both_hold (not (unfit room walk)) _ f.1 in
    let b = both_hold (is_open walk.standing) _ a.1 in
    let c = both_hold walk.open.follow _ b.1 in
    record {
      pfml = pfml_is _ f.0;
      fit = not-true _ a.0;
      stands = open_standing _ b.0;
      follow = c.0;
      fits = c.1;
    }

pub parts_await : (room : Room) (walk : Walk) → Awaits room walk → awaits room walk ≡ true
parts_await room walk a = rw (a.fit, a.pfml, a.stands, a.follow, a.fits)

-- ---- a line that the walk takes
-- An identity number that is none, or new with room for it.
new_cases : (walk : Walk) (ids : List ℕ) (id : ℕ) → is_new walk ids id ≡ true
    → (id ≡ 0) ⊎ ((walk.used < length ids) × (is_among id (take walk.used ids) ≡ false))
new_cases walk ids id e = by (eqb id 0) refl e where
  by : (none : Bool) → eqb id 0 ≡ none → none || (ltb walk.used (length ids) && not (is_among id (take walk.used ids))) ≡ true
      → (id ≡ 0) ⊎ ((walk.used < length ids) × (is_among id (take walk.used ids) ≡ false))
  by true none e = inl (eqb-true _ _ none)
  by false some e =
      let new = both_hold (ltb walk.used (length ids)) _ e in
      inr (ltb-true _ _ new.0, not-true _ new.1)

pub record Taking (room : Room) (walk : Walk) (ids : List ℕ) (s : Sighted) : Type 0 where
  pub waits : Awaits room walk
  pub some : s.taken ≡ 0 → ⊥
  pub many : walk.all.count < most_employees
  pub read : walk.lines < most_lines
  pub new : (s.id ≡ 0) ⊎ ((walk.used < length ids) × (is_among s.id (take walk.used ids) ≡ false))

pub takes_parts : (room : Room) (walk : Walk) (ids : List ℕ) (s : Sighted) → takes room walk ids s ≡ true → Taking room walk ids s
takes_parts room walk ids s e =
    let a = both_hold (awaits room walk) _ e in
    let b = both_hold (not (eqb s.taken 0)) _ a.1 in
    let c = both_hold (has_room walk) _ b.1 in
    let d = both_hold (ltb walk.all.count most_employees) _ c.0 in
    record {
      waits = awaits_parts room walk a.0;
      some = eqb-false _ _ (not-true _ b.0);
      many = ltb-true _ _ d.0;
      read = ltb-true _ _ d.1;
      new = new_cases walk ids s.id c.1;
    }

new_under : (under : ℕ → Bool) (id used room : ℕ) → (id ≡ 0) ⊎ ((used < room) × (under id ≡ false))
    → eqb id 0 || (not (leb room used) && not (under id)) ≡ true
new_under under id used room (inl none) = rw none
new_under under id used room (inr new) = rw (lt-leb room used new.0, new.1, or-true)

-- The tables' room, as a call with these ids and an employer list of so many entries has it.
abbrev pub room_for : List ℕ → ℕ → Room
room_for ids list = record { ids = length ids; list = list }

module _ (list : ℕ) (walk : Walk) (ids : List ℕ) (s : List ℕ) (t : Taking (room_for ids list) walk ids (sight_under walk s)) where
  abbrev here : Context
  here = context_of (room_for ids list) walk EOpen

  abbrev under : ℕ → Bool
  under id = is_among id (take walk.used ids)

  abbrev said : Said
  said = said_in (sight_under walk s)

  -- Its record passes every edit, whatever stands on the employer list.
  pub plain_line : (earlier : ℕ → Bool) → judge_among here earlier under (first_line s) ≡ passed (sight_under walk s).taken said
  plain_line earlier =
      plain_passes here earlier under s t.waits.pfml refl t.waits.follow t.waits.fits
      (lt-ltb _ _ t.many) t.some (new_under under _ walk.used (length ids) t.new)

  -- What was seen before, if nothing stood on it.
  abbrev seen : Seen
  seen = seen_on walk.held.format (λ fein. false) under (capitals (first_line s).text)

  -- No sum wraps.
  pub taken_ready : length ids < 2 ^ 64 → Ready walk said
  taken_ready short =
      passed_ready (room_for ids list) walk EOpen t.waits.stands t.waits.fit short seen (first_line s) _ _ (plain_line (λ fein. false))

  -- ---- after it
  -- No clause of 72 that is the format's own comes to hold: the ids in use fit their table.
  still_within : (shape_of walk.held.format).unfit_more (length ids) (used_after said walk.used) true (totals_after said walk.all) (open_after said walk.open)
      ≡ false
  still_within =
      more_kept here seen (first_line s) _ said (plain_line (λ fein. false)) (length ids) walk.used refl
      (rw t.waits.stands at (fit_more (room_for ids list) walk t.waits.fit))

  -- The walk awaits S records again.
  pub still_awaits : Awaits (room_for ids list) (walk_after said walk)
  still_awaits =
      let format = walk.held.format in
      let wages = (judged_bounded here seen (first_line s) _ said (plain_line (λ fein. false))).1 in
      let file = fit_file (room_for ids list) walk t.waits.fit in
      let this = fit_open (room_for ids list) walk t.waits.fit (ap is_open t.waits.stands) in
      let many = t.many in
      let read : walk.lines < (shape_of format).most_lines = rw t.waits.pfml t.read in
      record {
        pfml = t.waits.pfml;
        fit =
            sound_fit (room_for ids list) (walk_after said walk)
            (record {
              employers = file.employers;
              many = omega arith;
              sum = one_more walk.all.count (shape_of format).most_cents walk.all.sum (sight_under walk s).wages file.sum wages;
              lines_read = omega arith;
            })
            (λ o. record {
              under = omega arith;
              under_sum = one_more walk.open.count (shape_of format).most_cents walk.open.sum (sight_under walk s).wages this.under_sum wages;
              some = this.some;
              fein = this.fein;
            })
            still_within
            (rw t.waits.stands at (fit_standing (room_for ids list) walk t.waits.fit));
        stands = refl;
        follow = t.waits.follow;
        fits = t.waits.fits;
      }

-- ---- the run
-- At most n lines more from where a run stands.
abbrev pub onward : List ℕ → ℕ → ℕ → Reached → Reached
onward bytes list n r = reaches bytes list n r.at r.walk r.ids

-- What the sweep sees there, and where the run stands after it.
abbrev pub sight_at : List ℕ → Reached → Sighted
sight_at bytes r = sight_under r.walk (drop r.at bytes)

abbrev pub takes_at : List ℕ → ℕ → Reached → Bool
takes_at bytes list r = takes (room_for r.ids list) r.walk r.ids (sight_at bytes r)

abbrev pub next : List ℕ → Reached → Reached
next bytes r =
    record {
      at = r.at + (sight_at bytes r).taken;
      walk = walk_after (said_in (sight_at bytes r)) r.walk;
      ids = ids_after (change_by (said_in (sight_at bytes r)) r.walk) r.ids;
    }

module _ (bytes : List ℕ) (list : ℕ) where
  pub none_left : (r : Reached) → onward bytes list 0 r ≡ r
  unfolding reaches
  none_left r = refl

  pub goes_on_lem : (n : ℕ) (r : Reached) → takes_at bytes list r ≡ true → onward bytes list (suc n) r ≡ onward bytes list n (next bytes r)
  unfolding reaches
  goes_on_lem n r e = rw e

  pub stops : (n : ℕ) (r : Reached) → takes_at bytes list r ≡ false → onward bytes list n r ≡ r
  unfolding reaches
  stops zero r e = refl
  stops (suc n) r e = rw e

  -- n lines and then m are n + m lines.
  pub in_turn : (n m : ℕ) (r : Reached) → onward bytes list (n + m) r ≡ onward bytes list m (onward bytes list n r)
  in_turn zero m r = rw (zero-add m, none_left r)
  in_turn (suc n) m r = by (in_turn n m (next bytes r)) (takes_at bytes list r) refl where
    by : onward bytes list (n + m) (next bytes r) ≡ onward bytes list m (onward bytes list n (next bytes r)) → (t : Bool) → takes_at bytes list r ≡ t
        → onward bytes list (suc n + m) r ≡ onward bytes list m (onward bytes list (suc n) r)
    by rest true e = rw (suc-add n m) (goes_on_lem (n + m) r e ∙ rest ∙ ap (onward bytes list m) (sym (goes_on_lem n r e)))
    by rest false e = stops (suc n + m) r e ∙ sym (ap (onward bytes list m) (stops (suc n) r e) ∙ stops m r e)

  -- A run that took less than n lines has come to one that it does not take.
  pub stopped : (n m : ℕ) (r : Reached) → ((onward bytes list n r).walk.lines ≡ r.walk.lines + n → ⊥)
      → onward bytes list m (onward bytes list n r) ≡ onward bytes list n r
  stopped zero m r less = absurd (less (rw (none_left r, add-zero)))
  stopped (suc n) m r less = by (stopped n m (next bytes r)) (takes_at bytes list r) refl where
    by : (((onward bytes list n (next bytes r)).walk.lines ≡ (next bytes r).walk.lines + n → ⊥)
        → onward bytes list m (onward bytes list n (next bytes r)) ≡ onward bytes list n (next bytes r)) → (t : Bool) → takes_at bytes list r ≡ t
        → onward bytes list m (onward bytes list (suc n) r) ≡ onward bytes list (suc n) r
    by rest true e =
        let same = goes_on_lem n r e in
        let lines = ap (λ (x : Reached). x.walk.lines) same in
        rw same (rest (λ all. less (omega arith)))
    by rest false e = rw (stops (suc n) r e) (stops m r e)

  -- The first few of at most so many lines, and then the others; or, where one of the few is not taken, no others.
  pub few_more : (few most : ℕ) (r : Reached) → few ≤ most → onward bytes list (most - few) (onward bytes list few r) ≡ onward bytes list most r
  few_more few most r h =
      let all : few + (most - few) ≡ most = omega arith in
      sym (in_turn few (most - few) r) ∙ ap (λ (n : ℕ). onward bytes list n r) all

  pub few_only : (few most : ℕ) (r : Reached) → few ≤ most → ((onward bytes list few r).walk.lines ≡ r.walk.lines + few → ⊥)
      → onward bytes list few r ≡ onward bytes list most r
  few_only few most r h less = sym (stopped few (most - few) r less) ∙ few_more few most r h

  -- A walk that awaits no S record takes none.
  pub none_awaited : (n : ℕ) (r : Reached) → awaits (room_for r.ids list) r.walk ≡ false → onward bytes list n r ≡ r
  none_awaited n r e = stops n r (rw e)

-- All bytes from a place on.
pub rest : (at : ℕ) (s : List ℕ) → take (length s - at) (drop at s) ≡ drop at s
rest at s = take_all (length s - at) (drop at s) (rw length-drop (omega arith))

-- ---- what a run keeps
pub ids_kept : (walk : Walk) (s : Sighted) (ids : List ℕ) → length (ids_after (change_by (said_in s) walk) ids) ≡ length ids
ids_kept walk s ids = at (eqb s.id 0) where
  at : (none : Bool) → length (ids_after (if none then Nothing else Adds walk.used s.id) ids) ≡ length ids
  at true = refl
  at false = length-set ids walk.used s.id

-- What a run rests on: the walk awaits S records, and the two records are those of its employer and quarter.
pub record Prepared (list : ℕ) (low high : List ℕ) (r : Reached) : Type 0 where
  pub waits : Awaits (room_for r.ids list) r.walk
  pub low_is : low ≡ lowest r.walk.open.fein r.walk.filed
  pub high_is : high ≡ highest r.walk.open.fein r.walk.filed

module _ (bytes : List ℕ) (list : ℕ) (low high : List ℕ) where
  pub prepared_next : (r : Reached) → Prepared list low high r → takes_at bytes list r ≡ true → Prepared list low high (next bytes r)
  prepared_next r p e =
      let same = ids_kept r.walk (sight_at bytes r) r.ids in
      let taking = takes_parts (room_for r.ids list) r.walk r.ids (sight_at bytes r) e in
      record {
        waits = rw same (still_awaits list r.walk r.ids (drop r.at bytes) taking);
        low_is = p.low_is;
        high_is = p.high_is;
      }

  pub prepared_run : (n : ℕ) (r : Reached) → Prepared list low high r → Prepared list low high (onward bytes list n r)
  prepared_run zero r p = rw (none_left bytes list r) p
  prepared_run (suc n) r p = by (prepared_run n (next bytes r)) (takes_at bytes list r) refl where
    by : (Prepared list low high (next bytes r) → Prepared list low high (onward bytes list n (next bytes r))) → (t : Bool) → takes_at bytes list r ≡ t
        → Prepared list low high (onward bytes list (suc n) r)
    by rest true e = rw (goes_on_lem bytes list n r e) (rest (prepared_next r p e))
    by rest false e = rw (stops bytes list (suc n) r e) p
