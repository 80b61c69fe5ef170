-- Laws: a run is what a call for each of its lines would do: whatever each such call carries on, the run carries on.
use Rattle.std.specs.Prelude.{ℕ, zero, suc, ◌+◌, ◌≤◌, Bool, true, false, List, [], ◌≡◌, refl, eqb, length, drop, if◌then◌else◌, Result, Ok, Err}
use Rattle.std.proofs.Common.{sym, ap, ◌∙◌, eq-eqb, ne_eqb}
use Rattle.reason.specs.ReasonNumbers.{Notice}
use Rattle.lines.specs.Lines.{first_line}
use Rattle.edits.specs.declared.Phase.TheVariants.{EOpen}
use Rattle.chars.specs.Characters.{capitals}
use Rattle.record.specs.ShapeOf.{shape_of}
use Rattle.record.specs.Judge.{seen_on}
use Rattle.plain.specs.Laws.{long_enough}
use Rattle.plain.specs.Plain.{lowest, highest}
use Rattle.plain.specs.declared.Sighted.{Sighted}
use Rattle.tables.specs.Room.{Tables, tables, room_of}
use Rattle.tables.specs.declared.Employer.{Employer}
use Rattle.state.specs.Walks.{Walk, walk_of, reading}
use Rattle.step.specs.MoveLaws.{line_fit}
use Rattle.step.specs.Moves.{Moved, all_well, notice_in, taken_in, walk_after, change_by, by_verdict, goes_on, line_moved}
use Rattle.step.specs.Steps.{Out, ids_after, list_after, carried, listed_fein, listed_id, line_step}
use Rattle.step.specs.declared.Answer.{Answer}
use Rattle.step.specs.declared.Change.TheVariants.{Nothing, Adds}
use Rattle.reason.specs.declared.Refusal.{Refusal}
use Rattle.employees.specs.RunLaws.{Taking, takes_parts, plain_line, room_for, onward, sight_at, takes_at, next, none_left, goes_on_lem, stops}
use Rattle.employees.specs.Runs.{sight_under, said_in, Reached, reaches, reached_by, Left, left_by, left_at, behind}
use Rattle.employees.specs.declared.Run.{Run}

-- ---- one line
-- The employer list is as it was.
list_kept : (walk : Walk) (s : Sighted) (list : List Employer) → list_after (change_by (said_in s) walk) list ≡ list
list_kept walk s list = at (eqb s.id 0) where
  at : (none : Bool) → list_after (if none then Nothing else Adds walk.used s.id) list ≡ list
  at true = refl
  at false = refl

-- What a call for a line that the run takes leaves.
abbrev taken : Walk → List ℕ → Sighted → List Employer → Out
taken walk ids s list =
    record {
      says = all_well;
      taken = s.taken;
      walk = walk_after (said_in s) walk;
      left = tables (ids_after (change_by (said_in s) walk) ids) list;
    }

module _ (walk : Walk) (ids : List ℕ) (list : List Employer) (s : List ℕ) (t : Taking (room_for ids (length list)) walk ids (sight_under walk s)) where
  abbrev lent : Tables
  lent = tables ids list

  line_moves : line_moved (room_of lent) (listed_fein walk lent) (listed_id walk lent) walk (first_line s)
      ≡ goes_on walk (sight_under walk s).taken (said_in (sight_under walk s))
  line_moves =
      line_fit (room_of lent) walk (seen_on walk.held.format (listed_fein walk lent) (listed_id walk lent) (capitals (first_line s).text)) (first_line s) (reading EOpen)
      t.waits.fit t.waits.stands
      ∙ ap (by_verdict walk) (plain_line (length list) walk ids s t (listed_fein walk lent))

  line_taken : line_step walk (first_line s) lent ≡ taken walk ids (sight_under walk s) list
  line_taken =
      ap (λ (m : Moved). carried m lent) line_moves
      ∙ ap (λ (l : List Employer). record {
        says = all_well;
        taken = (sight_under walk s).taken;
        walk = walk_after (said_in (sight_under walk s)) walk;
        left = tables (ids_after (change_by (said_in (sight_under walk s)) walk) ids) l;
      }) (list_kept walk (sight_under walk s) list)

-- ---- the run
module _ (s : List ℕ) (list : List Employer) (P : ℕ → Walk → Tables → Type 0)
    (each : (at : ℕ) (walk : Walk) (t : Tables) (next : Out) → (shape_of walk.held.format).length + 2 ≤ length (drop at s)
    → next ≡ line_step walk (first_line (drop at s)) t → (next.taken ≡ 0 → ⊥) → P at walk t → P (at + next.taken) next.walk next.left) where
  abbrev Holds : Reached → Type 0
  Holds r = P r.at r.walk (tables r.ids list)

  next_holds : (r : Reached) → takes_at s (length list) r ≡ true → Holds r → Holds (next s r)
  next_holds r e holds =
      let v = sight_at s r in
      let t = takes_parts (room_for r.ids (length list)) r.walk r.ids v e in
      let long = long_enough (lowest r.walk.open.fein r.walk.filed) (highest r.walk.open.fein r.walk.filed) (drop r.at s) t.some in
      each r.at r.walk (tables r.ids list) (taken r.walk r.ids v list) (rw t.waits.pfml long)
      (sym (line_taken r.walk r.ids list (drop r.at s) t)) t.some holds

  run_holds : (n : ℕ) (r : Reached) → Holds r → Holds (onward s (length list) n r)
  run_holds zero r holds = rw (none_left s (length list) r) holds
  run_holds (suc n) r holds = by (run_holds n (next s r)) (takes_at s (length list) r) refl where
    by : (Holds (next s r) → Holds (onward s (length list) n (next s r))) → (t : Bool) → takes_at s (length list) r ≡ t
        → Holds (onward s (length list) (suc n) r)
    by rest true e = rw (goes_on_lem s (length list) n r e) (rest (next_holds r e holds))
    by rest false e = rw (stops s (length list) (suc n) r e) holds

-- ---- after a line
-- Behind a line that was refused nothing is taken.
pub behind_refused : (s : List ℕ) (n : ℕ) (o : Left) → o.taken ≡ 0 → behind s n o ≡ o
unfolding behind
behind_refused s n o e = rw (eq-eqb _ _ e)

behind_taken : (s : List ℕ) (n : ℕ) (o : Left) → (o.taken ≡ 0 → ⊥)
    → behind s n o ≡ left_at o.says (reaches s n (length s) o.taken o.walk o.ids)
unfolding behind
behind_taken s n o some = rw (ne_eqb _ _ some)

-- Without bytes there is no line.
pub behind_nothing : (n : ℕ) (o : Left) → behind [] n o ≡ o
unfolding behind
behind_nothing n o = at (eqb o.taken 0) where
  at : (none : Bool) → (if none then o else left_at o.says (reaches [] n 0 o.taken o.walk o.ids)) ≡ o
  at true = refl
  at false = ap (left_at o.says) (none_left [] n (record { at = o.taken; walk = o.walk; ids = o.ids }))

-- A call that took bytes refused nothing.
fine_says : (reply : Result ℕ Refusal) → (taken_in reply ≡ 0 → ⊥) → notice_in reply ≡ all_well
fine_says (Ok bytes) some = refl
fine_says (Err why) some = absurd (some refl)

-- What the code answers after a line that was taken.
pub behind_run : (s : List ℕ) (n : ℕ) (a : Answer) (ids : List ℕ) (run : Run) (more : List ℕ) → (taken_in a.reply ≡ 0 → ⊥)
    → reached_by run more ≡ reaches s n (length s) (taken_in a.reply) (walk_of a.state) ids
    → left_by (record { state = run.state; reply = Ok run.at }) more ≡ behind s n (left_by a ids)
behind_run s n a ids run more some e =
    ap (left_at all_well) e
    ∙ ap (λ (says : Notice). left_at says (reaches s n (length s) (taken_in a.reply) (walk_of a.state) ids)) (sym (fine_says a.reply some))
    ∙ sym (behind_taken s n (left_by a ids) some)

pub behind_carries : (s : List ℕ) (list : List Employer) (o : Left) (P : ℕ → Walk → Tables → Type 0)
    → ((at : ℕ) (walk : Walk) (t : Tables) (next : Out) → (shape_of walk.held.format).length + 2 ≤ length (drop at s)
    → next ≡ line_step walk (first_line (drop at s)) t → (next.taken ≡ 0 → ⊥) → P at walk t → P (at + next.taken) next.walk next.left)
    → (o.taken ≡ 0 → ⊥) → P o.taken o.walk (tables o.ids list)
    → P (behind s (length list) o).taken (behind s (length list) o).walk (tables (behind s (length list) o).ids list)
behind_carries s list o P each some holds =
    rw (behind_taken s (length list) o some)
    (run_holds s list P each (length s) (record { at = o.taken; walk = o.walk; ids = o.ids }) holds)

pub behind_says : (s : List ℕ) (n : ℕ) (o : Left) → (behind s n o).says ≡ o.says
unfolding behind
behind_says s n o = at (eqb o.taken 0) where
  at : (none : Bool)
      → (if none then o else left_at o.says (reaches s n (length s) o.taken o.walk o.ids)).says ≡ o.says
  at true = refl
  at false = refl
