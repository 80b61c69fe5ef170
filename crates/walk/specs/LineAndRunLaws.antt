-- Laws: a line and the plain S records after it are calls, one for each line.
use Rattle.std.specs.Prelude.{ℕ, ◌+◌, ◌≤◌, ◌<◌, Bool, true, false, List, ◌≡◌, refl, eqb, length, drop, if◌then◌else◌}
use Rattle.std.proofs.Common.{sym, ap, ◌∙◌, le_refl, arith, length-drop, drop-drop, eqb-true}
use Rattle.std.proofs.lemmas.Bool.{eqb-false}
use Rattle.lines.specs.Lines.{first_line}
use Rattle.record.specs.ShapeOf.{shape_of}
use Rattle.tables.specs.Room.{Tables, tables}
use Rattle.tables.specs.declared.Employer.{Employer}
use Rattle.state.specs.Walks.{Walk}
use Rattle.step.specs.Steps.{Out, out_of, line_step}
use Rattle.step.specs.declared.Answer.{Answer}
use Rattle.employees.specs.Carries.{behind_refused, behind_carries}
use Rattle.employees.specs.Runs.{Left, left_by, behind}
use Rattle.walk.specs.Calls.{calls, all}
use Rattle.walk.specs.LineAndRun.{left_in, with_list, behind_step, lines_step, next_place}
use Rattle.walk.specs.WholeLaws.{loop_done, loop_within, loop_refused, loop_taken}

-- What the two calls of the code leave.
pub both_left : (a r : Answer) (s xs zs : List ℕ) (ys list : List Employer) (walk : Walk) (t : Tables) → length ys ≡ length list → out_of a (tables xs ys) ≡ line_step walk (first_line s) t
    → left_by r zs ≡ behind s (length list) (left_by a xs) → out_of r (tables zs ys) ≡ lines_step walk s t
both_left a r s xs zs ys list walk t same line run =
    ap (λ (l : Left). with_list l ys) (run ∙ ap (λ (n : ℕ). behind s n (left_by a xs)) (sym same)) ∙ ap (behind_step s) line

module _ (walk : Walk) (s : List ℕ) (t : Tables) where
  -- What holds after the line holds after the run, if each line more keeps it.
  pub lines_carry : (P : ℕ → Walk → Tables → Type 0)
      → ((at : ℕ) (walk : Walk) (t : Tables) (next : Out) → (shape_of walk.held.format).length + 2 ≤ length (drop at s) → next ≡ line_step walk (first_line (drop at s)) t → (next.taken ≡ 0 → ⊥) → P at walk t → P (at + next.taken) next.walk next.left)
      → ((line_step walk (first_line s) t).taken ≡ 0 → ⊥) → P (line_step walk (first_line s) t).taken (line_step walk (first_line s) t).walk (line_step walk (first_line s) t).left
      → P (lines_step walk s t).taken (lines_step walk s t).walk (lines_step walk s t).left
  lines_carry P more some now = let o = line_step walk (first_line s) t in behind_carries s o.left.list (left_in o) P more some now

  -- A line that is refused is alone.
  pub refused_alone : (line_step walk (first_line s) t).taken ≡ 0 → lines_step walk s t ≡ line_step walk (first_line s) t
  refused_alone none = let o = line_step walk (first_line s) t in ap (λ (l : Left). with_list l o.left.list) (behind_refused s (length o.left.list) (left_in o) none)

  -- Where bytes were taken, the line was.
  pub some_taken : ((lines_step walk s t).taken ≡ 0 → ⊥) → (line_step walk (first_line s) t).taken ≡ 0 → ⊥
  some_taken some none = some (ap (λ (o : Out). o.taken) (refused_alone none) ∙ none)

  pub none_taken : (lines_step walk s t).taken ≡ 0 → (line_step walk (first_line s) t).taken ≡ 0
  none_taken none = at (eqb (line_step walk (first_line s) t).taken 0) refl where
    at : (is : Bool) → eqb (line_step walk (first_line s) t).taken 0 ≡ is → (line_step walk (first_line s) t).taken ≡ 0
    at true e = eqb-true _ 0 e
    at false e =
        let some = eqb-false (line_step walk (first_line s) t).taken 0 e in
        absurd (lines_carry (λ at _ _. at ≡ 0 → ⊥) (λ at w u next long is more before zero. before (omega arith)) some some none)

-- ---- the loop over a whole file
module _ (file : List ℕ) (at : ℕ) (walk : Walk) (t : Tables) (o : Out) (within : at < length file) (e : o ≡ lines_step walk (drop at file) t) where
  abbrev line : Out
  line = line_step walk (first_line (drop at file)) t

  -- The calls from where a run stands say what those from the first place say.
  abbrev Carried : ℕ → Walk → Tables → Type 0
  Carried taken w u = (calls all 0 (drop at file) walk t ≡ calls all 0 (drop (at + taken) file) w u) × (at + taken ≤ length file)

  one_more : (taken : ℕ) (w : Walk) (u : Tables) (next : Out) → (shape_of w.held.format).length + 2 ≤ length (drop taken (drop at file)) → next ≡ line_step w (first_line (drop taken (drop at file))) u → (next.taken ≡ 0 → ⊥) → Carried taken w u
      → Carried (taken + next.taken) next.walk next.left
  one_more taken w u next long is some (same, inside) =
      let here : drop taken (drop at file) ≡ drop (at + taken) file = drop-drop taken at file in
      let lt : at + taken < length file = omega (arith, rw (here, length-drop) at long) in
      let is' : next ≡ line_step w (first_line (drop (at + taken) file)) u = is ∙ ap (λ (r : List ℕ). line_step w (first_line r) u) here in
      let place : at + taken + next.taken ≡ at + (taken + next.taken) = omega arith in
      (same ∙ loop_taken file (at + taken) w u next lt is' some ∙ ap (λ (k : ℕ). calls all 0 (drop k file) next.walk next.left) place, rw (← place) (loop_within file (at + taken) w u next lt is'))

  carried : (o.taken ≡ 0 → ⊥) → Carried o.taken o.walk o.left
  carried some =
      let first = some_taken walk (drop at file) t (λ none. some (ap (λ (r : Out). r.taken) e ∙ none)) in
      rw e (lines_carry walk (drop at file) t Carried one_more first (loop_taken file at walk t line within refl first, loop_within file at walk t line within refl))

  refused : o.taken ≡ 0 → o ≡ line
  refused none = e ∙ refused_alone walk (drop at file) t (none_taken walk (drop at file) t (sym (ap (λ (r : Out). r.taken) e) ∙ none))

  pub run_within : at + o.taken ≤ length file
  run_within = go (eqb o.taken 0) refl
    where
      go : (none : Bool) → eqb o.taken 0 ≡ none → at + o.taken ≤ length file
      go true is = omega (arith, eqb-true o.taken 0 is)
      go false is = (carried (eqb-false o.taken 0 is)).1

  -- The loop goes on at the next place, which is the end after a refusal.
  pub run_next : calls all 0 (drop at file) walk t ≡ calls all 0 (drop (next_place at o.taken (length file)) file) o.walk o.left
  run_next = go (eqb o.taken 0) refl
    where
      go : (none : Bool) → eqb o.taken 0 ≡ none → calls all 0 (drop at file) walk t ≡ calls all 0 (drop (if none then length file else (at + o.taken)) file) o.walk o.left
      go true is =
          let none = eqb-true o.taken 0 is in
          loop_refused file at walk t o within (refused none) none ∙ sym (loop_done file (length file) o.walk o.left (le_refl (length file)))
      go false is = (carried (eqb-false o.taken 0 is)).0

  -- It is farther on, and within the file.
  pub run_farther : (at < next_place at o.taken (length file)) × (next_place at o.taken (length file) ≤ length file)
  run_farther = go (eqb o.taken 0) refl
    where
      go : (none : Bool) → eqb o.taken 0 ≡ none → (at < (if none then length file else (at + o.taken))) × ((if none then length file else (at + o.taken)) ≤ length file)
      go true is = (within, le_refl (length file))
      go false is = (omega (arith, eqb-false o.taken 0 is), run_within)
