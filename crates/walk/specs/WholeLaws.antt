-- Laws: the calls of a loop over a whole file: each is lent all that remains.
use Rattle.std.specs.Prelude.{ℕ, zero, suc, ◌+◌, ◌-◌, ◌≤◌, ◌<◌, Bool, true, false, ◌≡◌, eqb, length, take, drop, if◌then◌else◌}
use mathlib.Core.List.{List, [], ◌∷◌}
use Rattle.std.proofs.Common.{inr, ◌∙◌, le_refl, arith, length-drop, drop_of_length-le, take_all, drop-drop, eq-eqb, ne_eqb}
use Rattle.std.proofs.Math.Path.{refl, sym, ap}
use Rattle.std.proofs.lemmas.Bool.{eqb-false}
use Rattle.laws.specs.Lists.{behind}
use Rattle.chars.specs.Characters.{capitals}
use Rattle.lines.specs.Laws.{size_within}
use Rattle.lines.specs.Lines.{first_line}
use Rattle.edits.specs.declared.Context.{Context}
use Rattle.edits.specs.declared.Opening.{Opening}
use Rattle.edits.specs.declared.format.Format.{Format}
use Rattle.record.specs.Laws.{passed_size}
use Rattle.shape.specs.Shape.{Judged, refusal, passed}
use Rattle.record.specs.Judge.{seen_on, judge_among}
use Rattle.shape.specs.declared.Said.{Said}
use Rattle.tables.specs.Room.{Room, Tables, room_of}
use Rattle.state.specs.Walks.{Standing, reading, accepted, refused, Walk}
use Rattle.step.specs.MoveLaws.{line_cases}
use Rattle.step.specs.Moves.{Moved, by_verdict, context_of, by_standing, line_moved}
use Rattle.step.specs.Steps.{Out, listed_fein, listed_id, open_step, line_step, end_step}
use Rattle.walk.specs.Calls.{Lending, calls, whole_file, all}
use Rattle.walk.specs.WalkMeans.{next, walk_means}

all_lending : (format : Format) → Lending format all
all_lending format remain = inr (le_refl remain)

pub whole_means : (held : Opening) (file : List ℕ) (t : Tables) → calls all 0 file (open_step held t).walk (open_step held t).left ≡ whole_file held file t
whole_means held file t = walk_means held all (all_lending held.format) file t

-- ---- from where the last call ended
skipped : (skip : ℕ) (s : List ℕ) (walk : Walk) (t : Tables) → calls all skip s walk t ≡ calls all 0 (drop skip s) walk t
unfolding calls
skipped zero s walk t = refl
skipped (suc skip) [] walk t = refl
skipped (suc skip) (b ∷ s) walk t = skipped skip s walk t

module _ (walk : Walk) (t : Tables) where
  pub calls_end : calls all 0 [] walk t ≡ end_step walk t
  unfolding calls
  calls_end = refl

  calls_line : (s : List ℕ) → 0 < length s → (o : Out) → o ≡ line_step walk (first_line s) t
      → calls all 0 s walk t ≡ (if eqb o.taken 0 then end_step o.walk o.left else calls all 0 (drop o.taken s) o.walk o.left)
  unfolding calls
  calls_line [] h o e = absurd (omega arith)
  calls_line (b ∷ s) h o e = ap (next all s) lent ∙ at (eqb o.taken 0) refl where
    lent : line_step walk (first_line (take (length (b ∷ s)) (b ∷ s))) t ≡ o
    lent = ap (λ (r : List ℕ). line_step walk (first_line r) t) (take_all (length (b ∷ s)) (b ∷ s) (le_refl (length (b ∷ s)))) ∙ sym e

    at : (none : Bool) → eqb o.taken 0 ≡ none
        → (if none then end_step o.walk o.left else calls all (o.taken - 1) s o.walk o.left)
        ≡ (if none then end_step o.walk o.left else calls all 0 (drop o.taken (b ∷ s)) o.walk o.left)
    at true e = refl
    at false e =
        let some = eqb-false o.taken 0 e in
        skipped (o.taken - 1) s o.walk o.left ∙ ap (λ (r : List ℕ). calls all 0 r o.walk o.left) (behind o.taken b s (omega arith))

  -- A line that is refused, and one that is taken.
  pub calls_refused : (s : List ℕ) → 0 < length s → (o : Out) → o ≡ line_step walk (first_line s) t → o.taken ≡ 0 → calls all 0 s walk t ≡ end_step o.walk o.left
  calls_refused s h o e none = calls_line s h o e ∙ rw (eq-eqb o.taken 0 none)

  pub calls_taken : (s : List ℕ) → 0 < length s → (o : Out) → o ≡ line_step walk (first_line s) t → (o.taken ≡ 0 → ⊥)
      → calls all 0 s walk t ≡ calls all 0 (drop o.taken s) o.walk o.left
  calls_taken s h o e some = calls_line s h o e ∙ rw (ne_eqb o.taken 0 some)

-- ---- a line takes no more than there is
verdict_within : (walk : Walk) (v : Judged) (most : ℕ) → ((taken : ℕ) (said : Said) → v ≡ passed taken said → taken ≤ most) → (by_verdict walk v).taken ≤ most
verdict_within walk (refusal column number) most within = omega arith
verdict_within walk (passed taken said) most within = within taken said refl

module _ (room : Room) (earlier under : ℕ → Bool) (walk : Walk) (s : List ℕ) where
  line_within : (here : Context) (taken : ℕ) (said : Said) → judge_among here earlier under (first_line s) ≡ passed taken said → taken ≤ length s
  line_within here taken said e =
      let is = (passed_size here earlier under (first_line s) taken said e).0 in
      let fits = size_within s in
      omega arith

  standing_within : (standing : Standing) → (by_standing room (seen_on walk.held.format earlier under (capitals (first_line s).text)) (first_line s) walk standing).taken ≤ length s
  standing_within (reading phase) =
      verdict_within walk (judge_among (context_of room walk phase) earlier under (first_line s)) (length s) (line_within (context_of room walk phase))
  standing_within accepted = omega arith
  standing_within (refused says) = omega arith

  moved_within : (line_moved room earlier under walk (first_line s)).taken ≤ length s
  moved_within = line_cases room walk (λ (moved : Moved). moved.taken ≤ length s) _ (first_line s) (omega arith) standing_within

pub taken_within : (walk : Walk) (t : Tables) (s : List ℕ) → (line_step walk (first_line s) t).taken ≤ length s
taken_within walk t s = moved_within (room_of t) (listed_fein walk t) (listed_id walk t) walk s

-- ---- the loop: the call at a place of the file is lent the part from there to the end
pub rest : (at : ℕ) (s : List ℕ) → take (length s - at) (drop at s) ≡ drop at s
rest at s = take_all (length s - at) (drop at s) (simp length-drop (omega arith))

pub loop_done : (file : List ℕ) (at : ℕ) (walk : Walk) (t : Tables) → length file ≤ at → calls all 0 (drop at file) walk t ≡ end_step walk t
loop_done file at walk t h = ap (λ (s : List ℕ). calls all 0 s walk t) (drop_of_length-le file {i = at} h) ∙ calls_end walk t

module _ (file : List ℕ) (at : ℕ) (walk : Walk) (t : Tables) (o : Out) (within : at < length file) (e : o ≡ line_step walk (first_line (drop at file)) t) where
  some_left : 0 < length (drop at file)
  some_left = simp length-drop (omega arith)

  pub loop_refused : o.taken ≡ 0 → calls all 0 (drop at file) walk t ≡ end_step o.walk o.left
  loop_refused none = calls_refused walk t (drop at file) some_left o e none

  pub loop_within : at + o.taken ≤ length file
  loop_within =
      let taken : o.taken ≤ length (drop at file) = rw e (taken_within walk t (drop at file)) in
      omega (arith, rw length-drop at taken)

  pub loop_taken : (o.taken ≡ 0 → ⊥) → calls all 0 (drop at file) walk t ≡ calls all 0 (drop (at + o.taken) file) o.walk o.left
  loop_taken some =
      calls_taken walk t (drop at file) some_left o e some
      ∙ ap (λ (s : List ℕ). calls all 0 s o.walk o.left) (drop-drop o.taken at file)
