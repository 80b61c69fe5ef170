-- Laws: a run is line calls: a line and the plain S records after it, taken at once, are as many line calls one after the other.
use Rattle.std.specs.Prelude.{ℕ, suc, ◌<◌, Bool, true, false, List, ◌≡◌, refl, eqb}
use Rattle.std.proofs.Common.{sym, ap, subst, ◌∙◌, zero-add, arith, eqb-true}
use Rattle.std.proofs.lemmas.Bool.{eqb-false}
use Rattle.lines.specs.Lines.{first_line}
use Rattle.tables.specs.Room.{Tables}
use Rattle.state.specs.Walks.{Walk}
use Rattle.step.specs.Steps.{Out, line_step}
use Rattle.walk.specs.LineAndRun.{lines_step}
use Rattle.walk.specs.LineAndRunLaws.{lines_carry, refused_alone}
use Rattle.walk.specs.CallsInRow.{Stood, call_at, on_from, line_calls, AreCalls}

calls_none : (s : List ℕ) (from : Stood) → AreCalls s from from
unfolding line_calls
calls_none s from = record { count = 0; ends = refl; taken = λ k h. absurd (omega arith) }

-- One line call more, that takes its line.
calls_more : (s : List ℕ) (from to : Stood) (next : Out) → next ≡ call_at s to → (next.taken ≡ 0 → ⊥) → AreCalls s from to → AreCalls s from (on_from to next)
unfolding line_calls
calls_more s from to next is some before =
    record {
      count = suc before.count;
      ends = rw (before.ends, is);
      taken = λ k h. each k (eqb k before.count) refl h;
    }
  where
    each : (k : ℕ) (is_last : Bool) → eqb k before.count ≡ is_last → k < suc before.count → (call_at s (line_calls s from k)).taken ≡ 0 → ⊥
    each k true e h none = some (ap (λ (o : Out). o.taken) is ∙ ap (λ (stood : Stood). (call_at s stood).taken) (sym before.ends) ∙ ap (λ (n : ℕ). (call_at s (line_calls s from n)).taken) (sym (eqb-true k before.count e)) ∙ none)
    each k false e h none = before.taken k (omega (arith, h, eqb-false k before.count e)) none

module _ (walk : Walk) (s : List ℕ) (t : Tables) where
  abbrev start : Stood
  start = record { at = 0; walk = walk; left = t }

  abbrev stands : ℕ → Walk → Tables → Stood
  stands at w u = record { at = at; walk = w; left = u }

  -- Where its first line is taken, a run ends where line calls end, each of which takes its line;
  pub a_run_is_line_calls : ((line_step walk (first_line s) t).taken ≡ 0 → ⊥)
      → AreCalls s start (stands (lines_step walk s t).taken (lines_step walk s t).walk (lines_step walk s t).left)
  a_run_is_line_calls some =
      let line = line_step walk (first_line s) t in
      let one = calls_more s start start line refl some (calls_none s start) in
      lines_carry walk s t (λ at w u. AreCalls s start (stands at w u))
      (λ at w u next long is more before. calls_more s start (stands at w u) next is more before)
      some (subst (λ (at : ℕ). AreCalls s start (stands at line.walk line.left)) (zero-add line.taken) one)

  -- where it is refused, the run is that one call.
  pub a_refused_run_is_one_call : (line_step walk (first_line s) t).taken ≡ 0 → lines_step walk s t ≡ line_step walk (first_line s) t
  a_refused_run_is_one_call none = refused_alone walk s t none
