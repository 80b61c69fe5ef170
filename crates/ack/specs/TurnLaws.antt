-- Laws: the steps of the loop over the lines of a turn.
use Prim.Native.Nat.{ℕ, zero, suc, ◌+◌, ◌-◌, ◌≤◌, ◌<◌, min}
use Rattle.std.specs.Prelude.{Bool, true, false, ◌&&◌, ◌||◌, ◌≡◌, eqb, ltb, leb, length, drop, if◌then◌else◌}
use mathlib.Core.List.{List, [], ◌∷◌}
use Rattle.std.proofs.Math.Path.{refl}
use Rattle.std.proofs.Common.{sym, ap, ◌∙◌, le_refl, arith, length-drop, drop_of_length-le, drop-drop, ltb-true, ltb-false}
use Rattle.std.proofs.Math.Seq.{drop-length}
use Rattle.std.proofs.lemmas.Bool.{eqb-false}
use Rattle.laws.specs.ChoiceLaws.{both_hold}
use Rattle.laws.specs.Lists.{behind}
use Rattle.tables.specs.Room.{Tables}
use Rattle.tables.specs.TableSteps.{drop_least}
use Rattle.state.specs.Walks.{Walk, walk_of}
use Rattle.state.specs.declared.State.{State}
use Rattle.step.specs.Steps.{Out, out_of, end_step}
use Rattle.step.specs.declared.Answer.{Answer}
use Rattle.walk.specs.LineAndRun.{lines_step}
use Rattle.ack.specs.Answers.{turned_by}
use Rattle.ack.specs.Places.{takes_line, place_behind}
use Rattle.ack.specs.Turns.{Turn, ends, goes_on, longest_line, lines_turn}
use Rattle.ack.specs.declared.Place.{Place}
use Rattle.ack.specs.declared.Progress.TheVariants.{Walking, Finished}
use Rattle.ack.specs.declared.Turned.{Turned}

module _ (ended : Bool) where
  -- Bytes that belong to the line taken last are passed over.
  skipped : (skip : ℕ) (s : List ℕ) (walk : Walk) (t : Tables) → lines_turn ended skip s walk t ≡ lines_turn ended 0 (drop skip s) walk t
  unfolding lines_turn
  skipped zero s walk t = refl
  skipped (suc skip) [] walk t = refl
  skipped (suc skip) (b ∷ s) walk t = skipped skip s walk t

  turn_none : (walk : Walk) (t : Tables) → lines_turn ended 0 [] walk t ≡ (if ended then ends (end_step walk t) else goes_on walk t [])
  unfolding lines_turn
  turn_none walk t = refl

  -- A line that is not whole yet stays.
  turn_stays : (s : List ℕ) → 0 < length s → ended || leb longest_line (length s) ≡ false → (walk : Walk) (t : Tables) → lines_turn ended 0 s walk t ≡ goes_on walk t s
  unfolding lines_turn
  turn_stays [] h e walk t = absurd (omega arith)
  turn_stays (b ∷ s) h e walk t = rw e

  -- What a turn makes of the answer of a call.
  abbrev next : List ℕ → Out → Turn
  next rest o = if eqb o.taken 0 then ends (end_step o.walk o.left) else lines_turn ended (o.taken - 1) rest o.walk o.left

  next_drops : (b : ℕ) (s : List ℕ) (o : Out)
      → next s o ≡ (if eqb o.taken 0 then ends (end_step o.walk o.left) else lines_turn ended 0 (drop o.taken (b ∷ s)) o.walk o.left)
  next_drops b s o = at (eqb o.taken 0) refl where
    at : (none : Bool) → eqb o.taken 0 ≡ none
        → (if none then ends (end_step o.walk o.left) else lines_turn ended (o.taken - 1) s o.walk o.left)
        ≡ (if none then ends (end_step o.walk o.left) else lines_turn ended 0 (drop o.taken (b ∷ s)) o.walk o.left)
    at true n = refl
    at false n =
        let some = eqb-false o.taken 0 n in
        skipped (o.taken - 1) s o.walk o.left ∙ ap (λ (r : List ℕ). lines_turn ended 0 r o.walk o.left) (behind o.taken b s (omega arith))

  turn_line : (s : List ℕ) → 0 < length s → ended || leb longest_line (length s) ≡ true → (walk : Walk) (t : Tables) (o : Out) → o ≡ lines_step walk s t
      → lines_turn ended 0 s walk t ≡ (if eqb o.taken 0 then ends (end_step o.walk o.left) else lines_turn ended 0 (drop o.taken s) o.walk o.left)
  unfolding lines_turn
  turn_line [] h e walk t o same = absurd (omega arith)
  turn_line (b ∷ s) h e walk t o same = rw e (ap (next s) (sym same) ∙ next_drops b s o)

-- ---- the loop: `held` are the bytes of the turn, taken up to a place
abbrev pub turn_from : List ℕ → Place → Walk → Tables → Turn
turn_from held here walk t = lines_turn here.last 0 (drop here.at held) walk t

-- Where no byte is left.
turn_over : (last : Bool) (held : List ℕ) (at : ℕ) → length held ≤ at → (walk : Walk) (t : Tables) → lines_turn last 0 (drop at held) walk t ≡ (if last then ends (end_step walk t) else goes_on walk t [])
turn_over last held at h walk t = ap (λ (s : List ℕ). lines_turn last 0 s walk t) (drop_of_length-le held {i = at} h) ∙ turn_none last walk t

module _ (held : List ℕ) (here : Place) (walk : Walk) (t : Tables) where
  some_left : here.at < length held → 0 < length (drop here.at held)
  some_left h = simp length-drop (omega arith)

  -- The loop stops at the end of the bytes, if after them comes the end call,
  pub loop_ends : takes_line here (length held) ≡ false → here.last ≡ true → turn_from held here walk t ≡ ends (end_step walk t)
  loop_ends e last = turn_over here.last held here.at (ltb-false here.at (length held) (over (ltb here.at (length held)) e)) walk t ∙ rw last where
    over : (more : Bool) → more && (here.last || leb longest_line (length held - here.at)) ≡ false → more ≡ false
    over true none = rw last at none
    over false none = refl

  -- or else where a line is not whole yet.
  pub loop_stays : takes_line here (length held) ≡ false → here.last ≡ false → turn_from held here walk t ≡ goes_on walk t (drop here.at held)
  loop_stays e last = go (ltb here.at (length held)) refl where
    go : (more : Bool) → ltb here.at (length held) ≡ more → turn_from held here walk t ≡ goes_on walk t (drop here.at held)
    go true is = turn_stays here.last (drop here.at held) (some_left (ltb-true here.at (length held) is)) (rw (length-drop here.at held) (rw is at e)) walk t
    go false is =
        let h = ltb-false here.at (length held) is in
        turn_over here.last held here.at h walk t ∙ rw (last, drop_of_length-le held {i = here.at} h)

  taking : takes_line here (length held) ≡ true → (ltb here.at (length held) ≡ true) × (here.last || leb longest_line (length held - here.at) ≡ true)
  taking e = both_hold (ltb here.at (length held)) (here.last || leb longest_line (length held - here.at)) e

  pub takes_within : takes_line here (length held) ≡ true → here.at < length held
  takes_within e = ltb-true here.at (length held) (taking e).0

  -- After the lines that a call took the turn goes on.
  module _ (o : Out) (e : takes_line here (length held) ≡ true) (same : o ≡ lines_step walk (drop here.at held) t) where
    takes : turn_from held here walk t ≡ (if eqb o.taken 0 then ends (end_step o.walk o.left) else lines_turn here.last 0 (drop o.taken (drop here.at held)) o.walk o.left)
    takes = turn_line here.last (drop here.at held) (some_left (takes_within e)) (rw (length-drop here.at held) (taking e).1) walk t o same

    pub loop_next : turn_from held here walk t ≡ turn_from held (place_behind here o.taken (length held)) o.walk o.left
    loop_next = takes ∙ go (eqb o.taken 0) where
      go : (none : Bool)
          → (if none then ends (end_step o.walk o.left) else lines_turn here.last 0 (drop o.taken (drop here.at held)) o.walk o.left)
          ≡ lines_turn (none || here.last) 0 (drop (if none then length held else (here.at + o.taken)) held) o.walk o.left
      go true = sym (turn_over true held (length held) (le_refl (length held)) o.walk o.left)
      go false = ap (λ (s : List ℕ). lines_turn here.last 0 s o.walk o.left) (drop-drop o.taken here.at held)

-- ---- what the code then answers
module _ (answer : Turned) (held : List ℕ) where
  pub turned_ends : (a : Answer) (walk : Walk) (t t' : Tables) → answer ≡ record { progress = Finished a.state; taken = length held } → out_of a t' ≡ end_step walk t
      → (turned_by answer held t' ≡ ends (end_step walk t)) × (answer.taken ≤ length held)
  turned_ends a walk t t' is said = rw is (rw (drop-length held) (ap ends said), le_refl (length held))

  pub turned_stays : (st : State) (at : ℕ) (t : Tables) → answer ≡ record { progress = Walking st; taken = min at (length held) } → (turned_by answer held t ≡ goes_on (walk_of st) t (drop at held)) × (answer.taken ≤ length held)
  turned_stays st at t is = rw is (ap (goes_on (walk_of st) t) (drop_least at held), omega arith)
