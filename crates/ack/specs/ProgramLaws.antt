-- Laws: program-means, of the walk: whatever the reads are, the turns end as one walk over all that was read.
use Prim.Native.Nat.{ℕ, zero, suc, ◌+◌, ◌-◌, ◌≤◌, ◌<◌}
use Rattle.std.specs.Prelude.{Bool, true, ◌≡◌, eqb, leb, length, drop, get_or, if◌then◌else◌}
use Rattle.std.proofs.Math.Bool.{false}
use mathlib.Core.List.{List, [], ◌∷◌, ◌++◌, append-nil, append_assoc}
use Rattle.std.proofs.Common.{inl, sym, subst, ◌∙◌, le_refl, zero-add, arith, length-append, drop-drop, get_or-take, leb-true, eqb-true}
use Rattle.std.proofs.Math.Path.{refl, ap}
use Rattle.std.proofs.Math.Seq.{take-append_seam, drop-nil}
use Rattle.std.proofs.lemmas.List.{drop-append-le}
use Rattle.std.proofs.lemmas.Bool.{eqb-false}
use Rattle.laws.specs.Lists.{behind}
use Rattle.number.specs.NumberLaws.{number_in_front}
use Rattle.number.specs.Numbers.{number_in}
use Rattle.lines.specs.Lines.{first_line}
use Rattle.edits.specs.declared.format.Format.{Format}
use Rattle.record.specs.ShapeOf.{shape_of}
use Rattle.record.specs.Laws.{lawful_of}
use Rattle.tables.specs.Room.{Tables}
use Rattle.state.specs.Walks.{Walk}
use Rattle.step.specs.Steps.{Out, open_step, line_step, end_step}
use Rattle.walk.specs.CallLaws.{pieces_are_whole}
use Rattle.walk.specs.Calls.{calls, all}
use Rattle.walk.specs.LineAndRunLaws.{lines_carry, refused_alone, some_taken, none_taken, run_within, run_next}
use Rattle.walk.specs.LineAndRun.{lines_step}
use Rattle.walk.specs.WholeLaws.{calls_end, calls_refused, calls_taken, taken_within, loop_done}
use Rattle.ack.specs.Turns.{Progress, waiting, walking, finished, Turn, ends, goes_on, longest_line, lines_turn, header_quarter, header_opening, turn}
use Rattle.ack.specs.Program.{turns, input, walk_over}

-- A turn that is not the last agrees with a walk over what is held and all that will be read: it has ended so, or the rest of the walk is still before it.
abbrev Agrees : Progress → List ℕ → Tables → List ℕ → Out → Type 0
Agrees waiting left t future o = ⊥
Agrees (walking walk) left t future o = calls all 0 (left ++ future) walk t ≡ o
Agrees (finished walk) left t future o = (walk ≡ o.walk) × (t ≡ o.left)

abbrev TurnAgrees : Turn → List ℕ → Out → Type 0
TurnAgrees next future o = Agrees next.progress next.left next.tables future o

-- ---- what a call takes, in what is held and in all that will be read
-- A line that is whole in what is held is the line of the whole input.
held_line : (walk : Walk) (t : Tables) (held future : List ℕ) → (shape_of walk.held.format).length + 2 ≤ length held → line_step walk (first_line held) t ≡ line_step walk (first_line (held ++ future)) t
held_line walk t held future h =
    ap (λ (s : List ℕ). line_step walk (first_line s) t) (sym (take-append_seam held future))
    ∙ pieces_are_whole walk t (length held) (held ++ future) (inl h)

-- Every format's lines are, with the bytes of the longest.
longest_line_lem : (walk : Walk) (n : ℕ) → longest_line ≤ n → (shape_of walk.held.format).length + 2 ≤ n
longest_line_lem walk n h = omega (arith, (lawful_of walk.held.format).short)

-- A line is taken out of what is held as out of the whole input.
line_taken : (walk : Walk) (t : Tables) (held future : List ℕ) → 0 < length held → line_step walk (first_line held) t ≡ line_step walk (first_line (held ++ future)) t
    → (o : Out) → o ≡ line_step walk (first_line held) t → (o.taken ≡ 0 → ⊥) → calls all 0 (held ++ future) walk t ≡ calls all 0 (drop o.taken held ++ future) o.walk o.left
line_taken walk t held future some_held whole o is some =
    let within : o.taken ≤ length held = rw is (taken_within walk t held) in
    calls_taken walk t (held ++ future) (rw (length-append held future) (omega arith)) o (is ∙ whole) some
    ∙ ap (λ (s : List ℕ). calls all 0 s o.walk o.left) (drop-append-le o.taken held future within)

-- So it is with a line and the plain S records after it: the call on what is held leads as far as the calls on the whole input.
module _ (held future : List ℕ) (walk : Walk) (t : Tables) (some_held : 0 < length held) (whole : line_step walk (first_line held) t ≡ line_step walk (first_line (held ++ future)) t) where
  abbrev Carried : ℕ → Walk → Tables → Type 0
  Carried taken w u = calls all 0 (held ++ future) walk t ≡ calls all 0 (drop taken held ++ future) w u

  one_more : (taken : ℕ) (w : Walk) (u : Tables) (next : Out) → (shape_of w.held.format).length + 2 ≤ length (drop taken held) → next ≡ line_step w (first_line (drop taken held)) u → (next.taken ≡ 0 → ⊥) → Carried taken w u
      → Carried (taken + next.taken) next.walk next.left
  one_more taken w u next long is some same =
      same ∙ line_taken w u (drop taken held) future (omega arith) (held_line w u (drop taken held) future long) next is some
      ∙ ap (λ (s : List ℕ). calls all 0 (s ++ future) next.walk next.left) (drop-drop next.taken taken held)

  module _ (o : Out) (e : o ≡ lines_step walk held t) where
    same_taken : o.taken ≡ (lines_step walk held t).taken
    same_taken = ap (λ (r : Out). r.taken) e

    run_taken : (o.taken ≡ 0 → ⊥) → Carried o.taken o.walk o.left
    run_taken some =
        let first = some_taken walk held t (λ none. some (same_taken ∙ none)) in
        rw e (lines_carry walk held t Carried one_more first (line_taken walk t held future some_held whole (line_step walk (first_line held) t) refl first))

    run_refused : o.taken ≡ 0 → calls all 0 (held ++ future) walk t ≡ end_step o.walk o.left
    run_refused none =
        let alone = refused_alone walk held t (none_taken walk held t (sym same_taken ∙ none)) in
        calls_refused walk t (held ++ future) (rw (length-append held future) (omega arith)) o (e ∙ alone ∙ whole) none

-- ---- lines, before the input has ended
module _ (future : List ℕ) where
  abbrev Held : List ℕ → Type 0
  Held bytes = (skip : ℕ) → skip ≤ length bytes → (walk : Walk) (t : Tables) → TurnAgrees (lines_turn false skip bytes walk t) future (calls all 0 (drop skip bytes ++ future) walk t)

  -- Lines are taken, or the first is refused.
  after_lines_lem : (b : ℕ) (rest : List ℕ) → Held rest → (walk : Walk) (t : Tables) → longest_line ≤ length (b ∷ rest) → (o : Out) → o ≡ lines_step walk (b ∷ rest) t → o.taken ≤ length (b ∷ rest)
      → (none : Bool) → eqb o.taken 0 ≡ none
      → TurnAgrees (if none then ends (end_step o.walk o.left) else lines_turn false (o.taken - 1) rest o.walk o.left) future (calls all 0 ((b ∷ rest) ++ future) walk t)
  after_lines_lem b rest more walk t long o e within true none =
      let same = run_refused (b ∷ rest) future walk t (omega arith) (held_line walk t (b ∷ rest) future (longest_line_lem walk (length (b ∷ rest)) long)) o e (eqb-true o.taken 0 none) in
      (ap (λ (x : Out). x.walk) (sym same), ap (λ (x : Out). x.left) (sym same))
  after_lines_lem b rest more walk t long o e within false some =
      let taken = eqb-false o.taken 0 some in
      let same = run_taken (b ∷ rest) future walk t (omega arith) (held_line walk t (b ∷ rest) future (longest_line_lem walk (length (b ∷ rest)) long)) o e taken
      ∙ ap (λ (s : List ℕ). calls all 0 (s ++ future) o.walk o.left) (sym (behind o.taken b rest (omega arith))) in
      subst (TurnAgrees (lines_turn false (o.taken - 1) rest o.walk o.left) future) (sym same) (more (o.taken - 1) (omega arith) o.walk o.left)

  -- What a turn makes of a line that is held, and of one that is not.
  abbrev line_turn : Bool → ℕ → List ℕ → Walk → Tables → Out → Turn
  line_turn long b rest walk t o =
      if long
      then (if eqb o.taken 0 then ends (end_step o.walk o.left) else lines_turn false (o.taken - 1) rest o.walk o.left)
      else goes_on walk t (b ∷ rest)

  line_agrees : (b : ℕ) (rest : List ℕ) → Held rest → (walk : Walk) (t : Tables) (long : Bool) → leb longest_line (length (b ∷ rest)) ≡ long
      → TurnAgrees (line_turn long b rest walk t (lines_step walk (b ∷ rest) t)) future (calls all 0 ((b ∷ rest) ++ future) walk t)
  line_agrees b rest more walk t true e =
      after_lines_lem b rest more walk t (leb-true longest_line (length (b ∷ rest)) e) (lines_step walk (b ∷ rest) t) refl
      (omega (arith, run_within (b ∷ rest) 0 walk t (lines_step walk (b ∷ rest) t) (omega arith) refl)) (eqb (lines_step walk (b ∷ rest) t).taken 0) refl
  line_agrees b rest more walk t false e = refl

  lines_agree : (bytes : List ℕ) → Held bytes
  unfolding lines_turn
  lines_agree [] zero h walk t = refl
  lines_agree [] (suc skip) h walk t = absurd (omega arith)
  lines_agree (b ∷ rest) (suc skip) h walk t = lines_agree rest skip (omega arith) walk t
  lines_agree (b ∷ rest) zero h walk t = line_agrees b rest (lines_agree rest) walk t (leb longest_line (length (b ∷ rest))) refl

-- ---- lines, when the input has ended
-- The same, with nothing to come.
ended_lines : (b : ℕ) (rest : List ℕ) → ((skip : ℕ) (walk : Walk) (t : Tables) → lines_turn true skip rest walk t ≡ ends (calls all 0 (drop skip rest) walk t))
    → (walk : Walk) (t : Tables) (o : Out) → o ≡ lines_step walk (b ∷ rest) t → (none : Bool) → eqb o.taken 0 ≡ none
    → (if none then ends (end_step o.walk o.left) else lines_turn true (o.taken - 1) rest o.walk o.left) ≡ ends (calls all 0 (b ∷ rest) walk t)
ended_lines b rest more walk t o e none is = at none is where
  goes : (none : Bool) → eqb o.taken 0 ≡ none → calls all 0 (b ∷ rest) walk t ≡ calls all 0 (drop (if none then length (b ∷ rest) else o.taken) (b ∷ rest)) o.walk o.left
  goes none is =
      run_next (b ∷ rest) 0 walk t o (omega arith) e
      ∙ ap (λ (taken : ℕ). calls all 0 (drop (if eqb o.taken 0 then length (b ∷ rest) else taken) (b ∷ rest)) o.walk o.left) (zero-add o.taken)
      ∙ ap (λ (none : Bool). calls all 0 (drop (if none then length (b ∷ rest) else o.taken) (b ∷ rest)) o.walk o.left) is

  at : (none : Bool) → eqb o.taken 0 ≡ none
      → (if none then ends (end_step o.walk o.left) else lines_turn true (o.taken - 1) rest o.walk o.left) ≡ ends (calls all 0 (b ∷ rest) walk t)
  at true none = ap ends (sym (goes true none ∙ loop_done (b ∷ rest) (length (b ∷ rest)) o.walk o.left (le_refl (length (b ∷ rest)))))
  at false some =
      let taken = eqb-false o.taken 0 some in
      more (o.taken - 1) o.walk o.left
      ∙ ap ends (ap (λ (s : List ℕ). calls all 0 s o.walk o.left) (behind o.taken b rest (omega arith)) ∙ sym (goes false some))

lines_ended : (bytes : List ℕ) (skip : ℕ) (walk : Walk) (t : Tables) → lines_turn true skip bytes walk t ≡ ends (calls all 0 (drop skip bytes) walk t)
unfolding lines_turn
lines_ended [] skip walk t = ap ends (sym (ap (λ (s : List ℕ). calls all 0 s walk t) (drop-nil skip) ∙ calls_end walk t))
lines_ended (b ∷ rest) (suc skip) walk t = lines_ended rest skip walk t
lines_ended (b ∷ rest) zero walk t =
    ended_lines b rest (lines_ended rest) walk t (lines_step walk (b ∷ rest) t) refl (eqb (lines_step walk (b ∷ rest) t).taken 0) refl

-- ---- the header
-- It stands in the first seven bytes.
pub header_held : (held future : List ℕ) → 7 ≤ length held → header_quarter held ≡ header_quarter (held ++ future)
unfolding header_quarter
header_held held future h =
    let number : number_in held 1 6 ≡ number_in (held ++ future) 1 6 =
    ap (λ (s : List ℕ). number_in s 1 6) (sym (take-append_seam held future)) ∙ number_in_front (length held) (held ++ future) 1 6 (omega arith) in
    let ends_with : get_or held 6 0 ≡ get_or (held ++ future) 6 0 =
    ap (λ (s : List ℕ). get_or s 6 0) (sym (take-append_seam held future)) ∙ get_or-take (length held) (held ++ future) 6 0 (omega arith) in
    rw (number, ends_with)

module _ (format : Format) where
  -- ---- all turns
  finished_stays : (walk : Walk) (left : List ℕ) (reads : List (List ℕ)) (t : Tables) → turns format (finished walk) left reads t ≡ record { progress = finished walk; left = []; tables = t }
  unfolding turns turn
  finished_stays walk left [] t = refl
  finished_stays walk left (read ∷ reads) t = refl

  -- From a turn that agrees, the turns end as the walk does.
  mutual_on : (reads : List (List ℕ)) → ((left : List ℕ) (walk : Walk) (t : Tables) → turns format (walking walk) left reads t ≡ ends (calls all 0 (left ++ input reads) walk t))
      → (progress : Progress) (left : List ℕ) (t : Tables) (o : Out) → Agrees progress left t (input reads) o → turns format progress left reads t ≡ ends o
  mutual_on reads walks waiting left t o agrees = absurd agrees
  mutual_on reads walks (walking walk) left t o agrees = walks left walk t ∙ ap ends agrees
  mutual_on reads walks (finished walk) left t o agrees = finished_stays walk left reads t ∙ rw (agrees.0, agrees.1)

  turns_walk : (reads : List (List ℕ)) (left : List ℕ) (walk : Walk) (t : Tables) → turns format (walking walk) left reads t ≡ ends (calls all 0 (left ++ input reads) walk t)
  unfolding turns turn
  turns_walk [] left walk t = lines_ended left 0 walk t ∙ ap (λ (s : List ℕ). ends (calls all 0 s walk t)) (sym (append-nil left))
  turns_walk (read ∷ reads) left walk t =
      let next = lines_turn false 0 (left ++ read) walk t in
      mutual_on reads (turns_walk reads) next.progress next.left next.tables (calls all 0 ((left ++ read) ++ input reads) walk t)
      (lines_agree (input reads) (left ++ read) 0 (omega arith) walk t)
      ∙ ap (λ (s : List ℕ). ends (calls all 0 s walk t)) (append_assoc left read (input reads))

  -- Before the header is whole, and when it is.
  opened_agrees : (held : List ℕ) (t : Tables) (future : List ℕ) → 7 ≤ length held
      → calls all 0 (drop 7 held ++ future) (open_step (header_opening format held) t).walk (open_step (header_opening format held) t).left ≡ walk_over format (held ++ future) t
  opened_agrees held t future h = rw (header_held held future h, drop-append-le 7 held future h)

  waits : (reads : List (List ℕ)) (held : List ℕ) (t : Tables) → turns format waiting held reads t ≡ ends (walk_over format (held ++ input reads) t)
      → (whole : Bool) → leb 7 (length held) ≡ whole
      → (let next = if whole then lines_turn false 0 (drop 7 held) (open_step (header_opening format held) t).walk (open_step (header_opening format held) t).left else record { progress = waiting; left = held; tables = t } in
      turns format next.progress next.left reads next.tables) ≡ ends (walk_over format (held ++ input reads) t)
  waits reads held t more true e =
      let walk = (open_step (header_opening format held) t).walk in
      let left = (open_step (header_opening format held) t).left in
      let next = lines_turn false 0 (drop 7 held) walk left in
      mutual_on reads (turns_walk reads) next.progress next.left next.tables (calls all 0 (drop 7 held ++ input reads) walk left)
      (lines_agree (input reads) (drop 7 held) 0 (omega arith) walk left)
      ∙ ap ends (opened_agrees held t (input reads) (leb-true 7 (length held) e))
  waits reads held t more false e = more

  -- Whatever the reads are, the turns end as one walk over all that was read.
  pub turns_wait : (reads : List (List ℕ)) (left : List ℕ) (t : Tables) → turns format waiting left reads t ≡ ends (walk_over format (left ++ input reads) t)
  unfolding turns turn
  turns_wait [] left t =
      lines_ended (drop 7 left) 0 (open_step (header_opening format left) t).walk (open_step (header_opening format left) t).left
      ∙ ap (λ (s : List ℕ). ends (walk_over format s t)) (sym (append-nil left))
  turns_wait (read ∷ reads) left t =
      waits reads (left ++ read) t (turns_wait reads (left ++ read) t) (leb 7 (length (left ++ read))) refl
      ∙ ap (λ (s : List ℕ). ends (walk_over format s t)) (append_assoc left read (input reads))
