-- Laws: what a turn of the run's loop does: what holds at each line of a run, and what the line leaves.
use Rattle.std.specs.Prelude.{ℕ, suc, ◌+◌, ◌-◌, ◌≤◌, ◌<◌, ◌^◌, Bool, true, false, not, ◌&&◌, List, ◌≡◌, refl, eqb, length, take, drop, None}
use Rattle.std.proofs.Common.{sym, ap, ◌∙◌, arith, eq-eqb, ne_eqb, length-drop}
use Rattle.plain.specs.Laws.{id_below, taken_within, none_seen}
use Rattle.plain.specs.Plain.{sight, seen}
use Rattle.plain.specs.declared.Sighted.{Sighted}
use Rattle.state.specs.Walks.{Walk}
use Rattle.step.specs.Moves.{walk_after, change_by}
use Rattle.step.specs.Ready.{Ready}
use Rattle.step.specs.Steps.{ids_after}
use Rattle.employees.specs.MarkLaws.{covers_next}
use Rattle.employees.specs.Marks.{with_mark, Covers}
use Rattle.employees.specs.RunLaws.{parts_await, takes_parts, room_for, taken_ready, onward, sight_at, takes_at, next, none_left, goes_on_lem, stops, Prepared, prepared_next}
use Rattle.employees.specs.Runs.{is_new, has_room, said_in, Reached}

-- Where a run stands after a line of which this is seen.
abbrev pub behind_line : Sighted → Reached → Reached
behind_line v r =
    record {
      at = r.at + v.taken;
      walk = walk_after (said_in v) r.walk;
      ids = ids_after (change_by (said_in v) r.walk) r.ids;
    }

-- What is asked of a line, where the walk is known to await S records.
abbrev pub is_taken : Sighted → Walk → List ℕ → Bool
is_taken v walk ids = not (eqb v.taken 0) && (has_room walk && is_new walk ids v.id)

-- A run of at most `most` lines from `first` on has come to r, and has at most `left` lines to go.
pub record Going (bytes low high : List ℕ) (list most left : ℕ) (first r : Reached) (marks : List ℕ) : Type 0 where
  pub prepared : Prepared list low high r
  pub covers : Covers marks (take r.walk.used r.ids)
  pub rest : onward bytes list left r ≡ onward bytes list most first

module _ (bytes low high : List ℕ) (at : ℕ) (v : Sighted) (seen : v ≡ sight low high (drop at bytes)) where
  pub seen_id : v.id < 4294967296
  seen_id = rw seen (id_below low high (drop at bytes))

  -- The line lies within the bytes, if there is one.
  pub seen_within : (bound : ℕ) → at < bound → length bytes < bound → at + v.taken < bound
  seen_within bound h k =
      let within = taken_within low high (drop at bytes) in
      let long = length-drop at bytes in
      let same = ap (λ (s : Sighted). s.taken) seen in
      omega arith

-- No line is left to take.
pub all_taken : (bytes low high : List ℕ) (list most left : ℕ) (first r : Reached) (marks : List ℕ) → Going bytes low high list most left first r marks → left ≤ 0
    → r ≡ onward bytes list most first
all_taken bytes low high list most left first r marks g none =
    let zero : left ≡ 0 = omega arith in
    sym (ap (λ (n : ℕ). onward bytes list n r) zero ∙ none_left bytes list r) ∙ g.rest

module _ (bytes low high : List ℕ) (list most left : ℕ) (first r : Reached) (marks : List ℕ) (g : Going bytes low high list most left first r marks)
    (v : Sighted) (seen : v ≡ sight low high (drop r.at bytes)) where
  sight_is : v ≡ sight_at bytes r
  sight_is = seen ∙ rw (g.prepared.low_is, g.prepared.high_is)

  takes_is : takes_at bytes list r ≡ is_taken v r.walk r.ids
  takes_is = rw (sight_is, parts_await (room_for r.ids list) r.walk g.prepared.waits)

  -- The line is not taken: the run has come to its end.
  pub ends_here : is_taken v r.walk r.ids ≡ false → r ≡ onward bytes list most first
  ends_here e = sym (stops bytes list left r (takes_is ∙ e)) ∙ g.rest

  -- The line is taken: no sum wraps, and the run goes on after it.
  pub taken_sums : is_taken v r.walk r.ids ≡ true → length r.ids < 2 ^ 64 → Ready r.walk (said_in v)
  taken_sums e short =
      let t = takes_parts (room_for r.ids list) r.walk r.ids (sight_at bytes r) (takes_is ∙ e) in
      rw sight_is (taken_ready list r.walk r.ids (drop r.at bytes) t short)

  goes_behind : is_taken v r.walk r.ids ≡ true → 0 < left
      → Going bytes low high list most (left - 1) first (behind_line v r) (with_mark v.id marks)
  goes_behind e some =
      let told : takes_at bytes list r ≡ true = takes_is ∙ e in
      let t = takes_parts (room_for r.ids list) r.walk r.ids (sight_at bytes r) told in
      let one : left ≡ suc (left - 1) = omega arith in
      let there : onward bytes list left r ≡ onward bytes list (left - 1) (next bytes r) = ap (λ (n : ℕ). onward bytes list n r) one ∙ goes_on_lem bytes list (left - 1) r told in
      rw sight_is (record {
        prepared = prepared_next bytes list low high r g.prepared told;
        covers = covers_next marks r.walk r.ids (sight_at bytes r) t.new g.covers;
        rest = sym there ∙ g.rest;
      })

  pub still_going : is_taken v r.walk r.ids ≡ true → 0 < left → (walk : Walk) (ids : List ℕ) (more : List ℕ)
      → walk ≡ walk_after (said_in v) r.walk → ids ≡ ids_after (change_by (said_in v) r.walk) r.ids → more ≡ with_mark v.id marks
      → Going bytes low high list most (left - 1) first (record { at = r.at + v.taken; walk = walk; ids = ids }) more
  still_going e some walk ids more walked kept marked = rw (walked, kept, marked) (goes_behind e some)

-- Where something is seen there are bytes, and the rest of what is asked decides.
pub taken_is : (v : Sighted) (walk : Walk) (ids : List ℕ) → (v.taken ≡ 0 → ⊥) → is_taken v walk ids ≡ has_room walk && is_new walk ids v.id
taken_is v walk ids some = rw (ne_eqb v.taken 0 some)

-- Where nothing is seen the run has come to its end.
pub ends_unseen : (bytes low high : List ℕ) (list most left : ℕ) (first r : Reached) (marks : List ℕ) → Going bytes low high list most left first r marks
    → seen low high (drop r.at bytes) ≡ None → r ≡ onward bytes list most first
ends_unseen bytes low high list most left first r marks g none =
    let v = sight low high (drop r.at bytes) in
    ends_here bytes low high list most left first r marks g v refl (rw (eq-eqb v.taken 0 (none_seen low high (drop r.at bytes) none)))
