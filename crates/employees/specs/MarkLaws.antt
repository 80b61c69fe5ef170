-- Laws: the marks: the numbers in use are marked, whatever else is.
use Rattle.std.specs.Prelude.{ℕ, zero, suc, ◌+◌, ◌*◌, ◌/◌, ◌%◌, ◌^◌, ◌≤◌, ◌<◌, min, max, Bool, true, false, ◌||◌, List, [], ◌∷◌, ◌++◌, ◌⊎◌, ◌≡◌, refl, eqb, leb, length, get_or, take, set, if◌then◌else◌}
use Rattle.std.proofs.lemmas.Bool.{false≢true, eqb-false, lt-leb}
use Rattle.std.proofs.Common.{inl, inr, sym, ◌∙◌, add-one, arith, length-set, pow_pos, lt-length-set, take-suc, get_or-set_same, get_or-set_other, eqb-true, eq-eqb, leb-false, le-leb}
use Rattle.std.proofs.Math.Nat.{div_self, pow-le-pow_right}
use Rattle.std.proofs.Math.Arith.{digits_mod}
use Rattle.std.specs.Int.Bits.{bit_or, or_step}
use Rattle.std.proofs.lemmas.Nat.{or_shr}
use Rattle.std.proofs.lemmas.List.{take-set-le}
use Rattle.tables.specs.Laws.{among_none}
use Rattle.tables.specs.TableSteps.{among_more, take_least}
use Rattle.tables.specs.Tables.{is_among}
use Rattle.plain.specs.declared.Sighted.{Sighted}
use Rattle.state.specs.Walks.{Walk}
use Rattle.shape.specs.After.{one_used}
use Rattle.step.specs.Moves.{change_by}
use Rattle.step.specs.Steps.{ids_after}
use Rattle.step.specs.declared.Change.TheVariants.{Nothing, Adds}
use Rattle.employees.specs.Marks.{mark_of, has_bit, with_bit, is_set, is_marked, with_set, with_mark, with_marks, Covers}
use Rattle.employees.specs.Runs.{said_in}

-- ---- a bit more
-- Of two bytes put together a bit is that of either.
or_bit : (a b k : ℕ) → bit_or a b / 2 ^ k % 2 ≡ max (a / 2 ^ k % 2) (b / 2 ^ k % 2)
or_bit a b k =
    let x = a / 2 ^ k in
    let y = b / 2 ^ k in
    let below : max (x % 2) (y % 2) < 2 = omega arith in
    rw (or_shr a b k, or_step x y) (digits_mod (bit_or (x / 2) (y / 2)) below)

own_bit : (k : ℕ) → 2 ^ k / 2 ^ k % 2 ≡ 1
own_bit k = rw (div_self (pow_pos k))

with_bit_lem : (byte k : ℕ) → has_bit (with_bit byte k) k ≡ true
unfolding has_bit with_bit
with_bit_lem byte k = eq-eqb (bit_or byte (2 ^ k) / 2 ^ k % 2) 1 (rw (or_bit byte (2 ^ k) k, own_bit k) (omega arith))

bit_stays : (byte j k : ℕ) → has_bit byte j ≡ true → has_bit (with_bit byte k) j ≡ true
unfolding has_bit with_bit
bit_stays byte j k e = eq-eqb (bit_or byte (2 ^ k) / 2 ^ j % 2) 1 (rw (or_bit byte (2 ^ k) j, eqb-true (byte / 2 ^ j % 2) 1 e) (omega arith))

-- What a byte has room for: a one shifted to any of its eight bits.
pub shifted_one : (k : ℕ) → k < 8 → 1 * 2 ^ k % 256 ≡ 2 ^ k
shifted_one k h =
    let seven : k ≤ 7 = omega arith in
    let small : 2 ^ k ≤ 128 = pow-le-pow_right {n = 2} (omega arith) {i = k} {j = 7} seven in
    omega (arith, small)

-- ---- one mark more
past_or_within : (past : Bool) (test : Bool) → (past ≡ false → test ≡ true) → past || test ≡ true
past_or_within true test within = refl
past_or_within false test within = within refl

within_of : (past test : Bool) → past || test ≡ true → past ≡ false → test ≡ true
within_of past test either none = rw none at either

module _ (marks : List ℕ) (mark : ℕ) where
  still_inside : (place : ℕ) → leb (length (with_set marks mark)) place ≡ false → place < length marks
  still_inside place within =
      let long = length-set marks (mark / 8) (with_bit (get_or marks (mark / 8) 0) (mark % 8)) in
      omega (arith, long, leb-false (length (with_set marks mark)) place within)

  set_mark : is_set (with_set marks mark) mark ≡ true
  set_mark = past_or_within (leb (length (with_set marks mark)) (mark / 8)) _ λ within.
      let inside = still_inside (mark / 8) within in
      rw (get_or-set_same marks (mark / 8) (with_bit (get_or marks (mark / 8) 0) (mark % 8)) 0 inside) (with_bit_lem (get_or marks (mark / 8) 0) (mark % 8))

  set_keeps : (other : ℕ) → is_set marks other ≡ true → is_set (with_set marks mark) other ≡ true
  set_keeps other e = past_or_within (leb (length (with_set marks mark)) (other / 8)) _ λ within.
      let inside = still_inside (other / 8) within in
      let was : has_bit (get_or marks (other / 8) 0) (other % 8) ≡ true = within_of _ _ e (lt-leb (length marks) (other / 8) inside) in
      by (eqb (other / 8) (mark / 8)) refl inside was
    where
      by : (same : Bool) → eqb (other / 8) (mark / 8) ≡ same → other / 8 < length marks → has_bit (get_or marks (other / 8) 0) (other % 8) ≡ true
          → has_bit (get_or (with_set marks mark) (other / 8) 0) (other % 8) ≡ true
      by true at_same inside was =
          let place = eqb-true (other / 8) (mark / 8) at_same in
          rw (← place, get_or-set_same marks (other / 8) (with_bit (get_or marks (other / 8) 0) (mark % 8)) 0 inside) (bit_stays (get_or marks (other / 8) 0) (other % 8) (mark % 8) was)
      by false elsewhere inside was = rw (get_or-set_other marks (mark / 8) (other / 8) (with_bit (get_or marks (mark / 8) 0) (mark % 8)) 0 (eqb-false (other / 8) (mark / 8) elsewhere)) was

-- Where there are no marks every number counts as marked.
pub no_marks_cover : (ids : List ℕ) → Covers [] ids
no_marks_cover ids id among = rw (le-leb 0 (mark_of id / 8) (omega arith))

module _ (marks : List ℕ) (ids : List ℕ) where
  -- Without a mark a number is not among them.
  pub unmarked_new : (id : ℕ) → Covers marks ids → is_marked marks id ≡ false → is_among id ids ≡ false
  unmarked_new id covers e = by (is_among id ids) refl where
    by : (among : Bool) → is_among id ids ≡ among → is_among id ids ≡ false
    by true m = absurd (false≢true (sym e ∙ covers id m))
    by false m = m

  -- A mark more does no harm.
  pub covers_still : (id : ℕ) → Covers marks ids → Covers (with_mark id marks) ids
  covers_still id covers other among = set_keeps marks (mark_of id) (mark_of other) (covers other among)

-- A number after others, with its mark.
one_more : (a b : Bool) → a || b ≡ true → (a ≡ true) ⊎ (b ≡ true)
one_more true b e = inl refl
one_more false b e = inr e

module _ (marks : List ℕ) (ids : List ℕ) (n : ℕ) (within : n < length ids) where
  pub covers_one : Covers marks (take n ids) → Covers (with_mark (get_or ids n 0) marks) (take (n + 1) ids)
  covers_one covers id among = elim (one_more (is_among id (take n ids)) (eqb (get_or ids n 0) id) (sym (among_more id ids n within) ∙ among)) [
    | inl before ↦ set_keeps marks (mark_of (get_or ids n 0)) (mark_of id) (covers id before)
    | inr same ↦ rw (eqb-true (get_or ids n 0) id same) (set_mark marks (mark_of id))
  ]

-- ---- the marks of numbers in use
with_append : (a b : List ℕ) (marks : List ℕ) → with_marks (a ++ b) marks ≡ with_marks b (with_marks a marks)
unfolding with_marks
with_append [] b marks = refl
with_append (id ∷ a) b marks = with_append a b (with_mark id marks)

pub with_none : (marks : List ℕ) → with_marks [] marks ≡ marks
unfolding with_marks
with_none marks = refl

pub with_more : (ids : List ℕ) (n : ℕ) (marks : List ℕ) → n < length ids
    → with_marks (take (n + 1) ids) marks ≡ with_mark (get_or ids n 0) (with_marks (take n ids) marks)
unfolding with_marks
with_more ids n marks h = rw (add-one, take-suc ids n 0 h, with_append)

covers_within : (ids : List ℕ) (marks : List ℕ) (n : ℕ) → n ≤ length ids → Covers (with_marks (take n ids) marks) (take n ids)
covers_within ids marks zero h = λ id among. absurd (false≢true (sym (among_none id) ∙ among))
covers_within ids marks (suc n) h =
    let more = covers_one (with_marks (take n ids) marks) ids n h (covers_within ids marks n (omega arith)) in
    rw (← add-one n, with_more ids n marks h) more

-- All of the first n are marked; a table that has less has all marked.
pub covers_first : (ids : List ℕ) (marks : List ℕ) (n : ℕ) → Covers (with_marks (take n ids) marks) (take n ids)
covers_first ids marks n =
    let least = take_least n ids in
    let covers = covers_within ids marks (min n (length ids)) (omega arith) in
    rw least at covers

-- ---- a line of the run
module _ (marks : List ℕ) (walk : Walk) (ids : List ℕ) (s : Sighted) where
  pub covers_next : (s.id ≡ 0) ⊎ ((walk.used < length ids) × (is_among s.id (take walk.used ids) ≡ false)) → Covers marks (take walk.used ids)
      → Covers (with_mark s.id marks) (take (one_used walk.used s.id) (ids_after (change_by (said_in s) walk) ids))
  covers_next new covers = by (eqb s.id 0) refl where
    by : (none : Bool) → eqb s.id 0 ≡ none
        → Covers (with_mark s.id marks) (take (if none then walk.used else walk.used + 1) (ids_after (if none then Nothing else Adds walk.used s.id) ids))
    by true none = covers_still marks (take walk.used ids) s.id covers
    by false some = elim new [
      | inl zero' ↦ absurd (eqb-false _ _ some zero')
      | inr room ↦
          let put = set ids walk.used s.id in
          let long : walk.used < length put = lt-length-set ids walk.used s.id room.0 in
          let here = get_or-set_same ids walk.used s.id 0 room.0 in
          let before : Covers marks (take walk.used put) = rw (take-set-le walk.used ids walk.used s.id (omega arith)) covers in
          rw here at (covers_one marks put walk.used long before)
    ]
