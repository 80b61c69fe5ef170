-- Laws: the current quarter is the one right after the last closed, and after 12 of 9999 there is none;
-- and what each answer of the period test says of a quarter.
use Rattle.std.specs.Prelude.{ℕ, ◌+◌, ◌*◌, ◌≤◌, ◌<◌, Bool, true, false, ◌⊎◌, ◌≡◌, ltb, if◌then◌else◌}
use Rattle.std.proofs.lemmas.Bool.{false≢true}
use Rattle.std.proofs.Common.{true≢false, inl, inr, sym, arith}
use Rattle.std.proofs.Math.Path.{refl}
use borrow.Author.Tests.{eqb-true, eq-eqb, ltb-true, ltb-false}
use Rattle.laws.specs.ChoiceLaws.{both_hold}
use Rattle.calendar.specs.Quarters.{last_year, is_quarter_month, is_after, is_same, current_quarter, timing_of, may_report}
use Rattle.calendar.specs.Laws.{ComesLater, not_true, quarter_months, after_later, later_after, not_later, neither_after}
use Rattle.calendar.specs.declared.Quarter.{Quarter}
use Rattle.calendar.specs.declared.Timing.{Timing}
use Rattle.calendar.specs.declared.Timing.TheVariants.{Closed, Current, Later}

-- ---- what the answers say
-- Which test leads to which answer.
module _ (after same : Bool) where
  abbrev answer : Timing
  answer = if after then (if same then Current else Later) else Closed

answers_apart : (Current ≡ Closed → ⊥) × (Later ≡ Closed → ⊥) × (Current ≡ Later → ⊥)
answers_apart =
    (λ e. let z : ◌≡◌ {A = ℕ} 0 1 = cc in omega arith, λ e. let z : ◌≡◌ {A = ℕ} 0 1 = cc in omega arith, λ e. let z : ◌≡◌ {A = ℕ} 0 1 = cc in omega arith)

closed_by : (after same : Bool) → answer after same ≡ Closed → after ≡ false
closed_by true true e = absurd (answers_apart.0 e)
closed_by true false e = absurd (answers_apart.1 e)
closed_by false same e = refl

current_by : (after same : Bool) → answer after same ≡ Current → (after ≡ true) × (same ≡ true)
current_by true true e = (refl, refl)
current_by true false e = absurd (answers_apart.2 (sym e))
current_by false same e = absurd (answers_apart.0 (sym e))

later_by : (after same : Bool) → answer after same ≡ Later → (after ≡ true) × (same ≡ false)
later_by true true e = absurd (answers_apart.2 e)
later_by true false e = (refl, refl)
later_by false same e = absurd (answers_apart.1 (sym e))

module _ (held q : Quarter) where
  -- Closed are the last closed quarter and those before it.
  pub closed_says : timing_of held q ≡ Closed → is_after q held ≡ false
  unfolding timing_of
  closed_says e = closed_by (is_after q held) (is_same q (current_quarter held)) e

  -- Current is the current quarter alone, which is after the last closed.
  pub current_says : timing_of held q ≡ Current
      → (is_after q held ≡ true) × (q.year ≡ (current_quarter held).year) × (q.month ≡ (current_quarter held).month)
  unfolding timing_of is_same
  current_says e =
      let told = current_by (is_after q held) (is_same q (current_quarter held)) e in
      let both = both_hold _ _ told.1 in
      (told.0, eqb-true _ _ both.0, eqb-true _ _ both.1)

-- ---- the one right after
-- Its year and month: three months on, 03 of the next year after 12; after 12 of the last year the quarter itself.
abbrev Next : Quarter → Quarter → Type 0
Next held c =
    ((held.month < 12) × (c.year ≡ held.year) × (c.month ≡ held.month + 3))
    ⊎ ((12 ≤ held.month) × (held.year < last_year) × (c.year ≡ held.year + 1) × (c.month ≡ 3))
    ⊎ ((12 ≤ held.month) × (last_year ≤ held.year) × (c.year ≡ held.year) × (c.month ≡ held.month))

next_by : (held : Quarter) (early more : Bool) → ltb held.month 12 ≡ early → ltb held.year last_year ≡ more → Next held (current_quarter held)
unfolding current_quarter
next_by held true more e f = inl (rw e (ltb-true _ _ e, refl, refl))
next_by held false true e f = inr (inl (rw (e, f) (ltb-false _ _ e, ltb-true _ _ f, refl, refl)))
next_by held false false e f = inr (inr (rw (e, f) (ltb-false _ _ e, ltb-false _ _ f, refl, refl)))

next : (held : Quarter) → Next held (current_quarter held)
next held = next_by held _ _ refl refl

-- The month that ends a quarter is three months for each quarter of the year so far.
abbrev Threes : ℕ → Type 0
Threes m = (k : ℕ) × (m ≡ 3 * k) × (1 ≤ k) × (k ≤ 4)

threes : (m : ℕ) → is_quarter_month m ≡ true → Threes m
threes m t =
    elim (quarter_months m t) [
      | inl e ↦ (1, e, omega arith, omega arith)
      | inr (inl e) ↦ (2, e, omega arith, omega arith)
      | inr (inr (inl e)) ↦ (3, e, omega arith, omega arith)
      | inr (inr (inr e)) ↦ (4, e, omega arith, omega arith)
    ]

none_between : (held q c : Quarter) → Threes held.month → Threes q.month → Next held c → ComesLater q held → ComesLater c q → ⊥
none_between held q c h k (inl n) (inl a) (inl b) = omega arith
none_between held q c h k (inl n) (inl a) (inr b) = omega arith
none_between held q c h k (inl n) (inr a) (inl b) = omega arith
none_between held q c h k (inl n) (inr a) (inr b) = omega arith
none_between held q c h k (inr (inl n)) (inl a) (inl b) = omega arith
none_between held q c h k (inr (inl n)) (inl a) (inr b) = omega arith
none_between held q c h k (inr (inl n)) (inr a) (inl b) = omega arith
none_between held q c h k (inr (inl n)) (inr a) (inr b) = omega arith
none_between held q c h k (inr (inr n)) (inl a) (inl b) = omega arith
none_between held q c h k (inr (inr n)) (inl a) (inr b) = omega arith
none_between held q c h k (inr (inr n)) (inr a) (inl b) = omega arith
none_between held q c h k (inr (inr n)) (inr a) (inr b) = omega arith

-- A quarter that another is not after, and that is not the same, is after that.
after_or_same : (a b : Quarter) → is_after b a ≡ false → is_same a b ≡ false → (t : Bool) → is_after a b ≡ t → is_after a b ≡ true
unfolding is_same
after_or_same a b s other true t = t
after_or_same a b s other false t =
    let same = neither_after a b t s in
    absurd (true≢false (rw (eq-eqb _ _ same.0, eq-eqb _ _ same.1) at other))

module _ (held q : Quarter) (ends : is_quarter_month held.month ≡ true) (asked : is_quarter_month q.month ≡ true) where
  -- "the one right after the last closed": no quarter lies between the two.
  pub right_after : is_after q held ≡ true → is_after (current_quarter held) q ≡ false
  right_after t =
      not_true _ (λ u. none_between held q (current_quarter held) (threes _ ends) (threes _ asked) (next held) (after_later _ _ t) (after_later _ _ u))

  -- "41 is for quarters after the current"
  pub later_says : timing_of held q ≡ Later → is_after q (current_quarter held) ≡ true
  unfolding timing_of
  later_says e =
      let told = later_by (is_after q held) (is_same q (current_quarter held)) e in
      after_or_same q (current_quarter held) (right_after told.0) told.1 _ refl

-- ---- whether there is one
-- Unless the last closed is 12 of 9999 or beyond, the current quarter is one, and the period test answers so.
pub current_is : (held : Quarter) → (held.month < 12) ⊎ (held.year < last_year) → timing_of held (current_quarter held) ≡ Current
unfolding timing_of is_same
current_is held room =
    rw (later_after _ held (after_held (next held) room), eq-eqb (current_quarter held).year _ refl, eq-eqb (current_quarter held).month _ refl) where
      after_held : Next held (current_quarter held) → (held.month < 12) ⊎ (held.year < last_year) → ComesLater (current_quarter held) held
      after_held (inl n) r = inr (n.1, omega arith)
      after_held (inr (inl n)) r = inl (omega arith)
      after_held (inr (inr n)) (inl m) = absurd (omega arith)
      after_held (inr (inr n)) (inr y) = absurd (omega arith)

-- "after 12 of 9999 there is none"
pub none_current : (held q : Quarter) → held.month ≡ 12 → held.year ≡ last_year → timing_of held q ≡ Current → ⊥
none_current held q month year e =
    let told = current_says held q e in
    none (next held) (after_later q held told.0) told.1 told.2 where
      none : Next held (current_quarter held) → ComesLater q held → q.year ≡ (current_quarter held).year → q.month ≡ (current_quarter held).month → ⊥
      none (inl n) a y m = omega arith
      none (inr (inl n)) a y m = omega arith
      none (inr (inr n)) (inl a) y m = omega arith
      none (inr (inr n)) (inr a) y m = omega arith

-- "39 is for years beyond the current quarter's": no quarter that may be reported is of such a year.
pub year_told : (held q : Quarter) → may_report (timing_of held q) ≡ true → q.year ≤ (current_quarter held).year
year_told held q t = by (timing_of held q) refl t where
  of_held : Next held (current_quarter held) → held.year ≤ (current_quarter held).year
  of_held (inl n) = omega arith
  of_held (inr (inl n)) = omega arith
  of_held (inr (inr n)) = omega arith

  by : (timing : Timing) → timing_of held q ≡ timing → may_report timing ≡ true → q.year ≤ (current_quarter held).year
  by Closed e m = let years = (not_later q held (closed_says held q e)).0 in let on = of_held (next held) in omega arith
  by Current e m = let same = (current_says held q e).1 in omega arith
  by Later e m = absurd (false≢true m)
