-- Laws: which months and years an allowed quarter has, and that "after" is an order of quarters.
use Rattle.std.specs.Prelude.{ℕ, ◌≤◌, ◌<◌, Bool, true, false, ◌&&◌, ◌||◌, ◌⊎◌, ◌≡◌, refl, eqb}
use Rattle.std.proofs.lemmas.Bool.{false≢true}
use Rattle.std.proofs.Common.{true≢false, sym, ◌∙◌, le_of_eq, le_refl, arith}
use Rattle.std.proofs.Math.Logic.{inl, inr, ⊎_elim}
use Rattle.std.proofs.Math.Dec.{leb}
use borrow.Author.Tests.{eqb-true, ltb-true, ltb-false, lt-ltb, le-ltb, eq-eqb}
use Rattle.laws.specs.ChoiceLaws.{both_hold, within}
use Rattle.calendar.specs.Quarters.{first_year, last_year, is_quarter_month, is_filing_year, is_allowed, is_after, timing_of, may_report, is_reportable}
use Rattle.calendar.specs.declared.Quarter.{Quarter}

-- A test that cannot hold fails.
pub not_true : (t : Bool) → (t ≡ true → ⊥) → t ≡ false
not_true true h = absurd (h refl)
not_true false h = refl

-- ---- an allowed quarter
one_of_four : (a b c d : Bool) → a || b || c || d ≡ true → (a ≡ true) ⊎ (b ≡ true) ⊎ (c ≡ true) ⊎ (d ≡ true)
one_of_four true b c d e = inl refl
one_of_four false true c d e = inr (inl refl)
one_of_four false false true d e = inr (inr (inl refl))
one_of_four false false false d e = inr (inr (inr e))

pub quarter_months : (m : ℕ) → is_quarter_month m ≡ true → (m ≡ 3) ⊎ (m ≡ 6) ⊎ (m ≡ 9) ⊎ (m ≡ 12)
unfolding is_quarter_month
quarter_months m e =
    elim (one_of_four (eqb m 3) (eqb m 6) (eqb m 9) (eqb m 12) e) [
      | inl t ↦ inl (eqb-true m 3 t)
      | inr (inl t) ↦ inr (inl (eqb-true m 6 t))
      | inr (inr (inl t)) ↦ inr (inr (inl (eqb-true m 9 t)))
      | inr (inr (inr t)) ↦ inr (inr (inr (eqb-true m 12 t)))
    ]

pub months_quarter : (m : ℕ) → (m ≡ 3) ⊎ (m ≡ 6) ⊎ (m ≡ 9) ⊎ (m ≡ 12) → is_quarter_month m ≡ true
unfolding is_quarter_month
months_quarter m (inl e) = rw e
months_quarter m (inr (inl e)) = rw e
months_quarter m (inr (inr (inl e))) = rw e
months_quarter m (inr (inr (inr e))) = rw e

pub quarter_month_range : (m : ℕ) → is_quarter_month m ≡ true → (3 ≤ m) × (m ≤ 12)
quarter_month_range m t =
    elim (quarter_months m t) [
      | inl e ↦ omega arith
      | inr (inl e) ↦ omega arith
      | inr (inr (inl e)) ↦ omega arith
      | inr (inr (inr e)) ↦ omega arith
    ]

module _ (q : Quarter) (t : is_allowed q ≡ true) where
  parts : (is_filing_year q.year && leb q.year last_year ≡ true) × (is_quarter_month q.month ≡ true)
  unfolding is_allowed
  parts = both_hold (is_filing_year q.year && leb q.year last_year) (is_quarter_month q.month) t

  pub allowed_year : (first_year ≤ q.year) × (q.year ≤ last_year)
  unfolding is_filing_year
  allowed_year = within first_year q.year last_year parts.0

  pub allowed_filing : is_filing_year q.year ≡ true
  allowed_filing = (both_hold (is_filing_year q.year) (leb q.year last_year) parts.0).0

  pub allowed_month : is_quarter_month q.month ≡ true
  allowed_month = parts.1

-- ---- a quarter that may be reported
pub reportable : (held q : Quarter) → is_filing_year q.year ≡ true → is_quarter_month q.month ≡ true → may_report (timing_of held q) ≡ true
    → is_reportable held q ≡ true
unfolding is_reportable
reportable held q year month timely = rw (year, month, timely)

-- ---- "after" is an order
-- Of a later year, or of the same year and a later month.
abbrev pub ComesLater : Quarter → Quarter → Type 0
ComesLater a b = (b.year < a.year) ⊎ ((a.year ≡ b.year) × (b.month < a.month))

later_by : (x y z : Bool) → x || y && z ≡ true → (x ≡ true) ⊎ ((y ≡ true) × (z ≡ true))
later_by true y z e = inl refl
later_by false y z e = inr (both_hold y z e)

not_later_by : (x y z : Bool) → x || y && z ≡ false → (x ≡ false) × (y ≡ true → z ≡ false)
not_later_by true y z e = absurd (true≢false e)
not_later_by false true z e = (refl, λ t. e)
not_later_by false false z e = (refl, λ t. absurd (false≢true t))

module _ (a b : Quarter) where
  pub after_later : is_after a b ≡ true → ComesLater a b
  unfolding is_after
  after_later t = ⊎_elim (λ y. inl (ltb-true _ _ y)) (λ m. inr (eqb-true _ _ m.0, ltb-true _ _ m.1)) (later_by _ _ _ t)

  pub later_after : ComesLater a b → is_after a b ≡ true
  unfolding is_after
  later_after (inl y) = rw (lt-ltb _ _ y)
  later_after (inr m) = rw (le-ltb _ _ (le_of_eq m.0), eq-eqb _ _ m.0, lt-ltb _ _ m.1)

  pub not_later : is_after a b ≡ false → (a.year ≤ b.year) × (a.year ≡ b.year → a.month ≤ b.month)
  unfolding is_after
  not_later t =
      let n = not_later_by _ _ _ t in
      (ltb-false _ _ n.0, λ same. ltb-false _ _ (n.1 (eq-eqb _ _ same)))

pub not_after_itself : (q : Quarter) → is_after q q ≡ false
unfolding is_after
not_after_itself q = rw (le-ltb _ _ (le_refl q.year), eq-eqb q.year _ refl, le-ltb _ _ (le_refl q.month))

-- Of two quarters, one is after the other or they are the same; never are both.
pub neither_after : (a b : Quarter) → is_after a b ≡ false → is_after b a ≡ false → (a.year ≡ b.year) × (a.month ≡ b.month)
neither_after a b s t =
    let p = not_later a b s in
    let q = not_later b a t in
    let same : a.year ≡ b.year = omega (arith, p.0, q.0) in
    (same, omega (arith, p.1 same, q.1 (sym same)))

pub after_trans : (a b c : Quarter) → is_after a b ≡ true → is_after b c ≡ true → is_after a c ≡ true
after_trans a b c s t = later_after a c (trans (after_later a b s) (after_later b c t)) where
  trans : ComesLater a b → ComesLater b c → ComesLater a c
  trans (inl y) (inl z) = inl (omega arith)
  trans (inl y) (inr n) = inl (omega arith)
  trans (inr m) (inl z) = inl (omega arith)
  trans (inr m) (inr n) = inr (omega arith, omega arith)

pub not_both_after : (a b : Quarter) → is_after a b ≡ true → is_after b a ≡ true → ⊥
not_both_after a b s t = false≢true (sym (not_after_itself a) ∙ after_trans a b a s t)
