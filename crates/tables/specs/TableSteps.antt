-- Laws: what a step of the code leaves, as the proofs of this crate cite it.
use Prim.Native.Nat.{ℕ, zero, suc, ◌+◌, ◌≤◌, ◌<◌, min}
use Rattle.std.specs.List.{list_any}
use Rattle.std.specs.Prelude.{Bool, refl, ◌||◌, ◌≡◌, eqb, length, get_or, take, drop, set}
use Rattle.std.proofs.Math.Bool.{or-false}
use mathlib.Core.List.{List, [], ◌∷◌, ◌++◌}
use Rattle.std.proofs.Common.{ap, not-suc-le-zero, le_of_suc-le-suc, add-one, take-suc}
use Rattle.std.proofs.Math.Nat.{zero-min, suc-min-suc}
use native.Mathlib.Omega.{arith}
use Rattle.std.proofs.lemmas.List.{length-take}
use Rattle.std.proofs.Math.Seq.{take-nil, drop-nil}
use Rattle.tables.specs.Laws.{among_append, wiped_all}
use Rattle.tables.specs.Tables.{wiped, is_among, feins_of}
use Rattle.tables.specs.declared.Employer.{Employer}

-- ---- one more entry
module _ {A : Type 0} (z : A) where
  wiped_next : (l : List A) (i : ℕ) → i < length l → set (wiped z i l) i z ≡ wiped z (suc i) l
  unfolding wiped
  wiped_next [] i h = absurd (not-suc-le-zero h)
  wiped_next (x ∷ l) zero h = rw (zero-min, suc-min-suc, zero-min)
  wiped_next (x ∷ l) (suc i) h = rw (suc-min-suc, suc-min-suc) (ap (λ (t : List A). z ∷ t) (wiped_next l i (le_of_suc-le-suc h)))

  pub wiped_more : (l : List A) (i : ℕ) → i < length l → set (wiped z i l) i z ≡ wiped z (i + 1) l
  wiped_more l i h = rw add-one (wiped_next l i h)

pub among_more : (v : ℕ) (l : List ℕ) (i : ℕ) → i < length l → is_among v (take (i + 1) l) ≡ (is_among v (take i l) || eqb (get_or l i 0) v)
unfolding is_among
among_more v l i h = rw (add-one, take-suc l i 0 h, among_append, or-false)

-- ---- the first n, where the list may be shorter
module _ {A : Type 0} where
  pub take_least : (n : ℕ) (l : List A) → take (min n (length l)) l ≡ take n l
  take_least n [] = rw (take-nil (min n 0), take-nil n)
  take_least zero (x ∷ l) = rw zero-min
  take_least (suc n) (x ∷ l) = rw suc-min-suc (ap (λ (t : List A). x ∷ t) (take_least n l))

  pub drop_least : (n : ℕ) (l : List A) → drop (min n (length l)) l ≡ drop n l
  drop_least n [] = rw (drop-nil (min n 0), drop-nil n)
  drop_least zero (x ∷ l) = rw zero-min
  drop_least (suc n) (x ∷ l) = rw suc-min-suc (drop_least n l)

  -- Wiping all of the first n, and leaving the others, wipes the first n.
  pub wiped_part : (z : A) (n i : ℕ) (l : List A) → length (take (min n (length l)) l) ≤ i
      → wiped z i (take (min n (length l)) l) ++ drop (min n (length l)) l ≡ wiped z n l
  unfolding wiped
  wiped_part z n i l past =
      let long : length (take (min n (length l)) l) ≡ min n (length l) = rw length-take (omega arith) in
      rw (wiped_all z (take (min n (length l)) l) i past, long, drop_least)

-- ---- an entry that passes a test
-- What a call answers of an entry is what a test tells of it.
abbrev pub Tells : {A : Type 0} → (A → Bool → Type 0) → (A → Bool) → Type 0
Tells {A} answers test = (x : A) (passes : Bool) → answers x passes → passes ≡ test x

-- A number is among these, or among their FEINs, where one of them passes the test for it.
pub any_number : (v : ℕ) (l : List ℕ) → list_any (λ x. eqb x v) l ≡ is_among v l
unfolding is_among
any_number v [] = refl
any_number v (x ∷ l) = rw (any_number v l)

pub any_fein : (v : ℕ) (l : List Employer) → list_any (λ (e : Employer). eqb e.fein v) l ≡ is_among v (feins_of l)
unfolding is_among
any_fein v [] = refl
any_fein v (e ∷ l) = rw (any_fein v l)
