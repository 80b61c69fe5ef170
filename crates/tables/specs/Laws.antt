-- Laws: a table that is wiped, whether a number is among others, the FEINs of a list, and an entry that is closed.
use Prim.Native.Nat.{ℕ, ◌≤◌, min}
use Rattle.std.specs.Prelude.{false, ◌||◌, ◌≡◌, refl, get_or, set, replicate}
use Rattle.std.proofs.Math.Bool.{or_assoc}
use mathlib.Core.List.{List, [], ◌∷◌, ◌++◌, append-nil, map-append}
use Rattle.std.proofs.Common.{length-drop, length-set, drop_of_length-le}
use Rattle.std.proofs.Math.Nat.{zero-min}
use native.Mathlib.Omega.{arith}
use Rattle.std.proofs.Math.ListN.{length, length-append, length-replicate}
use Rattle.std.proofs.Math.Seq.{drop-append_seam, set_out}
use Rattle.tables.specs.Tables.{wiped, is_among, no_employer, closed, closed_entry_at, feins_of}
use Rattle.tables.specs.declared.Employer.{Employer}

-- ---- entries at rest
module _ {A : Type 0} (z : A) where
  pub wiped_none : (l : List A) → wiped z 0 l ≡ l
  unfolding wiped
  wiped_none l = rw zero-min

  pub wiped_all : (l : List A) (n : ℕ) → length l ≤ n → wiped z n l ≡ replicate (length l) z
  unfolding wiped
  wiped_all l n h =
      let all : min n (length l) ≡ length l = omega arith in
      rw (drop_of_length-le l {i = n} h, append-nil, all)

  pub wiped_length : (n : ℕ) (l : List A) → length (wiped z n l) ≡ length l
  unfolding wiped
  wiped_length n l = simp (length-append, length-replicate, length-drop) (omega arith)

  pub wiped_front : (a b : List A) → wiped z (length a) (a ++ b) ≡ replicate (length a) z ++ b
  unfolding wiped
  wiped_front a b =
      let all : min (length a) (length (a ++ b)) ≡ length a = simp length-append (omega arith) in
      rw (all, drop-append_seam a b)

-- ---- a number among others
pub among_none : (v : ℕ) → is_among v [] ≡ false
unfolding is_among
among_none v = refl

pub among_append : (v : ℕ) (a b : List ℕ) → is_among v (a ++ b) ≡ (is_among v a || is_among v b)
unfolding is_among
among_append v [] b = refl
among_append v (x ∷ a) b = rw (among_append v a b, or_assoc)

-- ---- the employer list
pub feins_append : (a b : List Employer) → feins_of (a ++ b) ≡ feins_of a ++ feins_of b
feins_append a b = map-append (λ (e : Employer). e.fein) a b

pub closed_is : (at count cents : ℕ) (l : List Employer) → closed_entry_at at count cents l ≡ set l at (closed (get_or l at no_employer) count cents)
unfolding closed_entry_at
closed_is at count cents l = refl

pub closed_length : (at count cents : ℕ) (l : List Employer) → length (closed_entry_at at count cents l) ≡ length l
unfolding closed_entry_at
closed_length at count cents l = simp length-set

pub closed_out : (at count cents : ℕ) (l : List Employer) → length l ≤ at → closed_entry_at at count cents l ≡ l
unfolding closed_entry_at
closed_out at count cents l h = set_out l at _ h
