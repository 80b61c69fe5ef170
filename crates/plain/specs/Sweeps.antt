-- Laws: the sweeps: a loop's steps, what stands in each column, what digits read as, and how large numbers are.
use Prim.Native.Nat.{ℕ, zero, suc, ◌+◌, ◌-◌, ◌*◌, ◌%◌, ◌^◌, ◌≤◌, ◌<◌}
use Rattle.std.specs.Prelude.{Bool, true, false, ◌&&◌, List, ◌⊎◌, ◌≡◌, ltb, get_or}
use Rattle.std.proofs.Math.Logic.{inl, inr}
use Rattle.std.proofs.Math.Path.{refl}
use Rattle.std.proofs.Common.{◌∙◌, add-zero, pow-suc, lit<}
use Rattle.std.proofs.Math.Nat.{pow-le-pow_right}
use Rattle.std.proofs.Math.Numerals.{add-one}
use native.Mathlib.Omega.{arith}
use borrow.Author.Tests.{leb-true, ltb-true, ltb-false}
use Rattle.std.proofs.Math.Dec.{leb}
use Rattle.laws.specs.ChoiceLaws.{both_hold}
use Rattle.laws.specs.Finding.{value}
use Rattle.laws.specs.LoopSteps.{left_suc, left_none}
use Rattle.chars.specs.Characters.{is_digit}
use Rattle.chars.specs.CharacterLaws.{digit_is}
use Rattle.number.specs.NumberLaws.{number_done, number_more}
use Rattle.number.specs.Numbers.{number_from}
use Rattle.plain.specs.Plain.{within, digits_from}

-- A place stands before another, or not.
pub side : (n k : ℕ) → (k < n) ⊎ (n ≤ k)
side n k = by (ltb k n) refl where
  by : (less : Bool) → ltb k n ≡ less → (k < n) ⊎ (n ≤ k)
  by true e = inl (ltb-true k n e)
  by false e = inr (ltb-false k n e)

-- ---- columns between those of two records
module _ (low high s : List ℕ) where
  pub within_none : within low high s 0 ≡ true
  unfolding within
  within_none = refl

  pub within_more : (i : ℕ) → within low high s (i + 1) ≡ within low high s i && (leb (get_or low i 0) (get_or s i 0) && leb (get_or s i 0) (get_or high i 0))
  unfolding within
  within_more i = rw add-one

  pub within_two_more : (i : ℕ) → within low high s (i + 2)
      ≡ (within low high s i && (leb (get_or low i 0) (get_or s i 0) && leb (get_or s i 0) (get_or high i 0)))
      && (leb (get_or low (i + 1) 0) (get_or s (i + 1) 0) && leb (get_or s (i + 1) 0) (get_or high (i + 1) 0))
  within_two_more i =
      let next : i + 1 + 1 ≡ i + 2 = omega arith in
      rw (← next, within_more (i + 1), within_more i)

  pub within_at : (n : ℕ) → within low high s n ≡ true → (k : ℕ) → k < n → (get_or low k 0 ≤ get_or s k 0) × (get_or s k 0 ≤ get_or high k 0)
  unfolding within
  within_at zero e k h = absurd (omega arith)
  within_at (suc n) e k h =
      let parts = both_hold (within low high s n) (leb (get_or low n 0) (get_or s n 0) && leb (get_or s n 0) (get_or high n 0)) e in
      let here = both_hold (leb (get_or low n 0) (get_or s n 0)) (leb (get_or s n 0) (get_or high n 0)) parts.1 in
      elim (side n k) [
        | inl before ↦ within_at n parts.0 k before
        | inr behind ↦ let last : k ≡ n = omega arith in rw last (leb-true _ _ here.0, leb-true _ _ here.1)
      ]

-- ---- digits: a loop's steps, at a place before `end`
module _ (s : List ℕ) (v at end : ℕ) where
  pub digits_done : end ≤ at → digits_from s v at (end - at) ≡ v
  unfolding digits_from
  digits_done h = rw (left_none end at h)

  pub digits_more : at < end → digits_from s v at (end - at) ≡ digits_from s (v * 10 + get_or s at 0 % 16) (at + 1) (end - (at + 1))
  unfolding digits_from
  digits_more h = rw (left_suc end at h)

-- A column more. A character that is no digit adds up to 15, so that n columns stay below 2 times 10 to the n.
one_more : (v c k : ℕ) → v + 2 ≤ 2 * 10 ^ k → v * 10 + c % 16 + 2 ≤ 2 * 10 ^ suc k
one_more v c k h = rw pow-suc (omega arith)

pub next_more : (v c from at : ℕ) → from ≤ at → v + 2 ≤ 2 * 10 ^ (at - from) → v * 10 + c % 16 + 2 ≤ 2 * 10 ^ (at + 1 - from)
next_more v c from at h l = let past : at + 1 - from ≡ suc (at - from) = omega arith in rw past (one_more v c (at - from) l)

ten : 0 < 10
ten = lit< tt

pub digits_fit : (v k : ℕ) → v + 2 ≤ 2 * 10 ^ k → suc k ≤ 18 → v * 10 + 15 < 2 ^ 64
digits_fit v k h most = omega (arith, one_more v 15 k h, pow-le-pow_right ten most)

pub digits_below : (n : ℕ) (s : List ℕ) (v at k : ℕ) → v + 2 ≤ 2 * 10 ^ k → digits_from s v at n + 2 ≤ 2 * 10 ^ (k + n)
unfolding digits_from
digits_below zero s v at k h = rw add-zero h
digits_below (suc n) s v at k h =
    let place : k + suc n ≡ suc k + n = omega arith in
    rw place (digits_below n s (v * 10 + get_or s at 0 % 16) (at + 1) (suc k) (one_more v (get_or s at 0) k h))

-- Where all of them are digits, they read as the number.
pub digits_read : (n : ℕ) (s : List ℕ) (v at : ℕ) → ((k : ℕ) → at ≤ k → k < at + n → (48 ≤ get_or s k 0) × (get_or s k 0 ≤ 57))
    → number_from s v at n ≡ value (digits_from s v at n)
unfolding digits_from
digits_read zero s v at digits =
    let none : at - at ≡ 0 = omega arith in
    rw none at (number_done s v at at (omega arith))
digits_read (suc n) s v at digits =
    let c = get_or s at 0 in
    let here = digits at (omega arith) (omega arith) in
    let again : 48 + (c - 48) ≡ c = omega arith in
    let is : is_digit c ≡ true = rw again at (digit_is (c - 48) (omega arith)) in
    let all : at + suc n - at ≡ suc n = omega arith in
    let rest : at + suc n - (at + 1) ≡ n = omega arith in
    let digit : c - 48 ≡ c % 16 = omega arith in
    rw (all, rest, digit) at (number_more s v at (at + suc n) c refl (omega arith) is)
    ∙ digits_read n s (v * 10 + c % 16) (at + 1) (λ k low high. digits k (omega arith) (omega arith))
