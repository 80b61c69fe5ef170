-- Laws: a number in hexadecimal has as many bytes as digits; and how a loop from the last digit down writes them.
use Prim.Native.Nat.{ℕ, zero, suc, ◌+◌, ◌*◌, ◌-◌, ◌/◌, ◌%◌, ◌^◌, ◌<◌, ◌≤◌}
use Rattle.std.specs.Prelude.{List, ◌≡◌, refl, length, set}
use Rattle.std.proofs.Math.Path.{ap}
use Rattle.std.proofs.Common.{◌∙◌, mul_assoc, length-append}
use Rattle.std.proofs.Math.Nat.{pow-succ'}
use native.Mathlib.Omega.{arith}
use Rattle.frames.specs.Hex.{hex_digit, hex}
use Rattle.frames.specs.Pasted.{pasted, pasted_none, pasted_last}

pub hex_length : (n v : ℕ) → length (hex n v) ≡ n
unfolding hex
hex_length zero v = refl
hex_length (suc n) v = simp (length-append, hex_length n (v / 16)) (omega arith)

-- What a number has above its last n digits does not count: of 8 digits, all from 2^32 on.
pub hex_low : (n v k : ℕ) → hex n (v + 16 ^ n * k) ≡ hex n v
unfolding hex
hex_low zero v k = refl
hex_low (suc n) v k =
    let more : v + 16 ^ suc n * k ≡ v + 16 * (16 ^ n * k) = rw (pow-succ' 16 n, mul_assoc 16 (16 ^ n) k) in
    let above : (v + 16 ^ suc n * k) / 16 ≡ v / 16 + 16 ^ n * k = rw more (omega arith) in
    let digit : (v + 16 ^ suc n * k) % 16 ≡ v % 16 = rw more (omega arith) in
    rw (above, digit, hex_low n (v / 16) k)

-- ---- a loop's steps
module _ (at : ℕ) (out : List ℕ) (v : ℕ) where
  pub hex_done : (left : ℕ) → left ≤ 0 → pasted at (hex left v) out ≡ out
  unfolding hex
  hex_done left h = let none : left ≡ 0 = omega arith in rw none (pasted_none out at)

  pub hex_more : (left : ℕ) → 0 < left → at + left ≤ length out
      → pasted at (hex left v) out ≡ pasted at (hex (left - 1) (v / 16)) (set out (at + (left - 1)) (hex_digit (v % 16)))
  unfolding hex
  hex_more left h fits =
      let n = left - 1 in
      let some : left ≡ suc n = omega arith in
      ap (λ (k : ℕ). pasted at (hex k v) out) some
      ∙ pasted_last out at n (hex_digit (v % 16)) (hex n (v / 16)) (hex_length n (v / 16)) (omega arith)
