-- Laws: short texts are the same exactly if they are as numbers; and how the code reads them.
use Rattle.std.specs.Prelude.{ℕ, zero, suc, ◌+◌, ◌-◌, ◌*◌, ◌^◌, ◌≤◌, ◌<◌, List, ◌≡◌, refl, Bool, true, false, ltb, get_or, take, if◌then◌else◌}
use Rattle.std.proofs.Common.{sym, ap, ◌∙◌, add-zero, pow-suc, get_or-take, lt-ltb, le-ltb, ltb-true, ltb-false}
use Rattle.std.proofs.Math.Nat.{pow-le-pow_right}
use native.Mathlib.Omega.{arith}
use Rattle.chars.specs.Agree.{Agree}
use Rattle.chars.specs.Columns.{width_of}
use Rattle.number.specs.Letters.{letters_from, letters_in}

-- ---- the size
some : 0 < 256
some = omega arith

pub next_letters : (v c from at : ℕ) → from ≤ at → v < 256 ^ (at - from) → c < 256 → v * 256 + c < 256 ^ (at + 1 - from)
next_letters v c from at l h b =
    let past : at + 1 - from ≡ suc (at - from) = omega arith in
    rw (past, pow-suc) (omega arith)

pub letters_fit : (v c k : ℕ) → v < 256 ^ k → c < 256 → suc k ≤ 7 → v * 256 + c < 2 ^ 64
letters_fit v c k h b s =
    let more : v * 256 + c < 256 ^ suc k = rw pow-suc (omega arith) in
    let most : 256 ^ suc k ≤ 256 ^ 7 = pow-le-pow_right some s in
    omega (arith, more, most)

-- ---- a column more
pub letters_more : (line : List ℕ) (v at end : ℕ) → at < end → letters_from line v at (end - at) ≡ letters_from line (v * 256 + get_or line at 0) (at + 1) (end - (at + 1))
unfolding letters_from
letters_more line v at end h = let left : end - at ≡ suc (end - (at + 1)) = omega arith in rw left

pub letters_done : (line : List ℕ) (v at end : ℕ) → end ≤ at → letters_from line v at (end - at) ≡ v
unfolding letters_from
letters_done line v at end h = let none : end - at ≡ 0 = omega arith in rw none

module _ (line : List ℕ) (first last : ℕ) where
  pub too_many : 7 < width_of first last → letters_in line first last ≡ 0
  unfolding letters_in
  too_many h = rw (lt-ltb 7 (width_of first last) h)

  pub few_lettered : width_of first last ≤ 7 → letters_in line first last ≡ letters_from line 0 (first - 1) (last - (first - 1))
  unfolding letters_in
  few_lettered h = rw (le-ltb 7 (width_of first last) h)

-- ---- which columns are read
from_alike : (n : ℕ) (u v : List ℕ) (w at : ℕ) → ((k : ℕ) → k < n → get_or u (at + k) 0 ≡ get_or v (at + k) 0) → letters_from u w at n ≡ letters_from v w at n
unfolding letters_from
from_alike zero u v w at agree = refl
from_alike (suc n) u v w at agree =
    let here : get_or u at 0 ≡ get_or v at 0 = rw add-zero at (agree 0 (omega arith)) in
    rw here (from_alike n u v (w * 256 + get_or v at 0) (at + 1) (λ k h. rw (next at k) (agree (suc k) (omega arith)))) where
      next : (at k : ℕ) → at + 1 + k ≡ at + suc k
      next at k = omega arith

pub letters_alike : (u v : List ℕ) (first last : ℕ) → Agree u v first last → letters_in u first last ≡ letters_in v first last
unfolding letters_in
letters_alike u v first last agree =
    ap (λ (n : ℕ). if ltb 7 (width_of first last) then 0 else n)
    (from_alike (width_of first last) u v 0 (first - 1) (λ k h. agree (first - 1 + k) (omega arith) (omega arith)))

-- They stand in the first columns of the line.
pub letters_in_front : (n : ℕ) (line : List ℕ) (first last : ℕ) → last ≤ n → letters_in (take n line) first last ≡ letters_in line first last
letters_in_front n line first last h = letters_alike (take n line) line first last (λ at low high. get_or-take n line at 0 (omega arith))

-- ---- they are small
from_small : (n : ℕ) (line : List ℕ) (w at k : ℕ) → w < 256 ^ k → ((j : ℕ) → get_or line j 0 < 256) → letters_from line w at n < 256 ^ (k + n)
unfolding letters_from
from_small zero line w at k small bytes = rw add-zero small
from_small (suc n) line w at k small bytes =
    let more : w * 256 + get_or line at 0 < 256 ^ suc k = rw pow-suc (let b = bytes at in omega arith) in
    let same : suc k + n ≡ k + suc n = omega arith in
    rw (← same) (from_small n line (w * 256 + get_or line at 0) (at + 1) (suc k) more bytes)

-- ---- the same numbers are of the same texts
letters_last : (n : ℕ) (line : List ℕ) (w at : ℕ) → letters_from line w at (suc n) ≡ letters_from line w at n * 256 + get_or line (at + n) 0
unfolding letters_from
letters_last zero line w at = rw add-zero
letters_last (suc n) line w at =
    let same : at + 1 + n ≡ at + suc n = omega arith in
    letters_last n line (w * 256 + get_or line at 0) (at + 1) ∙ rw same

from_same : (n : ℕ) (u v : List ℕ) (at bt : ℕ) → ((j : ℕ) → get_or u j 0 < 256) → ((j : ℕ) → get_or v j 0 < 256) → letters_from u 0 at n ≡ letters_from v 0 bt n
    → (k : ℕ) → k < n → get_or u (at + k) 0 ≡ get_or v (bt + k) 0
from_same zero u v at bt small small' e k h = absurd (omega arith)
from_same (suc n) u v at bt small small' e k h =
    let both : letters_from u 0 at n * 256 + get_or u (at + n) 0 ≡ letters_from v 0 bt n * 256 + get_or v (bt + n) 0 =
    sym (letters_last n u 0 at) ∙ e ∙ letters_last n v 0 bt in
    let before : letters_from u 0 at n ≡ letters_from v 0 bt n = let s = small (at + n) in let t = small' (bt + n) in omega (arith, both) in
    let here : get_or u (at + n) 0 ≡ get_or v (bt + n) 0 = omega (arith, both, before) in
    by (ltb k n) refl (from_same n u v at bt small small' before k) here where
      by : (less : Bool) → ltb k n ≡ less → (k < n → get_or u (at + k) 0 ≡ get_or v (bt + k) 0) → get_or u (at + n) 0 ≡ get_or v (bt + n) 0 → get_or u (at + k) 0 ≡ get_or v (bt + k) 0
      by true less earlier here = earlier (ltb-true k n less)
      by false last earlier here = let is : k ≡ n = let low = ltb-false k n last in omega arith in rw is here

pub letters_same : (u v : List ℕ) (first last first' last' : ℕ) → width_of first last ≤ 7 → width_of first last ≡ width_of first' last'
    → ((j : ℕ) → get_or u j 0 < 256) → ((j : ℕ) → get_or v j 0 < 256) → letters_in u first last ≡ letters_in v first' last'
    → (k : ℕ) → k < width_of first last → get_or u (first - 1 + k) 0 ≡ get_or v (first' - 1 + k) 0
letters_same u v first last first' last' few same small small' e =
    from_same (width_of first last) u v (first - 1) (first' - 1) small small'
    (sym (few_lettered u first last few) ∙ e ∙ few_lettered v first' last' (rw (← same) few) ∙ ap (letters_from v 0 (first' - 1)) (sym same))

pub letters_small : (line : List ℕ) (first last : ℕ) → ((j : ℕ) → get_or line j 0 < 256) → letters_in line first last < 256 ^ 7
letters_small line first last bytes = by (ltb 7 (width_of first last)) refl where
  by : (many : Bool) → ltb 7 (width_of first last) ≡ many → letters_in line first last < 256 ^ 7
  by true many = rw (too_many line first last (ltb-true 7 (width_of first last) many)) (omega arith)
  by false few =
      let w = ltb-false 7 (width_of first last) few in
      let small = from_small (width_of first last) line 0 (first - 1) 0 (omega arith) bytes in
      let less : 0 + width_of first last ≤ 7 = omega arith in
      let most = pow-le-pow_right some less in
      rw (few_lettered line first last w) (omega (arith, small, most))
