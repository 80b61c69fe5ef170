-- Laws: how a loop over the columns reads a number, that one of n digits is below 10 to the n, and that what was written is read back.
use Prim.Native.Nat.{ℕ, zero, suc, ◌+◌, ◌-◌, ◌*◌, ◌/◌, ◌%◌, ◌^◌, ◌<◌, ◌≤◌}
use Rattle.std.specs.Prelude.{◌≡◌, refl, Bool, true, false, ◌||◌, List, ◌⊎◌, eqb, ltb, length, get_or, set, take, if◌then◌else◌}
use Rattle.std.proofs.Common.{sym, ap, ◌∙◌, inl, inr, add-zero, pow-suc, lit<, length-set, get_or-set_same, get_or-set_other, get_or-take}
use Rattle.std.proofs.Math.Nat.{pow-zero, pow-le-pow_right, one-le-pow}
use native.Mathlib.Omega.{arith}
use borrow.Author.Tests.{lt-ltb, le-ltb, ne_eqb}
use Rattle.laws.specs.Finding.{Finding, fine, broken, or_else, first_of, Reading, value, refused, finding_in}
use Rattle.laws.specs.LoopSteps.{left_suc, left_none}
use Rattle.chars.specs.Characters.{capitals, is_digit}
use Rattle.chars.specs.Agree.{Agree}
use Rattle.chars.specs.CharacterLaws.{capital_at, capital_is_digit, capital_of_digit, digit_range, digit_is}
use Rattle.chars.specs.Columns.{width_of, allowed_test, every_column}
use Rattle.chars.specs.ColumnLaws.{column_says, every_says}
use Rattle.chars.specs.declared.columns.Allowed.TheVariants.{Digits}
use Rattle.number.specs.Numbers.{number_from, number_in, value_of, value_in, put_digits, put_number}

-- The value of a field is that of its reading.
pub value_says : (line : List ℕ) (first last : ℕ) → value_in line first last ≡ value_of (number_in line first last)
unfolding value_in
value_says line first last = refl

-- ---- a loop's steps, at a place before `end`
module _ (line : List ℕ) (v at end : ℕ) where
  pub number_done : end ≤ at → number_from line v at (end - at) ≡ value v
  unfolding number_from
  number_done h = rw (left_none end at h)

  module _ (c : ℕ) (here : c ≡ get_or line at 0) (h : at < end) where
    pub number_bad : is_digit c ≡ false → number_from line v at (end - at) ≡ refused (at + 1) 30
    unfolding number_from
    number_bad d = rw (left_suc end at h, ← here, d)

    pub number_more : is_digit c ≡ true → number_from line v at (end - at) ≡ number_from line (v * 10 + (c - 48)) (at + 1) (end - (at + 1))
    unfolding number_from
    number_more d = rw (left_suc end at h, ← here, d)

-- ---- the widths
module _ (line : List ℕ) (first last : ℕ) where
  pub no_width : last ≤ first - 1 → number_in line first last ≡ refused first 30
  unfolding number_in
  no_width h = rw (left_none last (first - 1) h)

  pub wide_width : 19 < width_of first last → number_in line first last ≡ refused first 30
  unfolding number_in
  wide_width h = rw (ne_eqb (width_of first last) 0 (λ e. omega arith), lt-ltb 19 (width_of first last) h)

  pub good_width : first - 1 < last → width_of first last ≤ 19 → number_in line first last ≡ number_from line 0 (first - 1) (width_of first last)
  unfolding number_in
  good_width h l = rw (ne_eqb (width_of first last) 0 (λ e. omega arith), le-ltb 19 (width_of first last) l)

-- ---- the size
-- a digit more
pub more_digits : (v d k : ℕ) → v < 10 ^ k → d ≤ 9 → v * 10 + d < 10 ^ suc k
more_digits v d k h l = rw pow-suc (omega arith)

ten : 0 < 10
ten = lit< tt

pub digits_fit : (v d k : ℕ) → v < 10 ^ k → d ≤ 9 → suc k ≤ 19 → v * 10 + d < 2 ^ 64
digits_fit v d k h l b = omega (arith, more_digits v d k h l, pow-le-pow_right ten b)

pub next_digits : (v d from at : ℕ) → from ≤ at → v < 10 ^ (at - from) → d ≤ 9 → v * 10 + d < 10 ^ (at + 1 - from)
next_digits v d from at l h b =
    let past : at + 1 - from ≡ suc (at - from) = omega arith in
    rw past (more_digits v d (at - from) h b)

no_value : (column number v : ℕ) → refused column number ≡ value v → ⊥
no_value column number v e = let z : ◌≡◌ {A = ℕ} 0 1 = cc in omega arith

-- where a choice reads as a value, it was not the refusal
pub chose_first : (t : Bool) (x : Reading) (column number v : ℕ) → (if t then x else refused column number) ≡ value v → (t ≡ true) × (x ≡ value v)
chose_first true x column number v e = (refl, e)
chose_first false x column number v e = absurd (no_value column number v e)

chose_second : (t : Bool) (x : Reading) (column number v : ℕ) → (if t then refused column number else x) ≡ value v → (t ≡ false) × (x ≡ value v)
chose_second true x column number v e = absurd (no_value column number v e)
chose_second false x column number v e = (refl, e)

from_below : (n k : ℕ) (line : List ℕ) (v at r : ℕ) → v < 10 ^ k → number_from line v at n ≡ value r → r < 10 ^ (k + n)
unfolding number_from
from_below zero k line v at r l e = let q : v ≡ r = cc in rw (add-zero, ← q) l
from_below (suc n) k line v at r l e =
    let h = chose_first (is_digit (get_or line at 0)) (number_from line (v * 10 + (get_or line at 0 - 48)) (at + 1) n) (at + 1) 30 r e in
    let d = digit_range (get_or line at 0) h.0 in
    let p : k + suc n ≡ suc k + n = omega arith in
    rw p
    (from_below n (suc k) line (v * 10 + (get_or line at 0 - 48)) (at + 1) r (more_digits v (get_or line at 0 - 48) k l (omega arith)) h.1)

-- A number read from a field is below 10 to the field's width.
pub number_below : (line : List ℕ) (first last v : ℕ) → number_in line first last ≡ value v → v < 10 ^ width_of first last
unfolding number_in
number_below line first last v e =
    let w = width_of first last in
    let h = chose_second (eqb w 0 || ltb 19 w) (number_from line 0 (first - 1) w) first 30 v e in
    let z : 0 + w ≡ w = omega arith in
    rw (← z) (from_below w 0 line 0 (first - 1) v (rw pow-zero (omega arith)) h.1)

reading_below : (r : Reading) (n : ℕ) → ((v : ℕ) → r ≡ value v → v < 10 ^ n) → value_of r < 10 ^ n
reading_below (value v) n below = below v refl
reading_below (refused column number) n below = one-le-pow n 10 ten

-- So is the field's value, which is 0 where it reads as none.
pub value_below : (line : List ℕ) (first last : ℕ) → value_in line first last < 10 ^ width_of first last
unfolding value_in
value_below line first last = reading_below (number_in line first last) (width_of first last) (number_below line first last)

-- ---- the columns that a number is read from
from_alike : (n : ℕ) (u v : List ℕ) (w at : ℕ) → Agree u v (at + 1) (at + n) → number_from u w at n ≡ number_from v w at n
unfolding number_from
from_alike zero u v w at agree = refl
from_alike (suc n) u v w at agree =
    let c = get_or v at 0 in
    rw (agree at (omega arith) (omega arith), from_alike n u v (w * 10 + (c - 48)) (at + 1) (λ k low high. agree k (omega arith) (omega arith)))

-- A field reads the same in lines that agree in its columns.
pub number_alike : (u v : List ℕ) (first last : ℕ) → Agree u v first last → number_in u first last ≡ number_in v first last
unfolding number_in
number_alike u v first last agree =
    rw (from_alike (width_of first last) u v 0 (first - 1) (λ k low high. agree k (omega arith) (omega arith)))

pub value_alike : (u v : List ℕ) (first last : ℕ) → Agree u v first last → value_in u first last ≡ value_in v first last
unfolding value_in
value_alike u v first last agree = ap value_of (number_alike u v first last agree)

-- So it does in the first n columns, if it ends in column n or before.
pub number_in_front : (n : ℕ) (line : List ℕ) (first last : ℕ) → last ≤ n → number_in (take n line) first last ≡ number_in line first last
number_in_front n line first last h = number_alike (take n line) line first last (λ at low high. get_or-take n line at 0 (omega arith))

pub value_in_front : (n : ℕ) (line : List ℕ) (first last : ℕ) → last ≤ n → value_in (take n line) first last ≡ value_in line first last
unfolding value_in
value_in_front n line first last h = ap value_of (number_in_front n line first last h)

-- ---- writing: a loop's steps, from the last place down to `from`
module _ (line : List ℕ) (from at v : ℕ) where
  pub put_done : at ≤ from → put_digits line at (at - from) v ≡ line
  unfolding put_digits
  put_done h = rw (left_none at from h)

  pub put_more : from < at → put_digits line at (at - from) v ≡ put_digits (set line (at - 1) (48 + v % 10)) (at - 1) (at - 1 - from) (v / 10)
  unfolding put_digits
  put_more h = let e : at - from ≡ suc (at - 1 - from) = omega arith in rw e

-- ---- reading back
-- Before and after the places that are written the line is as it was.
pub put_untouched : (n : ℕ) (line : List ℕ) (end v j : ℕ) → n ≤ end → (j + n < end) ⊎ (end ≤ j) → get_or (put_digits line end n v) j 0 ≡ get_or line j 0
unfolding put_digits
put_untouched zero line end v j l h = refl
put_untouched (suc n) line end v j l h =
    let line' = set line (end - 1) (48 + v % 10) in
    elim h [
      | inl before ↦ put_untouched n line' (end - 1) (v / 10) j (omega arith) (inl (omega arith)) ∙ get_or-set_other line (end - 1) j (48 + v % 10) 0 (λ q. omega arith)
      | inr behind ↦ put_untouched n line' (end - 1) (v / 10) j (omega arith) (inr (omega arith)) ∙ get_or-set_other line (end - 1) j (48 + v % 10) 0 (λ q. omega arith)
    ]

abbrev one_more : List ℕ → ℕ → Reading → Reading
one_more line at (value v) = if is_digit (get_or line at 0) then value (v * 10 + (get_or line at 0 - 48)) else refused (at + 1) 30
one_more line at (refused column number) = refused column number

over_choice : (f : Reading → Reading) (t : Bool) (x y : Reading) → f (if t then x else y) ≡ (if t then f x else f y)
over_choice f true x y = refl
over_choice f false x y = refl

-- The last column, told apart.
number_last : (n : ℕ) (line : List ℕ) (v at : ℕ) → number_from line v at (suc n) ≡ one_more line (at + n) (number_from line v at n)
unfolding number_from
number_last zero line v at = rw add-zero
number_last (suc n) line v at =
    let p : at + 1 + n ≡ at + suc n = omega arith in
    let h = number_last n line (v * 10 + (get_or line at 0 - 48)) (at + 1) in
    ap (λ (x : Reading). if is_digit (get_or line at 0) then x else refused (at + 1) 30) h
    ∙ rw p (sym (over_choice (one_more line (at + suc n)) (is_digit (get_or line at 0)) (number_from line (v * 10 + (get_or line at 0 - 48)) (at + 1) n) (refused (at + 1) 30)))

from_read_back : (n : ℕ) (line : List ℕ) (from v : ℕ) → from + n ≤ length line → v < 10 ^ n
    → number_from (put_digits line (from + n) n v) 0 from n ≡ value v
unfolding put_digits number_from
from_read_back zero line from v h l = let z : v ≡ 0 = omega (arith, rw pow-zero at l) in rw z
from_read_back (suc n) line from v h l =
    let e : from + suc n - 1 ≡ from + n = omega arith in
    let line' = set line (from + n) (48 + v % 10) in
    let written = put_digits line' (from + n) n (v / 10) in
    let front : number_from written 0 from n ≡ value (v / 10) =
    from_read_back n line' from (v / 10) (rw length-set (omega arith)) (omega (arith, rw pow-suc at l)) in
    let last : get_or written (from + n) 0 ≡ 48 + v % 10 =
    put_untouched n line' (from + n) (v / 10) (from + n) (omega arith) (inr (omega arith))
    ∙ get_or-set_same line (from + n) (48 + v % 10) 0 (omega arith) in
    let val : v / 10 * 10 + (48 + v % 10 - 48) ≡ v = omega arith in
    let same : put_digits line (from + suc n) (suc n) v ≡ written = rw e in
    ap (λ (w : List ℕ). number_from w 0 from (suc n)) same ∙ number_last n written 0 from ∙ rw (front, last, digit_is (v % 10) (omega arith), val)

-- Reading what was written gives it back.
pub read_back : (line : List ℕ) (first last v : ℕ) → 1 ≤ first → first ≤ last → last ≤ length line → width_of first last ≤ 19 → v < 10 ^ width_of first last
    → number_in (put_number line first last v) first last ≡ value v
unfolding put_number
read_back line first last v h k l w b =
    let e : first - 1 + width_of first last ≡ last = omega arith in
    good_width (put_digits line last (width_of first last) v) first last (omega arith) w
    ∙ rw e at (from_read_back (width_of first last) line (first - 1) v (omega arith) b)

-- Writing leaves the line's length.
pub put_length : (n : ℕ) (line : List ℕ) (end v : ℕ) → length (put_digits line end n v) ≡ length line
unfolding put_digits
put_length zero line end v = refl
put_length (suc n) line end v = put_length n (set line (end - 1) (48 + v % 10)) (end - 1) (v / 10) ∙ length-set line (end - 1) (48 + v % 10)

-- ---- capitals
where_true : (t : Bool) (x y z : Reading) → (t ≡ true → x ≡ y) → (if t then x else z) ≡ (if t then y else z)
where_true true x y z e = e refl
where_true false x y z e = refl

from_capitals : (n : ℕ) (line : List ℕ) (v at : ℕ) → number_from (capitals line) v at n ≡ number_from line v at n
unfolding number_from
from_capitals zero line v at = refl
from_capitals (suc n) line v at =
    let c = get_or line at 0 in
    rw (capital_at line at, capital_is_digit c)
    (where_true (is_digit c) _ _ _ (λ d. rw (capital_of_digit c d) (from_capitals n line (v * 10 + (c - 48)) (at + 1))))

-- A number reads the same in capitals.
pub number_capitals : (line : List ℕ) (first last : ℕ) → number_in (capitals line) first last ≡ number_in line first last
unfolding number_in
number_capitals line first last = rw (from_capitals (width_of first last) line 0 (first - 1))

-- ---- the class test and the reader
over_digits : (t : Bool) (x : Reading) (rest : Finding) (at : ℕ) → finding_in x ≡ rest
    → finding_in (if t then x else refused (at + 1) 30) ≡ or_else (if t then fine else broken (at + 1) 30) rest
over_digits true x rest at e = e
over_digits false x rest at e = refl

from_digits : (n : ℕ) (line : List ℕ) (v at : ℕ) → finding_in (number_from line v at n) ≡ first_of (allowed_test Digits line) at n
unfolding number_from first_of
from_digits zero line v at = refl
from_digits (suc n) line v at =
    let c = get_or line at 0 in
    rw (column_says is_digit 30 line at)
    (over_digits (is_digit c) (number_from line (v * 10 + (c - 48)) (at + 1) n) _ at (from_digits n line (v * 10 + (c - 48)) (at + 1)))

-- The class test "all digits (30 at the first that is not)" finds what the reader finds.
pub digits_read : (line : List ℕ) (first last : ℕ) → first - 1 < last → width_of first last ≤ 19
    → finding_in (number_in line first last) ≡ every_column Digits line first last
digits_read line first last h w =
    ap finding_in (good_width line first last h w) ∙ from_digits (width_of first last) line 0 (first - 1) ∙ sym (every_says Digits line first last)
