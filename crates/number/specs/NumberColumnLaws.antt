-- Laws: writing a number leaves all other columns, and a number of a given width stands in its columns in one way only.
use Rattle.std.specs.Prelude.{ℕ, zero, suc, ◌+◌, ◌-◌, ◌*◌, ◌<◌, ◌≤◌, ◌≡◌, refl, List, ◌⊎◌, length, get_or}
use Rattle.std.proofs.Common.{sym, ◌∙◌, inl, inr, add-zero, arith}
use Rattle.std.proofs.Math.Path.{ap}
use Rattle.laws.specs.Finding.{fine, Reading, value, refused, finding_in}
use Rattle.chars.specs.Characters.{is_digit}
use Rattle.chars.specs.CharacterLaws.{digit_range}
use Rattle.chars.specs.Columns.{width_of, every_column}
use Rattle.chars.specs.ColumnLaws.{fine_columns, digit_column}
use Rattle.chars.specs.declared.columns.Allowed.TheVariants.{Digits}
use Rattle.number.specs.Numbers.{number_from, number_in, value_of, value_in, put_number}
use Rattle.number.specs.NumberLaws.{good_width, chose_first, put_untouched, put_length, digits_read}

-- ---- writing
module _ (line : List ℕ) (first last v : ℕ) where
  pub put_number_length : length (put_number line first last v) ≡ length line
  unfolding put_number
  put_number_length = put_length (width_of first last) line last v

  -- Every column before and after the number's stays as it was.
  pub put_number_elsewhere : first - 1 ≤ last → (j : ℕ) → (j < first - 1) ⊎ (last ≤ j) → get_or (put_number line first last v) j 0 ≡ get_or line j 0
  unfolding put_number
  put_number_elsewhere h j (inl before) = put_untouched (width_of first last) line last v j (omega arith) (inl (omega arith))
  put_number_elsewhere h j (inr behind) = put_untouched (width_of first last) line last v j (omega arith) (inr behind)

-- ---- one way only
-- Two runs of n columns that read as one number had one number in front and hold the same digits.
from_same : (n : ℕ) (a b : List ℕ) (v w at r : ℕ) → number_from a v at n ≡ value r → number_from b w at n ≡ value r
    → (v ≡ w) × ((k : ℕ) → k < n → get_or a (at + k) 0 ≡ get_or b (at + k) 0)
unfolding number_from
from_same zero a b v w at r e f = (cc, λ k h. absurd (omega arith))
from_same (suc n) a b v w at r e f =
    let c = get_or a at 0 in
    let d = get_or b at 0 in
    let p = chose_first (is_digit c) (number_from a (v * 10 + (c - 48)) (at + 1) n) (at + 1) 30 r e in
    let q = chose_first (is_digit d) (number_from b (w * 10 + (d - 48)) (at + 1) n) (at + 1) 30 r f in
    let x = digit_range c p.0 in
    let y = digit_range d q.0 in
    let rest = from_same n a b (v * 10 + (c - 48)) (w * 10 + (d - 48)) (at + 1) r p.1 q.1 in
    let front : v ≡ w = omega arith in
    let here : c ≡ d = omega arith in
    (front, next here rest.1) where
      next : get_or a at 0 ≡ get_or b at 0 → ((k : ℕ) → k < n → get_or a (at + 1 + k) 0 ≡ get_or b (at + 1 + k) 0)
          → (k : ℕ) → k < suc n → get_or a (at + k) 0 ≡ get_or b (at + k) 0
      next here rest zero h = rw add-zero here
      next here rest (suc k) h = let p : at + suc k ≡ at + 1 + k = omega arith in rw p (rest k (omega arith))

module _ (a b : List ℕ) (first last : ℕ) (h : first - 1 < last) (w : width_of first last ≤ 19) where
  pub same_digits : (v : ℕ) → number_in a first last ≡ value v → number_in b first last ≡ value v
      → (k : ℕ) → first - 1 ≤ k → k < last → get_or a k 0 ≡ get_or b k 0
  same_digits v e f k low high =
      let p = sym (good_width a first last h w) ∙ e in
      let q = sym (good_width b first last h w) ∙ f in
      let same = (from_same (width_of first last) a b 0 0 (first - 1) v p q).1 (k - (first - 1)) (omega arith) in
      let place : first - 1 + (k - (first - 1)) ≡ k = omega arith in
      rw place at same

-- The same columns read as the same number.
from_alike : (n : ℕ) (a b : List ℕ) (v at : ℕ) → ((k : ℕ) → at ≤ k → k < at + n → get_or a k 0 ≡ get_or b k 0) → number_from a v at n ≡ number_from b v at n
unfolding number_from
from_alike zero a b v at same = refl
from_alike (suc n) a b v at same =
    let rest = from_alike n a b (v * 10 + (get_or b at 0 - 48)) (at + 1) (λ k low high. same k (omega arith) (omega arith)) in
    rw (same at (omega arith) (omega arith), rest)

pub number_alike : (a b : List ℕ) (first last : ℕ) → first - 1 ≤ last → ((k : ℕ) → first - 1 ≤ k → k < last → get_or a k 0 ≡ get_or b k 0)
    → number_in a first last ≡ number_in b first last
unfolding number_in
number_alike a b first last h same =
    rw (from_alike (width_of first last) a b 0 (first - 1) (λ k low high. same k low (omega arith)))

-- ---- the class test and the value
is_value : (r : Reading) → finding_in r ≡ fine → r ≡ value (value_of r)
is_value (value v) e = refl
is_value (refused column number) e = let z : ◌≡◌ {A = ℕ} 0 1 = cc in absurd (omega arith)

module _ (line : List ℕ) (first last : ℕ) (h : first - 1 < last) (w : width_of first last ≤ 19) where
  -- Digits in every column, and the value, are the reading,
  pub reads_value : (v : ℕ) → every_column Digits line first last ≡ fine → value_in line first last ≡ v → number_in line first last ≡ value v
  unfolding value_in
  reads_value v digits e = is_value (number_in line first last) (digits_read line first last h w ∙ digits) ∙ ap value e

  -- and the other way.
  pub value_reads : (v : ℕ) → number_in line first last ≡ value v → (every_column Digits line first last ≡ fine) × (value_in line first last ≡ v)
  unfolding value_in
  value_reads v e = (sym (digits_read line first last h w) ∙ ap finding_in e, ap value_of e)

  pub number_digits : (v : ℕ) → number_in line first last ≡ value v → (k : ℕ) → first - 1 ≤ k → k < last → (48 ≤ get_or line k 0) × (get_or line k 0 ≤ 57)
  number_digits v e k low high = digit_column line k (fine_columns Digits line first last (value_reads v e).0 k low high)
