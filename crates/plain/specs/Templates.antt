-- Laws: the two records, column by column.
use Rattle.std.specs.Prelude.{ℕ, ◌+◌, ◌-◌, ◌≤◌, ◌<◌, Bool, true, List, ◌⊎◌, ◌≡◌, refl, T, eqb, leb, length, get_or, take, drop}
use Rattle.std.proofs.Math.Logic.{inl, inr}
use Rattle.std.proofs.Common.{◌∙◌, eqb-true, leb-true, length-take, length-drop, get_or-take, get_or-drop}
use native.Mathlib.Omega.{arith}
use Rattle.laws.specs.ChoiceLaws.{both_hold}
use Rattle.laws.specs.Finding.{value}
use Rattle.laws.specs.Table.{every, at}
use Rattle.laws.specs.Spelling.{bytes}
use Rattle.calendar.specs.Laws.{allowed_year, allowed_month, quarter_month_range}
use Rattle.calendar.specs.Quarters.{is_allowed}
use Rattle.calendar.specs.declared.Quarter.{Quarter}
use Rattle.chars.specs.Columns.{width_of}
use Rattle.number.specs.NumberColumnLaws.{put_number_length, put_number_elsewhere, same_digits, number_digits}
use Rattle.number.specs.NumberLaws.{number_alike, read_back}
use Rattle.number.specs.Numbers.{number_in, put_number}
use Rattle.text.specs.Put.{put_text}
use Rattle.plain.specs.Sweeps.{side}
use Rattle.plain.specs.Plain.{lowest_of_all, highest_of_all, of_employer, lowest, highest, fits}

-- ---- a test of each character in some columns of a record, computed once
abbrev each_in : (ℕ → Bool) → List ℕ → ℕ → ℕ → Bool
each_in test line first last = every (λ (i c : ℕ). test c) 0 0 (take (width_of first last) (drop (first - 1) line))

each_in_lem : (test : ℕ → Bool) (line : List ℕ) (first last : ℕ) → last ≤ length line → T (each_in test line first last)
    → (k : ℕ) → first - 1 ≤ k → k < last → test (get_or line k 0) ≡ true
each_in_lem test line first last fit passes k low high =
    let i = k - (first - 1) in
    let part = take (width_of first last) (drop (first - 1) line) in
    let place : first - 1 + i ≡ k = omega arith in
    let inside : i < length part = rw (length-take, length-drop) (omega arith) in
    let same : get_or part i 0 ≡ get_or line (first - 1 + i) 0 = get_or-take (width_of first last) (drop (first - 1) line) i 0 (omega arith) ∙ get_or-drop (first - 1) line i 0 in
    rw (same, place) at (at (λ (j c : ℕ). test c) 0 part passes i inside)

low_long : length lowest_of_all ≡ 290
unfolding lowest_of_all bytes put_text
low_long = refl

high_long : length highest_of_all ≡ 290
unfolding highest_of_all bytes put_text
high_long = refl

-- Columns whose characters lie between `low` and `high`, whoever the employer is.
abbrev pub Span : ℕ → ℕ → ℕ → ℕ → Type 0
Span low high first last = (k : ℕ) → first - 1 ≤ k → k < last → (low ≤ get_or lowest_of_all k 0) × (get_or highest_of_all k 0 ≤ high)

span : (low high first last : ℕ) → last ≤ 290 → T (each_in (leb low) lowest_of_all first last) → T (each_in (λ c. leb c high) highest_of_all first last)
    → Span low high first last
span low high first last fit above below k from to = (
  leb-true low (get_or lowest_of_all k 0) (each_in_lem (leb low) lowest_of_all first last (rw low_long fit) above k from to),
  leb-true (get_or highest_of_all k 0) high (each_in_lem (λ c. leb c high) highest_of_all first last (rw high_long fit) below k from to),
)

-- The letter S, the identity number, the names and their first columns, the wages, the code.
pub letter_span : Span 83 83 1 1
unfolding lowest_of_all highest_of_all bytes put_text
letter_span = span 83 83 1 1 (omega arith) tt tt

pub digit_spans : Span 48 57 2 10 × Span 48 57 64 77
unfolding lowest_of_all highest_of_all bytes put_text
digit_spans = (span 48 57 2 10 (omega arith) tt tt, span 48 57 64 77 (omega arith) tt tt)

pub name_spans : Span 33 122 11 11 × Span 33 122 31 31
unfolding lowest_of_all highest_of_all bytes put_text
name_spans = (span 33 122 11 11 (omega arith) tt tt, span 33 122 31 31 (omega arith) tt tt)

pub blank_spans : Span 32 32 43 45 × Span 32 32 52 63 × Span 32 32 78 142 × Span 32 32 156 290
unfolding lowest_of_all highest_of_all bytes put_text
blank_spans = (
  span 32 32 43 45 (omega arith) tt tt,
  span 32 32 52 63 (omega arith) tt tt,
  span 32 32 78 142 (omega arith) tt tt,
  span 32 32 156 290 (omega arith) tt tt,
)

pub code_spans : Span 80 80 143 143 × Span 70 70 144 144 × Span 77 77 145 145 × Span 76 76 146 146
unfolding lowest_of_all highest_of_all bytes put_text
code_spans = (
  span 80 80 143 143 (omega arith) tt tt,
  span 70 70 144 144 (omega arith) tt tt,
  span 77 77 145 145 (omega arith) tt tt,
  span 76 76 146 146 (omega arith) tt tt,
)

-- No line end stands anywhere, and no small letter outside the names.
pub all_span : Span 32 122 1 290
unfolding lowest_of_all highest_of_all bytes put_text
all_span = span 32 122 1 290 (omega arith) tt tt

pub large_spans : Span 32 96 1 10 × Span 32 96 43 290
unfolding lowest_of_all highest_of_all bytes put_text
large_spans = (span 32 96 1 10 (omega arith) tt tt, span 32 96 43 290 (omega arith) tt tt)

-- Where numbers of the employer and of A's quarter are put, every digit may stand.
low_digits : (k : ℕ) → ((45 ≤ k) × (k < 51)) ⊎ ((146 ≤ k) × (k < 155)) → get_or lowest_of_all k 0 ≡ 48
unfolding lowest_of_all bytes put_text
low_digits k (inl h) = eqb-true _ 48 (each_in_lem (λ c. eqb c 48) lowest_of_all 46 51 (omega arith) tt k h.0 h.1)
low_digits k (inr h) = eqb-true _ 48 (each_in_lem (λ c. eqb c 48) lowest_of_all 147 155 (omega arith) tt k h.0 h.1)

high_digits : (k : ℕ) → ((45 ≤ k) × (k < 51)) ⊎ ((146 ≤ k) × (k < 155)) → get_or highest_of_all k 0 ≡ 57
unfolding highest_of_all bytes put_text
high_digits k (inl h) = eqb-true _ 57 (each_in_lem (λ c. eqb c 57) highest_of_all 46 51 (omega arith) tt k h.0 h.1)
high_digits k (inr h) = eqb-true _ 57 (each_in_lem (λ c. eqb c 57) highest_of_all 147 155 (omega arith) tt k h.0 h.1)

-- ---- the records of an employer
-- The columns of a record lie between those of the two.
abbrev pub Between : ℕ → Quarter → List ℕ → Type 0
Between fein filed s = (k : ℕ) → k < 290 → (get_or (lowest fein filed) k 0 ≤ get_or s k 0) × (get_or s k 0 ≤ get_or (highest fein filed) k 0)

-- A record with the numbers of an employer and of A's quarter put into it.
module _ (fein : ℕ) (filed : Quarter) (line : List ℕ) where
  abbrev with_month : List ℕ
  with_month = put_number line 46 47 filed.month

  abbrev with_year : List ℕ
  with_year = put_number with_month 48 51 filed.year

  abbrev whole : List ℕ
  whole = put_number with_year 147 155 fein

  -- All other columns are as they were.
  elsewhere : (k : ℕ) → (k < 45) ⊎ ((51 ≤ k) × (k < 146)) ⊎ (155 ≤ k) → get_or whole k 0 ≡ get_or line k 0
  elsewhere k (inl h) =
      put_number_elsewhere with_year 147 155 fein (omega arith) k (inl (omega arith))
      ∙ put_number_elsewhere with_month 48 51 filed.year (omega arith) k (inl (omega arith))
      ∙ put_number_elsewhere line 46 47 filed.month (omega arith) k (inl (omega arith))
  elsewhere k (inr (inl h)) =
      put_number_elsewhere with_year 147 155 fein (omega arith) k (inl (omega arith))
      ∙ put_number_elsewhere with_month 48 51 filed.year (omega arith) k (inr (omega arith))
      ∙ put_number_elsewhere line 46 47 filed.month (omega arith) k (inr (omega arith))
  elsewhere k (inr (inr h)) =
      put_number_elsewhere with_year 147 155 fein (omega arith) k (inr (omega arith))
      ∙ put_number_elsewhere with_month 48 51 filed.year (omega arith) k (inr (omega arith))
      ∙ put_number_elsewhere line 46 47 filed.month (omega arith) k (inr (omega arith))

module _ (fein : ℕ) (filed : Quarter) (fit : fits fein filed ≡ true) where
  pub quarter_fits : is_allowed filed ≡ true
  quarter_fits = (both_hold (leb fein 999999999) (is_allowed filed) fit).1

  -- Each number fits its columns.
  rooms : (filed.month < 100) × (filed.year < 10000) × (fein < 1000000000)
  rooms =
      let year = allowed_year filed quarter_fits in
      let month = quarter_month_range filed.month (allowed_month filed quarter_fits) in
      let small = leb-true fein 999999999 (both_hold (leb fein 999999999) (is_allowed filed) fit).0 in
      (omega arith, omega arith, omega arith)

  module _ (line : List ℕ) (long : length line ≡ 290) where
    abbrev monthly : List ℕ
    monthly = with_month fein filed line

    abbrev yearly : List ℕ
    yearly = with_year fein filed line

    abbrev all : List ℕ
    all = whole fein filed line

    month_long : length monthly ≡ 290
    month_long = put_number_length line 46 47 filed.month ∙ long

    year_long : length yearly ≡ 290
    year_long = put_number_length monthly 48 51 filed.year ∙ month_long

    -- Each number is read back,
    whole_month : number_in all 46 47 ≡ value filed.month
    whole_month =
        number_alike all yearly 46 47 (λ k low high. put_number_elsewhere yearly 147 155 fein (omega arith) k (inl (omega arith)))
        ∙ number_alike yearly monthly 46 47 (λ k low high. put_number_elsewhere monthly 48 51 filed.year (omega arith) k (inl (omega arith)))
        ∙ read_back line 46 47 filed.month (omega arith) (omega arith) (omega arith) (omega arith) rooms.0

    whole_year : number_in all 48 51 ≡ value filed.year
    whole_year =
        number_alike all yearly 48 51 (λ k low high. put_number_elsewhere yearly 147 155 fein (omega arith) k (inl (omega arith)))
        ∙ read_back monthly 48 51 filed.year (omega arith) (omega arith) (omega (arith, month_long)) (omega arith) rooms.1

    whole_fein : number_in all 147 155 ≡ value fein
    whole_fein = read_back yearly 147 155 fein (omega arith) (omega arith) (omega (arith, year_long)) (omega arith) rooms.2

    digits_there : (k : ℕ) → ((45 ≤ k) × (k < 51)) ⊎ ((146 ≤ k) × (k < 155)) → (48 ≤ get_or all k 0) × (get_or all k 0 ≤ 57)
    digits_there k (inl h) =
        elim (side 47 k) [
          | inl month ↦ number_digits all 46 47 (omega arith) (omega arith) filed.month whole_month k h.0 month
          | inr year ↦ number_digits all 48 51 (omega arith) (omega arith) filed.year whole_year k year h.1
        ]
    digits_there k (inr h) = number_digits all 147 155 (omega arith) (omega arith) fein whole_fein k h.0 h.1

    -- So in each column the character is as it was, or a digit where a number is put.
    at_column : (k : ℕ) → (get_or all k 0 ≡ get_or line k 0) ⊎ (((45 ≤ k) × (k < 51)) ⊎ ((146 ≤ k) × (k < 155)))
    at_column k =
        elim (side 45 k) [
          | inl before ↦ inl (elsewhere fein filed line k (inl before))
          | inr h ↦ elim (side 51 k) [
            | inl numbered ↦ inr (inl (h, numbered))
            | inr h' ↦ elim (side 146 k) [
              | inl between ↦ inl (elsewhere fein filed line k (inr (inl (h', between))))
              | inr h'' ↦ elim (side 155 k) [
                | inl numbered ↦ inr (inr (h'', numbered))
                | inr behind ↦ inl (elsewhere fein filed line k (inr (inr behind)))
              ]
            ]
          ]
        ]

  -- In no column is the lowest record below the one of all, or the highest above it.
  pub lowest_above : (k : ℕ) → get_or lowest_of_all k 0 ≤ get_or (lowest fein filed) k 0
  unfolding of_employer
  lowest_above k =
      elim (at_column lowest_of_all low_long k) [
        | inl same ↦ omega arith
        | inr numbered ↦ omega (arith, low_digits k numbered, digits_there lowest_of_all low_long k numbered)
      ]

  pub highest_below : (k : ℕ) → get_or (highest fein filed) k 0 ≤ get_or highest_of_all k 0
  unfolding of_employer
  highest_below k =
      elim (at_column highest_of_all high_long k) [
        | inl same ↦ omega arith
        | inr numbered ↦ omega (arith, high_digits k numbered, digits_there highest_of_all high_long k numbered)
      ]

  -- A number that stands in both stands in every record between the two.
  between_same : (first last v : ℕ) → first - 1 < last → width_of first last ≤ 19
      → number_in (lowest fein filed) first last ≡ value v → number_in (highest fein filed) first last ≡ value v
      → (s : List ℕ) → ((k : ℕ) → first - 1 ≤ k → k < last → (get_or (lowest fein filed) k 0 ≤ get_or s k 0) × (get_or s k 0 ≤ get_or (highest fein filed) k 0))
      → number_in s first last ≡ value v
  between_same first last v h w low high s between =
      number_alike s (lowest fein filed) first last
      (λ k from to. omega (arith, between k from to, same_digits (lowest fein filed) (highest fein filed) first last h w v low high k from to))
      ∙ low

  module _ (s : List ℕ) (between : Between fein filed s) where
    pub reads_month : number_in s 46 47 ≡ value filed.month
    unfolding of_employer
    reads_month =
        between_same 46 47 filed.month (omega arith) (omega arith) (whole_month lowest_of_all low_long) (whole_month highest_of_all high_long) s
        (λ k from to. between k (omega arith))

    pub reads_year : number_in s 48 51 ≡ value filed.year
    unfolding of_employer
    reads_year =
        between_same 48 51 filed.year (omega arith) (omega arith) (whole_year lowest_of_all low_long) (whole_year highest_of_all high_long) s
        (λ k from to. between k (omega arith))

    pub reads_fein : number_in s 147 155 ≡ value fein
    unfolding of_employer
    reads_fein =
        between_same 147 155 fein (omega arith) (omega arith) (whole_fein lowest_of_all low_long) (whole_fein highest_of_all high_long) s
        (λ k from to. between k (omega arith))

    -- And a character lies where it may, whoever the employer is.
    pub in_span : (low high first last : ℕ) → last ≤ 290 → Span low high first last → (k : ℕ) → first - 1 ≤ k → k < last
        → (low ≤ get_or s k 0) × (get_or s k 0 ≤ high)
    in_span low high first last inside spans k from to =
        let here = between k (omega arith) in
        let bounds = spans k from to in
        (omega (arith, lowest_above k), omega (arith, highest_below k))
