-- The rows of the table: the states, then the provinces. The place of the first row that is the code tells what the definition says.
use Rattle.std.specs.Prelude.{ℕ, ◌+◌, ◌<◌, ◌≤◌, ◌≡◌, refl, Bool, true, false, not, ◌||◌, List, [], ◌∷◌, ◌++◌, cond, eqb, ltb, length, if◌then◌else◌, Option, Some, None}
use Rattle.std.proofs.Common.{◌∙◌, sym, append-nil, lt-ltb, le-ltb, arith}
use Rattle.std.proofs.Math.Bool.{and-true}
use Rattle.std.proofs.lemmas.Bool.{false≢true}
use Rattle.std.specs.List.{position, position_or_len}
use Rattle.std.specs.Cmp.Lexicographic.{pointwise}
use Rattle.laws.specs.Spelling.{bytes}
use Rattle.codes.specs.Codes.{codes_in, states, provinces, is_code, is_among, region_of}
use Rattle.codes.specs.Laws.{states_are_51, provinces_are_13}
use Rattle.codes.specs.declared.Region.{Region}
use Rattle.codes.specs.declared.Region.TheVariants.{State, Province}

abbrev pub rows : List (List ℕ)
rows = states ++ provinces

rows_are_64 : length rows ≡ 64
unfolding states provinces codes_in bytes
rows_are_64 = refl

-- What stands at a place of the rows.
abbrev pub region_at : Option ℕ → Option Region
region_at (Some k) = if ltb k 51 then Some State else Some Province
region_at None = None

module _ (a b : ℕ) where
  place : List (List ℕ) → ℕ
  place codes = position_or_len (is_code a b) codes

  -- A code that is among the codes stands before those that follow them,
  early : (codes more : List (List ℕ)) → is_among a b codes ≡ true → place (codes ++ more) < length codes
  unfolding place is_among
  early [] more among = absurd (false≢true among)
  early (code ∷ codes) more among = by (is_code a b code) (place (codes ++ more)) among (early codes more)
    where
      by : (is : Bool) (k : ℕ) → is || is_among a b codes ≡ true → (is_among a b codes ≡ true → k < length codes) → cond (not is) (1 + k) 0 < length (code ∷ codes)
      by true k among rest = omega arith
      by false k among rest = let below = rest among in omega arith

  -- and one that is not stands behind them.
  late : (codes more : List (List ℕ)) → is_among a b codes ≡ false → place (codes ++ more) ≡ length codes + place more
  unfolding place is_among
  late [] more among = omega arith
  late (code ∷ codes) more among = by (is_code a b code) (place (codes ++ more)) among (late codes more)
    where
      by : (is : Bool) (k : ℕ) → is || is_among a b codes ≡ false → (is_among a b codes ≡ false → k ≡ length codes + place more)
          → cond (not is) (1 + k) 0 ≡ length (code ∷ codes) + place more
      by true k among rest = absurd (false≢true (sym among))
      by false k among rest = let behind = rest among in omega arith

  none_but : (codes : List (List ℕ)) → is_among a b codes ≡ false → place codes ≡ length codes
  unfolding place
  none_but codes among = rw append-nil at (late codes [] among) ∙ omega arith

  -- A row has two letters, and it is the code exactly if both are the code's.
  pub same_place : position (λ code. pointwise eqb code (a ∷ b ∷ [])) rows ≡ position (is_code a b) rows
  unfolding states provinces codes_in bytes is_code
  same_place = simp and-true

  pub placed : region_of a b ≡ region_at (position (is_code a b) rows)
  unfolding region_of place
  placed = by (is_among a b states) (is_among a b provinces) refl refl
    where
      by : (state province : Bool) → is_among a b states ≡ state → is_among a b provinces ≡ province
          → (if state then Some State else if province then Some Province else None) ≡ region_at (position (is_code a b) rows)
      by true province state_is province_is =
          let at : place rows < 51 = omega (arith, early states provinces state_is, states_are_51) in
          rw (rows_are_64, lt-ltb (place rows) 64 (omega arith), lt-ltb (place rows) 51 at)
      by false true state_is province_is =
          let behind : 51 ≤ place rows = omega (arith, late states provinces state_is, states_are_51) in
          let within : place (provinces ++ []) < 13 = omega (arith, early provinces [] province_is, provinces_are_13) in
          let at : place rows < 64 = omega (arith, late states provinces state_is, states_are_51, rw append-nil at within) in
          rw (rows_are_64, lt-ltb (place rows) 64 at, le-ltb (place rows) 51 behind)
      by false false state_is province_is =
          let at : 64 ≤ place rows = omega (arith, late states provinces state_is, none_but provinces province_is, states_are_51, provinces_are_13) in
          rw (rows_are_64, le-ltb (place rows) 64 at)
