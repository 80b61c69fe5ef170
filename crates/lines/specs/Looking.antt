-- Follows the code; need not be believed. Looking for the end of the first line: the laws of what a line still has
-- at a place, of whether it is shorter than so many bytes, and of the end at a place.
use Rattle.std.specs.Prelude.{ℕ, zero, suc, ◌+◌, ◌-◌, ◌≤◌, ◌<◌, Bool, true, false, ◌||◌, List, [], ◌∷◌, ◌≡◌, refl, eqb, ltb, length, get_or, drop, if◌then◌else◌}
use Rattle.std.specs.List.{slice_range}
use Rattle.std.specs.Int.{from_bool}
use Rattle.std.specs.Int.Bits.{bit_or}
use Rattle.std.proofs.lemmas.List.{get_or-take, take_all}
use Rattle.std.proofs.Common.{add-one, arith, length-drop, lt-ltb, le-ltb, ltb-true, ltb-false}
use Rattle.std.proofs.Math.Seq.{drop-cons}
use Rattle.lines.specs.Lines.{is_end, text_of, end_of}

-- What a line still has at i: nothing at an end, else a character and what it has at i + 1.
module _ (s : List ℕ) (i : ℕ) where
  pub ends : i < length s → is_end (get_or s i 0) ≡ true → length (text_of (drop i s)) ≡ 0
  unfolding text_of
  ends h e = rw (drop-cons s i 0 h, e)

  pub goes_on : i < length s → is_end (get_or s i 0) ≡ false → length (text_of (drop i s)) ≡ suc (length (text_of (drop (i + 1) s)))
  unfolding text_of
  goes_on h e = rw (add-one, drop-cons s i 0 h, e)

-- A line that is not shorter than i has i characters, and those that it still has at i.
pub as_far_as : (s : List ℕ) (i : ℕ) → i ≤ length (text_of s) → length (text_of s) ≡ i + length (text_of (drop i s))
unfolding text_of
as_far_as s zero h = omega arith
as_far_as [] (suc i) h = absurd (omega arith)
as_far_as (b ∷ s) (suc i) h = by (is_end b) h (as_far_as s i) where
  by : (t : Bool) → suc i ≤ length (if t then [] else b ∷ text_of s) → (i ≤ length (text_of s) → length (text_of s) ≡ i + length (text_of (drop i s)))
      → length (if t then [] else b ∷ text_of s) ≡ suc i + length (text_of (drop i s))
  by true h rest = absurd (omega arith)
  by false h rest = let more = rest (omega arith) in omega arith

-- The text lies in the bytes.
pub text_short : (s : List ℕ) → length (text_of s) ≤ length s
unfolding text_of
text_short [] = omega arith
text_short (b ∷ s) = by (is_end b) (text_short s) where
  by : (t : Bool) → length (text_of s) ≤ length s → length (if t then [] else b ∷ text_of s) ≤ suc (length s)
  by true rest = omega arith
  by false rest = omega arith

-- A line is shorter than i + 1 if it is shorter than i, or if there is an end at i.
pub shorter_next : (s : List ℕ) (i : ℕ) → i < length s → ltb (length (text_of s)) (i + 1) ≡ ltb (length (text_of s)) i || is_end (get_or s i 0)
shorter_next s i h = by (ltb (length (text_of s)) i) (is_end (get_or s i 0)) refl refl where
  by : (short end : Bool) → ltb (length (text_of s)) i ≡ short → is_end (get_or s i 0) ≡ end → ltb (length (text_of s)) (i + 1) ≡ short || end
  by true end p q = let before = ltb-true (length (text_of s)) i p in lt-ltb (length (text_of s)) (i + 1) (omega arith)
  by false true p q =
      let reaches = ltb-false (length (text_of s)) i p in
      let here = as_far_as s i (omega arith) in
      let stops = ends s i h q in
      lt-ltb (length (text_of s)) (i + 1) (omega arith)
  by false false p q =
      let reaches = ltb-false (length (text_of s)) i p in
      let here = as_far_as s i (omega arith) in
      let more = goes_on s i h q in
      le-ltb (length (text_of s)) (i + 1) (omega arith)

-- The same of what was found, told as a number, where the first n bytes are looked at.
or_of_two : (a b : Bool) → bit_or (from_bool a) (from_bool b) ≡ from_bool (a || b)
or_of_two true true = refl
or_of_two true false = refl
or_of_two false true = refl
or_of_two false false = refl

pub found_next : (s : List ℕ) (n i : ℕ) → i < n → n ≤ length s
    → bit_or (from_bool (ltb (length (text_of s)) i)) (from_bool (is_end (get_or (slice_range s 0 n) i 0))) ≡ from_bool (ltb (length (text_of s)) (i + 1))
found_next s n i below within =
    let all : n - 0 ≡ n = omega arith in
    rw (all, get_or-take n s i 0 below, shorter_next s i (omega arith)) (or_of_two (ltb (length (text_of s)) i) (is_end (get_or s i 0)))

-- The end at a place goes by the byte that stands there, and after a CR by the next.
end_by : (s : List ℕ) → length (end_of s) ≡ (if eqb (get_or s 0 0) 10 then 1 else if eqb (get_or s 0 0) 13 then (if eqb (get_or s 1 0) 10 then 2 else 1) else 0)
unfolding end_of
end_by [] = refl
end_by (b ∷ []) = by (eqb b 10) (eqb b 13) where
  by : (lf cr : Bool) → length {A = ℕ} (if lf then 10 ∷ [] else if cr then 13 ∷ [] else []) ≡ (if lf then 1 else if cr then 1 else 0)
  by true cr = refl
  by false true = refl
  by false false = refl
end_by (b ∷ next ∷ s) = by (eqb b 10) (eqb b 13) (eqb next 10) where
  by : (lf cr more : Bool) → length {A = ℕ} (if lf then 10 ∷ [] else if cr then 13 ∷ (if more then 10 ∷ [] else []) else []) ≡ (if lf then 1 else if cr then (if more then 2 else 1) else 0)
  by true cr more = refl
  by false true true = refl
  by false true false = refl
  by false false more = refl

pub end_told : (s : List ℕ) (at : ℕ)
    → length (end_of (drop at s))
    ≡ (if eqb (get_or (slice_range s at (length s)) 0 0) 10
    then 1
    else if eqb (get_or (slice_range s at (length s)) 0 0) 13
    then (if eqb (get_or (slice_range s at (length s)) 1 0) 10 then 2 else 1)
    else 0)
end_told s at =
    let all = take_all (length s - at) (drop at s) (rw length-drop (omega arith)) in
    rw all (end_by (drop at s))
