-- Laws: what later layers cite of characters.
use Rattle.std.specs.Prelude.{ℕ, zero, suc, ◌+◌, ◌-◌, ◌<◌, ◌≤◌, ◌≡◌, Bool, true, false, ◌&&◌, ◌||◌, List, [], ◌∷◌, eqb, length, get_or, take, drop, if◌then◌else◌}
use Rattle.std.proofs.Math.Path.{refl}
use Rattle.std.proofs.Common.{sym, ap, ◌∙◌, arith, eqb-true, le-leb, eq-eqb, ne_eqb}
use Rattle.std.proofs.lemmas.Bool.{false≢true, eqb-false, lt-leb}
use Rattle.std.proofs.Math.Dec.{leb}
use Rattle.std.proofs.lemmas.List.{length-map}
use Rattle.std.proofs.Math.ListN.{get_or-map}
use Rattle.laws.specs.ChoiceLaws.{within}
use Rattle.chars.specs.Characters.{is_permitted, capital_of, capitals, is_blank, is_digit, is_letter, is_of_name}

-- A line read in capitals has each of its characters in capitals, and as many.
pub capital_at : (line : List ℕ) (at : ℕ) → get_or (capitals line) at 0 ≡ capital_of (get_or line at 0)
unfolding capitals capital_of
capital_at line at = get_or-map capital_of line at 0

pub capitals_length : (line : List ℕ) → length (capitals line) ≡ length line
unfolding capitals
capitals_length line = length-map line capital_of

pub capitals_drop : (n : ℕ) (line : List ℕ) → capitals (drop n line) ≡ drop n (capitals line)
unfolding capitals
capitals_drop zero line = refl
capitals_drop (suc n) [] = refl
capitals_drop (suc n) (c ∷ line) = capitals_drop n line

pub capitals_take : (n : ℕ) (line : List ℕ) → capitals (take n line) ≡ take n (capitals line)
unfolding capitals
capitals_take zero line = refl
capitals_take (suc n) [] = refl
capitals_take (suc n) (c ∷ line) = ap (λ (l : List ℕ). capital_of c ∷ l) (capitals_take n line)

pub digit_range : (c : ℕ) → is_digit c ≡ true → (48 ≤ c) × (c ≤ 57)
unfolding is_digit
digit_range c d = within 48 c 57 d

pub digit_is : (d : ℕ) → d < 10 → is_digit (48 + d) ≡ true
unfolding is_digit
digit_is d h = rw (le-leb 48 (48 + d) (omega arith), le-leb (48 + d) 57 (omega arith))

-- A digit stays what it is in capitals, and nothing else becomes one.
small_not_digit : (c : ℕ) → 65 ≤ c → is_digit c ≡ false
unfolding is_digit
small_not_digit c h = rw (le-leb 48 c (omega arith), lt-leb c 57 (omega arith))

by_case : (c : ℕ) (t : Bool) → leb 97 c && leb c 122 ≡ t → is_digit (if t then c - 32 else c) ≡ is_digit c
by_case c true e =
    let w = within 97 c 122 e in
    small_not_digit (c - 32) (omega arith) ∙ sym (small_not_digit c (omega arith))
by_case c false e = refl

pub capital_is_digit : (c : ℕ) → is_digit (capital_of c) ≡ is_digit c
unfolding capital_of
capital_is_digit c = by_case c (leb 97 c && leb c 122) refl

pub capital_of_digit : (c : ℕ) → is_digit c ≡ true → capital_of c ≡ c
unfolding capital_of
capital_of_digit c d = let r = digit_range c d in rw (lt-leb 97 c (omega arith))

-- A character before the small letters stays what it is in capitals, and a line in capitals stays as it is.
pub capital_below : (c : ℕ) → c < 97 → capital_of c ≡ c
unfolding capital_of
capital_below c h = rw (lt-leb 97 c h)

pub capital_again : (c : ℕ) → capital_of (capital_of c) ≡ capital_of c
unfolding capital_of
capital_again c = by (leb 97 c && leb c 122) refl where
  by : (small : Bool) → leb 97 c && leb c 122 ≡ small → capital_of (if small then c - 32 else c) ≡ (if small then c - 32 else c)
  by true e = let w = within 97 c 122 e in capital_below (c - 32) (omega arith)
  by false e = rw e

pub capitals_again : (line : List ℕ) → capitals (capitals line) ≡ capitals line
unfolding capitals
capitals_again [] = refl
capitals_again (c ∷ line) = rw (capital_again c, capitals_again line)

pub blank_is : is_blank 0x20 ≡ true
unfolding is_blank
blank_is = refl

-- A letter of A to Z is read where it stands, or its small letter.
module _ (c letter : ℕ) (low : 65 ≤ letter) (high : letter ≤ 90) where
  by_letter : (small here smaller : Bool) → leb 97 c && leb c 122 ≡ small → eqb c letter ≡ here → eqb c (letter + 32) ≡ smaller
      → eqb (if small then c - 32 else c) letter ≡ here || smaller
  by_letter true true y e p q = let w = within 97 c 122 e in let same = eqb-true c letter p in absurd (omega arith)
  by_letter true false true e p q = let same = eqb-true c (letter + 32) q in eq-eqb (c - 32) letter (omega arith)
  by_letter true false false e p q =
      let w = within 97 c 122 e in
      ne_eqb (c - 32) letter (λ s. eqb-false c (letter + 32) q (omega arith))
  by_letter false true y e p q = p
  by_letter false false true e p q =
      let same = eqb-true c (letter + 32) q in
      absurd (false≢true (sym e ∙ rw (le-leb 97 c (omega arith), le-leb c 122 (omega arith))))
  by_letter false false false e p q = p

  pub capital_is : eqb (capital_of c) letter ≡ eqb c letter || eqb c (letter + 32)
  unfolding capital_of
  capital_is = by_letter (leb 97 c && leb c 122) (eqb c letter) (eqb c (letter + 32)) refl refl refl

-- Characters before the small letters are capitals already.
pub capitals_already : (line : List ℕ) → ((k : ℕ) → k < length line → get_or line k 0 < 97) → capitals line ≡ line
unfolding capitals capital_of
capitals_already [] all = refl
capitals_already (c ∷ line) all =
    rw (lt-leb 97 c (all 0 (omega arith))) (ap (λ (l : List ℕ). c ∷ l) (capitals_already line (λ k h. all (suc k) (omega arith))))

-- ---- permitted characters
pub permitted_span : (c : ℕ) → is_permitted c ≡ true → (0x20 ≤ c) × (c ≤ 0x7e)
unfolding is_permitted
permitted_span c p = within 0x20 c 0x7e p

-- A small letter and its capital are both permitted.
pub capital_permitted : (c : ℕ) → is_permitted (capital_of c) ≡ is_permitted c
unfolding is_permitted capital_of
capital_permitted c = by (leb 97 c && leb c 122) refl where
  by : (small : Bool) → leb 97 c && leb c 122 ≡ small → is_permitted (if small then c - 32 else c) ≡ is_permitted c
  by true e =
      let w = within 97 c 122 e in
      rw (le-leb 0x20 (c - 32) (omega arith), le-leb (c - 32) 0x7e (omega arith), le-leb 0x20 c (omega arith), le-leb c 0x7e (omega arith))
  by false e = refl

-- Digits and the characters of names are permitted.
permitted_range : (c : ℕ) → 0x20 ≤ c → c ≤ 0x7e → is_permitted c ≡ true
unfolding is_permitted
permitted_range c low high = rw (le-leb 0x20 c low, le-leb c 0x7e high)

pub digit_permitted : (c : ℕ) → is_digit c ≡ true → is_permitted c ≡ true
digit_permitted c d = let r = digit_range c d in permitted_range c (omega arith) (omega arith)

pub name_permitted : (c : ℕ) → is_of_name c ≡ true → is_permitted c ≡ true
unfolding is_of_name is_letter is_blank
name_permitted c = by (leb 65 c && leb c 90) (eqb c 0x20) (eqb c 0x2d) refl refl refl where
  by : (letter blank hyphen : Bool) → leb 65 c && leb c 90 ≡ letter → eqb c 0x20 ≡ blank → eqb c 0x2d ≡ hyphen
      → (letter || (blank || (hyphen || eqb c 0x27))) ≡ true → is_permitted c ≡ true
  by true blank hyphen l b h n = let w = within 65 c 90 l in permitted_range c (omega arith) (omega arith)
  by false true hyphen l b h n = let e = eqb-true c 0x20 b in permitted_range c (omega arith) (omega arith)
  by false false true l b h n = let e = eqb-true c 0x2d h in permitted_range c (omega arith) (omega arith)
  by false false false l b h n = let e = eqb-true c 0x27 n in permitted_range c (omega arith) (omega arith)
