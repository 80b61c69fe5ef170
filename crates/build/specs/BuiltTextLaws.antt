-- Laws: texts without trailing blanks, and how many digits a number has.
use Rattle.std.specs.Prelude.{ℕ, zero, suc, ◌+◌, ◌-◌, ◌/◌, ◌^◌, ◌<◌, ◌≤◌, min, Bool, true, false, List, [], ◌∷◌, ◌++◌, ◌⊎◌, ◌≡◌, refl, leb, ltb, length, get_or, take, drop}
use Rattle.std.proofs.Common.{inl, inr, sym, ap, ◌∙◌, pow-suc, length-take, length-drop, length-append, take-suc, take_all, get_or-drop, ext_get_or, ltb-true, ltb-false, leb-true, leb-false, lt-ltb, le-ltb}
use Rattle.std.proofs.Math.Nat.{min-eq_left, min-eq_right}
use native.Mathlib.Omega.{arith}
use Rattle.chars.specs.Characters.{is_blank}
use Rattle.chars.specs.CharacterLaws.{blank_is}
use Rattle.text.specs.Put.{blanks, put_text}
use Rattle.text.specs.PutLaws.{put_text_length, put_text_elsewhere}
use Rattle.build.specs.Values.{keep, trimmed, text_in}

-- ---- trailing blanks
pub trim_blank : (text : List ℕ) (c : ℕ) → is_blank c ≡ true → trimmed (text ++ (c ∷ [])) ≡ trimmed text
unfolding trimmed
trim_blank [] c b = rw b
trim_blank (d ∷ text) c b = ap (keep d) (trim_blank text c b)

keep_all : (d : ℕ) (text : List ℕ) (c : ℕ) → keep d (text ++ (c ∷ [])) ≡ d ∷ (text ++ (c ∷ []))
keep_all d [] c = refl
keep_all d (e ∷ text) c = refl

pub trim_ink : (text : List ℕ) (c : ℕ) → is_blank c ≡ false → trimmed (text ++ (c ∷ [])) ≡ text ++ (c ∷ [])
unfolding trimmed
trim_ink [] c b = rw b
trim_ink (d ∷ text) c b = rw (trim_ink text c b) (keep_all d text c)

pub only_blanks : (n : ℕ) → trimmed (blanks n) ≡ []
unfolding trimmed
only_blanks zero = refl
only_blanks (suc n) = rw (only_blanks n, blank_is)

pub trim_blanks : (text : List ℕ) (n : ℕ) → trimmed (text ++ blanks n) ≡ trimmed text
unfolding trimmed
trim_blanks [] n = only_blanks n
trim_blanks (c ∷ text) n = ap (keep c) (trim_blanks text n)

-- A text without its trailing blanks is its front part.
pub trim_front : (text : List ℕ) → take (length (trimmed text)) text ≡ trimmed text
unfolding trimmed
trim_front [] = refl
trim_front (c ∷ text) = by (trimmed text) (trim_front text) (is_blank c) refl where
  by : (rest : List ℕ) → take (length rest) text ≡ rest → (blank : Bool) → is_blank c ≡ blank → take (length (keep c rest)) (c ∷ text) ≡ keep c rest
  by [] e true b = rw b
  by [] e false b = rw b
  by (d ∷ rest) e blank b = ap (λ (l : List ℕ). c ∷ l) e

-- No text changes nothing.
pub put_nothing : (line : List ℕ) (first : ℕ) → put_text line first [] ≡ line
put_nothing line first =
    ext_get_or 0 (put_text line first []) line (put_text_length line first []) (λ j h. put_text_elsewhere line first [] j (side j (ltb j (first - 1)) refl)) where
      side : (j : ℕ) (before : Bool) → ltb j (first - 1) ≡ before → (j < first - 1) ⊎ (first - 1 + 0 ≤ j)
      side j true e = inl (ltb-true j (first - 1) e)
      side j false e = inr (omega (arith, ltb-false j (first - 1) e))

-- ---- a loop's steps: the columns from place `from` up to `end`
module _ (line : List ℕ) (from end : ℕ) where
  pub ink_done : end ≤ from → length (trimmed (take (end - from) (drop from line))) ≡ 0
  unfolding trimmed
  ink_done h = let none : end - from ≡ 0 = omega arith in rw none

  module _ (h : from < end) (l : end ≤ length line) where
    last_column : take (end - from) (drop from line) ≡ take (end - 1 - from) (drop from line) ++ (get_or line (end - 1) 0 ∷ [])
    last_column =
        let more : end - from ≡ suc (end - 1 - from) = omega arith in
        let place : from + (end - 1 - from) ≡ end - 1 = omega arith in
        rw (more, take-suc (drop from line) (end - 1 - from) 0 (simp length-drop (omega arith)), get_or-drop from line (end - 1 - from) 0, place)

    pub ink_more : is_blank (get_or line (end - 1) 0) ≡ true
        → trimmed (take (end - from) (drop from line)) ≡ trimmed (take (end - 1 - from) (drop from line))
    ink_more b = rw last_column (trim_blank (take (end - 1 - from) (drop from line)) (get_or line (end - 1) 0) b)

    pub ink_found : is_blank (get_or line (end - 1) 0) ≡ false → length (trimmed (take (end - from) (drop from line))) ≡ end - from
    ink_found b =
        rw (last_column, trim_ink (take (end - 1 - from) (drop from line)) (get_or line (end - 1) 0) b)
        (simp (length-append, length-take, length-drop) (omega arith))

-- The columns up to the line's end.
pub ink_start : (line : List ℕ) (first last : ℕ) → text_in line first last ≡ trimmed (take (min last (length line) - (first - 1)) (drop (first - 1) line))
ink_start line first last = ap trimmed (by (leb last (length line)) refl) where
  by : (inside : Bool) → leb last (length line) ≡ inside → take (last - (first - 1)) (drop (first - 1) line) ≡ take (min last (length line) - (first - 1)) (drop (first - 1) line)
  by true e = rw (min-eq_left (leb-true last (length line) e))
  by false e =
      let past = leb-false last (length line) e in
      rw (min-eq_right {n = length line} {m = last} (omega arith))
      (take_all (last - (first - 1)) (drop (first - 1) line) (simp length-drop (omega arith))
      ∙ sym (take_all (length line - (first - 1)) (drop (first - 1) line) (simp length-drop (omega arith))))

-- ---- how many digits a number has: one after the other is taken off
pub room_more : (v n : ℕ) → ltb (v / 10) (10 ^ n) ≡ ltb v (10 ^ suc n)
room_more v n = by (ltb v (10 ^ suc n)) refl where
  by : (room : Bool) → ltb v (10 ^ suc n) ≡ room → ltb (v / 10) (10 ^ n) ≡ room
  by true e = let h = rw pow-suc at (ltb-true v (10 ^ suc n) e) in lt-ltb (v / 10) (10 ^ n) (omega arith)
  by false e = let h = rw pow-suc at (ltb-false v (10 ^ suc n) e) in le-ltb (v / 10) (10 ^ n) (omega arith)
