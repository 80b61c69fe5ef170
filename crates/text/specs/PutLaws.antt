-- Laws: how text is copied into a line, what then stands in its columns, and that the others stay as they were.
use Rattle.std.specs.Prelude.{ℕ, zero, suc, ◌+◌, ◌-◌, ◌<◌, ◌≤◌, ◌≡◌, refl, List, [], ◌∷◌, ◌⊎◌, length, min, map, get_or, set, take}
use Rattle.std.proofs.Common.{sym, ◌∙◌, append-nil, inl, inr, add-zero, not-suc-le-zero, arith, length-set, length-take-le, get_or-set_same, get_or-set_other}
use lib.Seq.{paste}
use Rattle.std.proofs.Math.Seq.{take-nil, drop-length, set_out, length-sets}
use Rattle.std.proofs.lemmas.List.Edits.{sets-eq, sets}
use Rattle.std.proofs.lemmas.Bool.{cases_lt}
use Rattle.std.proofs.lemmas.Bool.Decides.{nat_tests}
use Rattle.std.specs.Char.{to_ascii_uppercase}
use Rattle.chars.specs.Characters.{capital_of, capitals}
use Rattle.text.specs.Put.{put_text}

-- ASCII's capitals are the characters as they are read.
upper_is : (c : ℕ) → to_ascii_uppercase c ≡ capital_of c
unfolding capital_of
upper_is c = grind (arith, nat_tests)

pub uppercased : (line : List ℕ) → map to_ascii_uppercase line ≡ capitals line
unfolding capitals capital_of
uppercased [] = refl
uppercased (c ∷ line) = rw (upper_is c, uppercased line)

-- A text is set one character after the other.
pub text_sets : (line : List ℕ) (first : ℕ) (text : List ℕ) → put_text line first text ≡ sets line (first - 1) text
unfolding put_text
text_sets line first text = refl

-- After the line's end nothing is written.
pub none_past : (text line : List ℕ) (at : ℕ) → length line ≤ at → sets line at text ≡ line
none_past [] line at h = refl
none_past (c ∷ text) line at h = rw (set_out line at c h) (none_past text line (suc at) (omega arith))

-- Of a text only what the line has room for is written.
sets_room : (text line : List ℕ) (at room : ℕ) → room ≡ min (length text) (length line - at) → sets line at (take room text) ≡ sets line at text
sets_room [] line at room fits = rw take-nil
sets_room (c ∷ text) line at zero fits = sym (none_past (c ∷ text) line at (omega arith))
sets_room (c ∷ text) line at (suc room) fits = sets_room text (set line at c) (suc at) room (omega (arith, length-set line at c))

-- That is the text copied over the line, from a place within it.
module _ (line text : List ℕ) (at place room : ℕ) (within : place ≡ min (length line) at) (fits : room ≡ min (length text) (length line - place)) where
  same_place : sets line place text ≡ sets line at text
  same_place = by (cases_lt (length line) at)
    where
      by : (length line < at) ⊎ (at ≤ length line) → sets line place text ≡ sets line at text
      by (inl past) = none_past text line place (omega arith) ∙ sym (none_past text line at (omega arith))
      by (inr there) = let same : place ≡ at = omega arith in rw same

  pub text_copied : paste line place text room ≡ sets line at text
  text_copied =
      let taken : length (take room text) ≡ room = length-take-le room text (omega arith) in
      let copied : sets line place (take room text) ≡ paste line place text room = rw taken at (sets-eq (take room text) line place (omega arith)) in
      sym copied ∙ sets_room text line place room fits ∙ same_place

-- A text that is as long as the line takes its place.
pub put_all : (line text : List ℕ) → length text ≡ length line → put_text line 1 text ≡ text
unfolding put_text
put_all line text e =
    let room : 0 + length text ≡ length line = omega arith in
    sets-eq text line 0 (omega arith) ∙ rw (room, drop-length) (append-nil text)

-- ---- the columns
sets_elsewhere : (text line : List ℕ) (at j : ℕ) → (j < at) ⊎ (at + length text ≤ j) → get_or (sets line at text) j 0 ≡ get_or line j 0
sets_elsewhere [] line at j h = refl
sets_elsewhere (c ∷ text) line at j (inl h) =
    sets_elsewhere text (set line at c) (suc at) j (inl (omega arith)) ∙ get_or-set_other line at j c 0 (λ q. omega arith)
sets_elsewhere (c ∷ text) line at j (inr h) =
    sets_elsewhere text (set line at c) (suc at) j (inr (omega arith)) ∙ get_or-set_other line at j c 0 (λ q. omega arith)

sets_at : (text line : List ℕ) (at k : ℕ) → at + length text ≤ length line → k < length text → get_or (sets line at text) (at + k) 0 ≡ get_or text k 0
sets_at [] line at k h l = absurd (not-suc-le-zero l)
sets_at (c ∷ text) line at zero h l =
    rw add-zero (sets_elsewhere text (set line at c) (suc at) at (inl (omega arith)) ∙ get_or-set_same line at c 0 (omega arith))
sets_at (c ∷ text) line at (suc k) h l =
    let place : at + suc k ≡ suc at + k = omega arith in
    rw place (sets_at text (set line at c) (suc at) k (rw length-set (omega arith)) (omega arith))

module _ (line : List ℕ) (first : ℕ) (text : List ℕ) where
  -- Writing leaves the line's length,
  pub put_text_length : length (put_text line first text) ≡ length line
  unfolding put_text
  put_text_length = length-sets line (first - 1) text

  -- and every column before and after the text's.
  pub put_text_elsewhere : (j : ℕ) → (j < first - 1) ⊎ (first - 1 + length text ≤ j) → get_or (put_text line first text) j 0 ≡ get_or line j 0
  unfolding put_text
  put_text_elsewhere j h = sets_elsewhere text line (first - 1) j h

  -- Character k of the text stands so far after the first column.
  pub put_text_at_lem : first - 1 + length text ≤ length line → (k : ℕ) → k < length text → get_or (put_text line first text) (first - 1 + k) 0 ≡ get_or text k 0
  unfolding put_text
  put_text_at_lem h k l = sets_at text line (first - 1) k h l
