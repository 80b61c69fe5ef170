-- Laws: the lines joined are the file, and after a line comes the file from where it ended.
use Rattle.std.specs.Prelude.{ℕ, zero, suc, ◌-◌, ◌≤◌, ◌<◌, Bool, true, false, ◌||◌, List, [], ◌∷◌, ◌++◌, ◌≡◌, refl, eqb, length, get_or, take, drop, if◌then◌else◌}
use Rattle.std.proofs.lemmas.Bool.{false≢true}
use Rattle.std.proofs.Common.{sym, ap, ◌∙◌, sub-one, arith, eqb-true, length-append, length-take, take-append-drop, get_or-take, take-add}
use Rattle.std.proofs.Math.Seq.{drop-nil}
use Rattle.lines.specs.Lines.{Line, is_end, text_of, line_feed, end_of, first_line, size_of, lines_from, lines_of, joined}

-- ---- what a line takes stands in front of the bytes
-- The definitions of text and end, over the outcomes of their tests.
abbrev texted : Bool → ℕ → List ℕ → List ℕ
texted end b text = if end then [] else b ∷ text

abbrev feed : Bool → List ℕ
feed lf = if lf then 10 ∷ [] else []

abbrev ended : Bool → Bool → List ℕ → List ℕ
ended lf cr s = if lf then 10 ∷ [] else if cr then 13 ∷ line_feed s else []

-- The text is what stands in front, so its characters are those of the bytes.
pub text_in_front : (s : List ℕ) → text_of s ≡ take (length (text_of s)) s
unfolding text_of
text_in_front [] = refl
text_in_front (b ∷ s) = at (is_end b) (text_in_front s) where
  at : (t : Bool) → text_of s ≡ take (length (text_of s)) s → texted t b (text_of s) ≡ take (length (texted t b (text_of s))) (b ∷ s)
  at true e = refl
  at false e = ap (λ (l : List ℕ). b ∷ l) e

pub text_at : (s : List ℕ) (i : ℕ) → i < length (text_of s) → get_or (text_of s) i 0 ≡ get_or s i 0
text_at s i h = ap (λ (l : List ℕ). get_or l i 0) (text_in_front s) ∙ get_or-take (length (text_of s)) s i 0 h

feed_in_front : (s : List ℕ) → line_feed s ≡ take (length (line_feed s)) s
feed_in_front [] = refl
feed_in_front (b ∷ s) = at (eqb b 10) refl where
  at : (t : Bool) → eqb b 10 ≡ t → feed t ≡ take (length (feed t)) (b ∷ s)
  at true e = rw (eqb-true b 10 e)
  at false e = refl

pub end_in_front : (s : List ℕ) → end_of s ≡ take (length (end_of s)) s
unfolding end_of
end_in_front [] = refl
end_in_front (b ∷ s) = at (eqb b 10) (eqb b 13) refl refl where
  at : (t u : Bool) → eqb b 10 ≡ t → eqb b 13 ≡ u → ended t u s ≡ take (length (ended t u s)) (b ∷ s)
  at true u e f = rw (eqb-true b 10 e)
  at false true e f = rw (eqb-true b 13 f) (ap (λ (l : List ℕ). 13 ∷ l) (feed_in_front s))
  at false false e f = refl

-- A line and its end are what stands in front.
pub line_in_front : (s : List ℕ) → (first_line s).text ++ (first_line s).ending ≡ take (size_of (first_line s)) s
line_in_front s =
    let text = text_of s in
    let rest = drop (length text) s in
    ap (λ (l : List ℕ). l ++ end_of rest) (text_in_front s) ∙ ap (λ (l : List ℕ). take (length text) s ++ l) (end_in_front rest)
    ∙ sym (take-add (length text) (length (end_of rest)) s)

-- ---- how many bytes a line takes: no more than there are, and where there are any, at least one
pub size_within : (s : List ℕ) → size_of (first_line s) ≤ length s
size_within s = omega (arith, simp (length-append, length-take) at (ap length (line_in_front s)))

feed_short : (s : List ℕ) → length (line_feed s) ≤ 1
feed_short [] = omega arith
feed_short (b ∷ s) = at (eqb b 10) where
  at : (t : Bool) → length (feed t) ≤ 1
  at true = omega arith
  at false = omega arith

pub end_short : (s : List ℕ) → length (end_of s) ≤ 2
unfolding end_of
end_short [] = omega arith
end_short (b ∷ s) = at (eqb b 10) (eqb b 13) where
  at : (t u : Bool) → length (ended t u s) ≤ 2
  at true u = omega arith
  at false true = omega (arith, feed_short s)
  at false false = omega arith

-- An end takes at least a byte.
end_some : (b : ℕ) (s : List ℕ) → is_end b ≡ true → 1 ≤ length (end_of (b ∷ s))
unfolding is_end end_of
end_some b s = at (eqb b 10) (eqb b 13) where
  at : (t u : Bool) → t || u ≡ true → 1 ≤ length (ended t u s)
  at true u e = omega arith
  at false true e = omega arith
  at false false e = absurd (false≢true e)

pub size_positive : (s : List ℕ) → 0 < length s → 1 ≤ size_of (first_line s)
unfolding text_of
size_positive [] h = absurd (omega arith)
size_positive (b ∷ s) h = at (is_end b) refl where
  at : (t : Bool) → is_end b ≡ t → 1 ≤ size_of (first_line (b ∷ s))
  at true e = rw e (omega (arith, end_some b s e))
  at false e = rw e (omega arith)

-- ---- one line after the other
pub lines_nil : lines_of [] ≡ []
unfolding lines_from
lines_nil = refl

-- Byte by byte: none is left; one more belongs to the line before; a line begins.
pub from_nil : (n : ℕ) → lines_from n [] ≡ []
unfolding lines_from
from_nil zero = refl
from_nil (suc n) = refl

pub from_skip : (n b : ℕ) (s : List ℕ) → lines_from (suc n) (b ∷ s) ≡ lines_from n s
unfolding lines_from
from_skip n b s = refl

pub from_line : (b : ℕ) (s : List ℕ) → lines_from 0 (b ∷ s) ≡ first_line (b ∷ s) ∷ lines_from (size_of (first_line (b ∷ s)) - 1) s
unfolding lines_from
from_line b s = refl

skipped : (n : ℕ) (s : List ℕ) → lines_from n s ≡ lines_of (drop n s)
unfolding lines_from
skipped zero s = refl
skipped (suc n) [] = refl
skipped (suc n) (b ∷ s) = skipped n s

-- Of n bytes to skip, the byte in front is one.
drop_size : (n b : ℕ) (s : List ℕ) → 1 ≤ n → drop (n - 1) s ≡ drop n (b ∷ s)
drop_size zero b s h = absurd (omega arith)
drop_size (suc n) b s h = rw sub-one

-- After a line comes the file from where it ended.
pub lines_cons : (s : List ℕ) → 0 < length s → lines_of s ≡ first_line s ∷ lines_of (drop (size_of (first_line s)) s)
unfolding lines_from
lines_cons [] h = absurd (omega arith)
lines_cons (b ∷ s) h =
    let size = size_of (first_line (b ∷ s)) in
    ap (λ (lines : List Line). first_line (b ∷ s) ∷ lines) (skipped (size - 1) s ∙ ap lines_of (drop_size size b s (size_positive (b ∷ s) h)))

joined_from : (n : ℕ) (s : List ℕ) → joined (lines_from n s) ≡ drop n s
unfolding lines_from joined
joined_from n [] = sym (drop-nil n)
joined_from zero (b ∷ s) =
    let size = size_of (first_line (b ∷ s)) in
    let rest = joined_from (size - 1) s ∙ drop_size size b s (size_positive (b ∷ s) (omega arith)) in
    rw (rest, line_in_front (b ∷ s)) (take-append-drop size (b ∷ s))
joined_from (suc n) (b ∷ s) = joined_from n s

-- The lines with their ends, joined, are the file.
pub lines_joined : (file : List ℕ) → joined (lines_of file) ≡ file
lines_joined file = joined_from 0 file
