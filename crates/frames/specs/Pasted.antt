-- Follows the code; need not be believed. Bytes over a part of a buffer, and the laws of writing one part after the other.
use Prim.Native.Nat.{ℕ, suc, ◌+◌, ◌≤◌, ◌<◌}
use mathlib.Core.List.{List, [], ◌∷◌, ◌++◌, append_assoc, append-nil}
use Rattle.std.specs.Prelude.{◌≡◌, set}
use Rattle.std.proofs.Common.{ap, ◌∙◌, add_assoc, add-one, arith, length-drop, take-append-drop, length-take-le, take_at}
use Rattle.std.proofs.Math.Nat.{zero-add, add-zero}
use Rattle.std.proofs.Math.ListN.{length, take, drop, length-append, length-take}
use Rattle.std.proofs.Math.Seq.{drop_at, drop-append-add, drop-drop, append_snoc}
use Rattle.std.proofs.lemmas.List.{set_split, take-set-le}

-- The buffer with these bytes from a place on, where they fit.
unfoldable pub pasted : ℕ → List ℕ → List ℕ → List ℕ
pasted at bytes out = take at out ++ bytes ++ drop (at + length bytes) out

module _ (out : List ℕ) where
  -- No byte, bytes at the front, one byte.
  pub pasted_none : (at : ℕ) → pasted at [] out ≡ out
  unfolding pasted
  pasted_none at = rw (append-nil, add-zero, take-append-drop)

  pub pasted_front : (bytes : List ℕ) → pasted 0 bytes out ≡ bytes ++ drop (length bytes) out
  unfolding pasted
  pasted_front bytes = rw zero-add

  pub pasted_one : (at b : ℕ) → at < length out → set out at b ≡ pasted at (b ∷ []) out
  unfolding pasted
  pasted_one at b h = rw (set_split out at b h, append_snoc, add-one)

  pub pasted_length : (at : ℕ) (bytes : List ℕ) → at + length bytes ≤ length out → length (pasted at bytes out) ≡ length out
  unfolding pasted
  pasted_length at bytes h = simp (length-append, length-take, length-drop) (omega arith)

  -- One part after the other.
  pasted_next : (at n : ℕ) (a b : List ℕ) → length a ≡ n → at ≤ length out → pasted (at + n) b (pasted at a out) ≡ pasted at (a ++ b) out
  unfolding pasted
  pasted_next at n a b e h =
      let front = take at out ++ a in
      let rest = drop (at + length a) out in
      let width : length front ≡ at + n = simp (length-append, length-take) (omega arith) in
      let behind : drop (at + n + length b) (front ++ rest) ≡ drop (at + length (a ++ b)) out =
      rw (← width, drop-append-add, drop-drop, length-append, e, ← add_assoc) in
      rw (take_at front rest (at + n) width, behind, append_assoc (take at out) a b)

  -- As the code comes by it: after what stands at the front, and from one buffer to the next.
  pub pasted_behind : (n : ℕ) (a b : List ℕ) → length a ≡ n → pasted n b (pasted 0 a out) ≡ pasted 0 (a ++ b) out
  pasted_behind n a b e = rw (← zero-add n) (pasted_next 0 n a b e (omega arith))

  pub then_pasted : (at n : ℕ) (a b now next : List ℕ) → length a ≡ n → at ≤ length out → now ≡ pasted at a out → next ≡ pasted (at + n) b now
      → next ≡ pasted at (a ++ b) out
  then_pasted at n a b now next e h was is = is ∙ ap (pasted (at + n) b) was ∙ pasted_next at n a b e h

  -- The last byte first, as a number's digits are written.
  pub pasted_last : (at n b : ℕ) (a : List ℕ) → length a ≡ n → at + n < length out → pasted at (a ++ (b ∷ [])) out ≡ pasted at a (set out (at + n) b)
  unfolding pasted
  pasted_last at n b a e h =
      let place : at + length (a ++ (b ∷ [])) ≡ suc (at + n) = simp length-append (omega arith) in
      let rest = b ∷ drop (suc (at + n)) out in
      let here : drop (at + n) (set out (at + n) b) ≡ rest =
      rw (set_split out (at + n) b h, drop_at (take (at + n) out) rest (at + n) (length-take-le (at + n) out (omega arith))) in
      rw (take-set-le at out (at + n) b (omega arith), e, here, place, ← append_assoc, append_snoc)
