-- Laws: how long a table of fixed length is, what its entries are, and what it is with one entry more or with all of them zeroed.
use Prim.Native.Nat.{ℕ, suc, ◌+◌, ◌-◌, ◌≤◌, ◌<◌}
use Rattle.std.specs.Prelude.{List, [], ◌∷◌, ◌++◌, ◌≡◌, take, set, replicate}
use Rattle.std.proofs.Common.{append_assoc}
use native.Mathlib.Omega.{arith}
use Rattle.std.proofs.Math.ListN.{length, length-append, replicate-append-replicate}
use Rattle.std.proofs.lemmas.List.{length-replicate}
use Rattle.std.proofs.Math.Seq.{take-append_seam, set_at}
use Rattle.tables.specs.Laws.{wiped_front}
use Rattle.tables.specs.Tables.{wiped}
use Rattle.tables.specs.Pad.{pad}

module _ {A : Type 0} (z : A) (n : ℕ) where
  pub pad_none : pad z n [] ≡ replicate n z
  unfolding pad
  pad_none = let all : n - 0 ≡ n = omega arith in rw all

  pub length_pad : (l : List A) → length l ≤ n → length (pad z n l) ≡ n
  unfolding pad
  length_pad l h = simp (length-append, length-replicate) (omega arith)

  pub take_pad : (l : List A) → take (length l) (pad z n l) ≡ l
  unfolding pad
  take_pad l = rw take-append_seam

  pub set_pad : (l : List A) (j : ℕ) (x : A) → length l ≡ j → j < n → set (pad z n l) j x ≡ pad z n (l ++ (x ∷ []))
  unfolding pad
  set_pad l j x e h =
      let more : n - length l ≡ suc (n - length (l ++ (x ∷ []))) = simp length-append (omega arith) in
      rw (more, set_at l z (replicate (n - length (l ++ (x ∷ []))) z) x j e, append_assoc)

  pub wiped_pad : (l : List A) → length l ≤ n → wiped z (length l) (pad z n l) ≡ replicate n z
  unfolding pad
  wiped_pad l h =
      let all : length l + (n - length l) ≡ n = omega arith in
      rw (wiped_front, replicate-append-replicate, all)
