-- Laws: only the first n + 2 bytes matter to a line that is to have n characters, 292 for 290:
-- a call that is lent them answers as if it were lent all that remains.
use Rattle.std.specs.Prelude.{ℕ, zero, suc, ◌+◌, ◌-◌, ◌≤◌, ◌<◌, Bool, true, false, List, [], ◌∷◌, ◌≡◌, refl, leb, length, take, drop, if◌then◌else◌}
use Rattle.std.proofs.Common.{inl, inr, sym, ap, ◌∙◌, arith, leb-true, leb-false, length-take, take_all}
use Rattle.std.proofs.Math.Nat.{sub-zero, zero-sub, suc-sub-suc}
use Rattle.std.proofs.Math.Seq.{take-nil}
use Rattle.lines.specs.Cutting.{cutting}
use Rattle.lines.specs.Lines.{is_end, text_of, end_of, first_line}
use Rattle.lines.specs.CutOutcomes.{too_long}
use Rattle.lines.specs.Lent.{Lent}

-- ---- a part in front of the bytes
text_take : (m : ℕ) (s : List ℕ) → text_of (take m s) ≡ take m (text_of s)
unfolding text_of
text_take zero s = refl
text_take (suc m) [] = refl
text_take (suc m) (b ∷ s) = at (is_end b) (text_take m s) where
  at : (t : Bool) → text_of (take m s) ≡ take m (text_of s) → (if t then [] else b ∷ text_of (take m s)) ≡ take (suc m) (if t then [] else b ∷ text_of s)
  at true e = refl
  at false e = ap (λ (l : List ℕ). b ∷ l) e

end_take : (m : ℕ) (s : List ℕ) → 2 ≤ m → end_of (take m s) ≡ end_of s
unfolding end_of
end_take zero s h = absurd (omega arith)
end_take (suc zero) s h = absurd (omega arith)
end_take (suc (suc m)) [] h = refl
end_take (suc (suc m)) (b ∷ []) h = refl
end_take (suc (suc m)) (b ∷ d ∷ s) h = refl

drop_take : (k m : ℕ) (s : List ℕ) → drop k (take m s) ≡ take (m - k) (drop k s)
drop_take zero m s = rw sub-zero
drop_take (suc k) zero s = rw zero-sub
drop_take (suc k) (suc m) [] = sym (take-nil (suc m - suc k))
drop_take (suc k) (suc m) (b ∷ s) = rw suc-sub-suc (drop_take k m s)

-- ---- the window
module _ (n m : ℕ) (s : List ℕ) where
  -- A line of at most n characters is the same line in the window,
  pub window_line : n + 2 ≤ m → length (text_of s) ≤ n → first_line (take m s) ≡ first_line s
  window_line h short =
      let size = length (text_of s) in
      let text : text_of (take m s) ≡ text_of s = text_take m s ∙ take_all m (text_of s) (omega arith) in
      let ending : end_of (drop size (take m s)) ≡ end_of (drop size s) = ap end_of (drop_take size m s) ∙ end_take (m - size) (drop size s) (omega arith) in
      rw (text, ending)

  -- and cutting answers the same whatever the length.
  pub window_cut : n + 2 ≤ m → cutting n (first_line (take m s)) ≡ cutting n (first_line s)
  window_cut h = at (leb (length (text_of s)) n) refl where
    at : (t : Bool) → leb (length (text_of s)) n ≡ t → cutting n (first_line (take m s)) ≡ cutting n (first_line s)
    at true e = ap (cutting n) (window_line h (leb-true (length (text_of s)) n e))
    at false e =
        let long = leb-false (length (text_of s)) n e in
        let still : n < length (text_of (take m s)) = rw (text_take m s, length-take m (text_of s)) (omega arith) in
        too_long n (first_line (take m s)) still ∙ sym (too_long n (first_line s) long)

  -- A call that is lent so many answers as if it were lent all that remains.
  pub lent_alike : Lent n m s → cutting n (first_line (take m s)) ≡ cutting n (first_line s)
  lent_alike (inl h) = window_cut h
  lent_alike (inr h) = rw (take_all m s h)

  pub lent_line : Lent n m s → length (text_of s) ≤ n → first_line (take m s) ≡ first_line s
  lent_line (inl h) short = window_line h short
  lent_line (inr h) short = rw (take_all m s h)
