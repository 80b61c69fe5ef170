-- Laws: what a loop over the edits i to end uses of `first_of`, and what makes its answer the first.
use Prim.Native.Nat.{ℕ, zero, suc, ◌+◌, ◌-◌, ◌<◌, ◌≤◌}
use Rattle.std.specs.Prelude.{◌≡◌}
use Rattle.std.proofs.Math.Path.{refl}
use Rattle.std.proofs.Common.{sym, ◌∙◌, add-zero}
use native.Mathlib.Omega.{arith}
use Rattle.laws.specs.Finding.{Finding, fine, broken, or_else, first_of, IsFirst}
use Rattle.laws.specs.LoopSteps.{left_suc, left_none}

-- ---- a loop's steps
module _ (edit : ℕ → Finding) (i end : ℕ) where
  pub first_done : end ≤ i → first_of edit i (end - i) ≡ fine
  unfolding first_of
  first_done h = rw (left_none end i h)

  pub first_next : i < end → edit i ≡ fine → first_of edit i (end - i) ≡ first_of edit (i + 1) (end - (i + 1))
  unfolding first_of
  first_next h passed = rw (left_suc end i h, passed)

  pub first_found : i < end → (column number : ℕ) → edit i ≡ broken column number → first_of edit i (end - i) ≡ broken column number
  unfolding first_of
  first_found h column number hit = rw (left_suc end i h, hit)

-- ---- the first
pub not_broken : (column number : ℕ) → fine ≡ broken column number → ⊥
not_broken column number e = let z : ◌≡◌ {A = ℕ} 0 1 = cc in omega arith

shifted : (edit : ℕ → Finding) (i k : ℕ) (f : Finding) → edit (i + 1 + k) ≡ f → edit (i + suc k) ≡ f
shifted edit i k f e = let p : i + suc k ≡ i + 1 + k = omega arith in rw p e

-- What stands before a later one: the first, and those between.
before_next : (edit : ℕ → Finding) (i at : ℕ) → edit i ≡ fine → ((k : ℕ) → k < at → edit (i + 1 + k) ≡ fine) → (k : ℕ) → k < suc at → edit (i + k) ≡ fine
before_next edit i at here rest zero h = rw add-zero here
before_next edit i at here rest (suc k) h = shifted edit i k fine (rest k (omega arith))

module _ (edit : ℕ → Finding) where
  here_first : (i n c number : ℕ) (f : Finding) → edit i ≡ f → or_else f (first_of edit (i + 1) n) ≡ broken c number
      → (first_of edit (i + 1) n ≡ broken c number → IsFirst edit (i + 1) n c number) → IsFirst edit i (suc n) c number
  here_first i n c number fine told e rest =
      let r = rest e in
      record {
        at = suc r.at;
        in_range = let h = r.in_range in omega arith;
        hit = shifted edit i r.at (broken c number) r.hit;
        none_before = before_next edit i r.at told r.none_before;
      }
  here_first i n c number (broken c' number') told e rest =
      record {
        at = 0;
        in_range = omega arith;
        hit = rw add-zero (told ∙ e);
        none_before = λ k h. absurd (omega arith);
      }

  -- A broken answer is the first broken edit.
  pub first_of_first : (n i column number : ℕ) → first_of edit i n ≡ broken column number → IsFirst edit i n column number
  unfolding first_of
  first_of_first zero i c number e = absurd (not_broken c number e)
  first_of_first (suc n) i c number e = here_first i n c number (edit i) refl e (first_of_first n (i + 1) c number)

  all_from : (i n : ℕ) (f : Finding) → edit i ≡ f → or_else f (first_of edit (i + 1) n) ≡ fine
      → (first_of edit (i + 1) n ≡ fine → (k : ℕ) → k < n → edit (i + 1 + k) ≡ fine) → (k : ℕ) → k < suc n → edit (i + k) ≡ fine
  all_from i n fine told e rest = before_next edit i n told (rest e)
  all_from i n (broken c number) told e rest = absurd (not_broken c number (sym e))

  -- An answer that finds nothing: no edit is broken.
  pub none_is_broken : (n i : ℕ) → first_of edit i n ≡ fine → (k : ℕ) → k < n → edit (i + k) ≡ fine
  unfolding first_of
  none_is_broken zero i e k h = absurd (omega arith)
  none_is_broken (suc n) i e k h = all_from i n (edit i) refl e (none_is_broken n (i + 1)) k h

  -- And the other way: where no edit is broken, nothing is found.
  pub finds_nothing : (n i : ℕ) → ((k : ℕ) → k < n → edit (i + k) ≡ fine) → first_of edit i n ≡ fine
  unfolding first_of
  finds_nothing zero i all = refl
  finds_nothing (suc n) i all =
      let here : edit i ≡ fine = rw (sym (add-zero i)) (all 0 (omega arith)) in
      rw here (finds_nothing n (i + 1) (λ k h. let p : i + 1 + k ≡ i + suc k = omega arith in rw p (all (suc k) (omega arith))))

-- ---- the same edits, and edits counted from elsewhere
pub first_same : (f g : ℕ → Finding) (n i : ℕ) → ((k : ℕ) → k < n → f (i + k) ≡ g (i + k)) → first_of f i n ≡ first_of g i n
unfolding first_of
first_same f g zero i same = refl
first_same f g (suc n) i same =
    let here : f i ≡ g i = rw (sym (add-zero i)) (same 0 (omega arith)) in
    let rest : first_of f (i + 1) n ≡ first_of g (i + 1) n =
    first_same f g n (i + 1) (λ k h. let p : i + 1 + k ≡ i + suc k = omega arith in rw p (same (suc k) (omega arith))) in
    rw (here, rest)

pub first_shift : (f : ℕ → Finding) (n i : ℕ) → first_of f (i + 1) n ≡ first_of (λ k. f (k + 1)) i n
unfolding first_of
first_shift f zero i = refl
first_shift f (suc n) i = rw (first_shift f n (i + 1))
