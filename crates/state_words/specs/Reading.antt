-- Laws: what words that are read tell, and when they tell nothing.
use Rattle.std.specs.Prelude.{ℕ, ◌≤◌, ◌<◌, Bool, true, false, List, ◌≡◌, refl, ltb, length, if◌then◌else◌, Option, None, Some}
use Rattle.std.proofs.Common.{arith, lt-ltb, le-ltb}
use Rattle.std.proofs.Math.ListN.{get_or-eq_default}
use Rattle.reason.specs.ReasonNumbers.{number_of, reason_of, is_listed, notice}
use Rattle.reason.specs.Once.{listed_number}
use Rattle.state.specs.Walks.{Standing, refused}
use Rattle.state_words.specs.Words.{word_count, word, line_in, column_in, refusal_in, standings, standing_in, unfit_walk, walk_told, walk_in}

-- A number that is none of the seven, in two steps.
past_three : (n : ℕ) → (n ≡ 0 → ⊥) → (n ≡ 1 → ⊥) → (n ≡ 2 → ⊥) → (n ≡ 3 → ⊥) → 3 < n
past_three n a b c d = omega arith

past_six : (n : ℕ) → 3 < n → (n ≡ 4 → ⊥) → (n ≡ 5 → ⊥) → (n ≡ 6 → ⊥) → 6 < n
past_six n h a b c = omega arith

either : (t : Bool) → (if t then unfit_walk else unfit_walk) ≡ unfit_walk
either true = refl
either false = refl

module _ (words : List ℕ) where
  -- ---- where it stands
  pub listed_told : is_listed (word words 1) ≡ true
      → Some (refused (notice (number_of (reason_of (word words 1))) (line_in (word words 2)) (column_in (word words 3)))) ≡ refusal_in words
  listed_told e = rw (listed_number (word words 1) e, e)

  pub unlisted_told : is_listed (word words 1) ≡ false → refusal_in words ≡ None
  unlisted_told e = rw e

  pub nowhere_told : 6 < word words 0 → standing_in words ≡ None
  nowhere_told h = get_or-eq_default (standings words) None h

  pub none_of_seven : (word words 0 ≡ 0 → ⊥) → (word words 0 ≡ 1 → ⊥) → (word words 0 ≡ 2 → ⊥) → (word words 0 ≡ 3 → ⊥) → (word words 0 ≡ 4 → ⊥)
      → (word words 0 ≡ 5 → ⊥) → (word words 0 ≡ 6 → ⊥) → standing_in words ≡ None
  none_of_seven a b c d e f g = nowhere_told (past_six (word words 0) (past_three (word words 0) a b c d) e f g)

  pub unnamed_told : word words 0 ≡ 6 → is_listed (word words 1) ≡ false → standing_in words ≡ None
  unnamed_told e f = rw (e, f)

  -- ---- the walk
  pub few_told : length words < word_count → walk_in words ≡ unfit_walk
  unfolding walk_in
  few_told h = rw (lt-ltb (length words) word_count h)

  pub none_told : standing_in words ≡ None → walk_in words ≡ unfit_walk
  unfolding walk_in
  none_told e = rw e (either (ltb (length words) word_count))

  pub all_told : (told : Option Standing) → word_count ≤ length words → standing_in words ≡ told → walk_in words ≡ walk_told words told
  unfolding walk_in
  all_told told h e = rw (le-ltb (length words) word_count h, e)
