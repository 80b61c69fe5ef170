-- Laws: how many words are written, and how a loop writes one after the other.
use Rattle.std.specs.Prelude.{ℕ, suc, ◌+◌, ◌≤◌, ◌<◌, List, [], ◌∷◌, ◌++◌, ◌≡◌, refl, length, get_or, take, drop, set}
use Rattle.std.proofs.Common.{sym, ap, add-one, arith, length-take-le, take_all, take-suc, drop-cons, lt-ltb, le-ltb}
use Rattle.std.proofs.lemmas.List.{set_at}
use Rattle.std.proofs.Math.Seq.{append_snoc}
use Rattle.edits.specs.declared.Phase.TheVariants.{BeforeA, AfterA, EOpen, AfterT, AfterF}
use Rattle.state.specs.Walks.{Standing, reading, accepted, refused, Walk}
use Rattle.state_words.specs.Words.{word_count, standing_words, number_words, words_of, put_words, word}

abbrev pub first_four : List ℕ → List ℕ
first_four words = word words 0 ∷ word words 1 ∷ word words 2 ∷ word words 3 ∷ []

pub four : (s : Standing) → standing_words s ≡ first_four (standing_words s)
four (reading BeforeA) = refl
four (reading AfterA) = refl
four (reading EOpen) = refl
four (reading AfterT) = refl
four (reading AfterF) = refl
four accepted = refl
four (refused says) = refl

pub words_told : (walk : Walk) → first_four (standing_words walk.standing) ++ number_words walk ≡ words_of walk
words_told walk = ap (λ (first : List ℕ). first ++ number_words walk) (sym (four walk.standing))

pub words_length : (walk : Walk) → length (words_of walk) ≡ word_count
words_length walk = ap length (sym (words_told walk))

-- ---- a loop's steps: the first i words are written.
abbrev pub written : List ℕ → ℕ → List ℕ → List ℕ
written from i words = take i from ++ drop i words

module _ (from words : List ℕ) where
  pub one_more : (i : ℕ) → i < length from → i < length words → set (written from i words) i (get_or from i 0) ≡ written from (i + 1) words
  one_more i h k =
      rw (
        drop-cons words i 0 k,
        set_at (take i from) (get_or words i 0) (drop (suc i) words) (get_or from i 0) i (length-take-le i from (omega arith)),
        add-one,
        take-suc from i 0 h,
        append_snoc,
      )

module _ (walk : Walk) (words : List ℕ) where
  pub too_few : length words < word_count → words ≡ put_words walk words
  unfolding put_words
  too_few h = rw (lt-ltb (length words) word_count h)

  pub enough : word_count ≤ length words → put_words walk words ≡ words_of walk ++ drop word_count words
  unfolding put_words
  enough h = rw (le-ltb (length words) word_count h)

  pub all_written : word_count ≤ length words → (from : List ℕ) → from ≡ words_of walk → written from word_count words ≡ put_words walk words
  all_written h from e = rw (e, enough h, take_all word_count (words_of walk) (omega (arith, words_length walk)))
