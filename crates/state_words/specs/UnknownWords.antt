-- Definitions: words that tell no walk.
use Rattle.std.specs.Prelude.{ℕ, ◌<◌, false, List, ◌≡◌, length}
use Rattle.reason.specs.ReasonNumbers.{is_listed}
use Rattle.state_words.specs.Words.{word_count, word}

-- They are too few; or the first is none of the seven; or it says refused, and the number is none of the paper's.
pub data Unknown (words : List ℕ) : Type 0 where
  few : length words < word_count → Unknown words
  nowhere : 6 < word words 0 → Unknown words
  unnamed : word words 0 ≡ 6 → is_listed (word words 1) ≡ false → Unknown words
