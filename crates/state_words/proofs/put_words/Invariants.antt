-- Each turn writes one word more.
use Rattle.std.proofs.Common.{◌≡◌}
use Rattle.state_words.specs.WordsWritten.{written}
use Rattle.state_words.proofs.put_words.Given as goal

abbrev pub invariant-loop-i : goal.invariant-loop-i
invariant-loop-i l = l.words ≡ written l.all l.i l.initial.words
