-- Each turn writes one word more.
use Rattle.std.proofs.Common.{◌≡◌}
use Rattle.state_words.specs.WordsWritten.{written}
use Rattle.wage.proofs.Numbers.tell.Given as goal

abbrev pub invariant-loop-i : goal.invariant-loop-i
invariant-loop-i l = l.answer ≡ written l.words l.i l.initial.answer
