use Rattle.std.proofs.Common.{sym, ap, ◌∙◌}
use Rattle.state_words.specs.Reading.{few_told, none_told, all_told}
use Rattle.state_words.specs.Words.{told_of}
use Rattle.state_words.proofs.state_in.Goals as goal

pub returns-then-words-lt-WORDS : goal.returns-then-words-lt-WORDS
returns-then-words-lt-WORDS c = c.unfit_state.ensures ∙ sym (few_told _ c.if-words-lt-WORDS.true)

pub returns-in_default : goal.returns-in_default
returns-in_default c = c.unfit_state-in_default.ensures ∙ sym (none_told _ (sym c.stage_in.ensures ∙ ap told_of c.in_default.is))

pub returns : goal.returns
returns c = c.state_told.ensures ∙ sym (all_told _ _ c.if-words-lt-WORDS.false (sym c.stage_in.ensures ∙ ap told_of c.in-Some.is))
