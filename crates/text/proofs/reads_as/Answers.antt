use Rattle.std.proofs.Common.{ℕ, get_or, rules, tests, ◌∙◌}
use Rattle.std.proofs.lemmas.Iterator.{YieldsList-from_slice}
use Rattle.std.proofs.lemmas.Iterator.Consumers.{YieldsList-from_enumerate}
use Rattle.std.proofs.lemmas.Iterator.Search.{all_from_yields_List}
use Rattle.chars.specs.Characters.{capitals}
use Rattle.text.specs.Text.{is_asked}
use Rattle.text.specs.TextLaws.{reads_all}
use Rattle.text.proofs.reads_as.Goals as goal

pub returns : goal.returns
returns c =
    let text = capitals c.args.text.now in
    let pattern = c.args.pattern.now in
    all_from_yields_List (λ (p : ℕ × ℕ). is_asked p.1 (get_or text p.0 0)) _ _ c.all.result c.all.ensures.ran
    (YieldsList-from_enumerate (YieldsList-from_slice pattern (cc)) (cc)) (λ x b q k. search (rules, tests))
    ∙ reads_all pattern text 0
