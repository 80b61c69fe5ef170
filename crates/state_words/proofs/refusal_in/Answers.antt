use Rattle.std.proofs.Common.{sym, ◌∙◌}
use Rattle.std.specs.Prelude.{Result, Ok, Err, Some, ◌≡◌}
use Rattle.std.specs.Result.{result_ok}
use Rattle.reason.specs.Once.{has_listed}
use Rattle.reason.specs.declared.Reason.{Reason}
use Rattle.reason.specs.declared.NotListed.{NotListed}
use Rattle.state_words.specs.Words.{word}
use Rattle.state_words.proofs.refusal_in.Goals as goal

was_ok : (told : Result Reason NotListed) (reason : Reason) → result_ok told ≡ Some reason → told ≡ Ok reason
was_ok (Ok reason) other is = search
was_ok (Err none) other is = search

pub returns : goal.returns
returns c =
    let is = was_ok c.try_from.result c.in_ok-reason.reason (sym c.ok.ensures.value ∙ c.in_ok-reason.was) in
    let told = has_listed (word c.args.words.now 1) c.in_ok-reason.reason (sym c.try_from.ensures ∙ is) in
    rw (told.0, told.1, c.line_in.ensures, c.column_in.ensures)
