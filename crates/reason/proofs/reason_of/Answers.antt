use Rattle.std.proofs.Common.{ap, ◌∙◌}
use Rattle.std.specs.Prelude.{Result}
use Rattle.std.specs.Result.{result_unwrap_or}
use Rattle.reason.specs.Once.{listed_or_unfit}
use Rattle.reason.specs.declared.NotListed.{NotListed}
use Rattle.reason.specs.declared.Reason.{Reason}
use Rattle.reason.specs.declared.Reason.TheVariants.{StateUnfit}
use Rattle.reason.proofs.reason_of.Goals as goal

pub returns : goal.returns
returns c =
    c.unwrap_or.ensures ∙ ap (λ (told : Result Reason NotListed). result_unwrap_or told StateUnfit) c.try_from.ensures ∙ listed_or_unfit c.args.number
