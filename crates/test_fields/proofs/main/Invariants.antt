-- Each turn takes a case and its mark.
use Rattle.std.proofs.Common.{length}
use Rattle.test_fields.proofs.main.Given as goal

abbrev pub decreases-loop-end : goal.decreases-loop-end
decreases-loop-end l = length l.rest
