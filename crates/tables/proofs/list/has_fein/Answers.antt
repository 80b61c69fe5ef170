-- The test is that for an entry's FEIN.
use Rattle.std.proofs.Common.{rules, eqb, ◌∙◌}
use Rattle.tables.specs.TableSteps.{any_fein}
use Rattle.tables.specs.declared.Employer.{Employer}
use Rattle.tables.proofs.list.has_fein.Goals as goal

pub returns : goal.returns
returns c = c.any_of.ensures (λ (e : Employer). eqb e.fein c.args.fein) (λ x passes is. search rules) ∙ any_fein c.args.fein _
