-- The test is that for the number.
use Rattle.std.proofs.Common.{rules, eqb, ◌∙◌}
use Rattle.tables.specs.TableSteps.{any_number}
use Rattle.tables.proofs.ids.has.Goals as goal

pub returns : goal.returns
returns c = c.any_of.ensures (λ x. eqb x c.args.id) (λ x passes is. search rules) ∙ any_number c.args.id _
