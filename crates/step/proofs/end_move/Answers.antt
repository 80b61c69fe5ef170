use mathlib.Core.Path.{sym, ◌∙◌, ap}
use Rattle.state.specs.UnfitLaws.{fit_lines}
use Rattle.state.specs.Walks.{walk_of, standing_of}
use Rattle.step.specs.MoveLaws.{end_unfit, end_fit}
use Rattle.step.proofs.end_move.Goals as goal

pub end_reading-requires : goal.end_reading-requires
end_reading-requires c = fit_lines _ (walk_of c.args.st) (sym c.is_unfit.ensures ∙ c.if-is_unfit.false)
