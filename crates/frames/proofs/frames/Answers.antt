-- By the walk's standing.
use mathlib.Core.Path.{refl, sym, ap, ◌∙◌}
use native.Mathlib.Omega.{arith}
use Rattle.state.specs.UnfitLaws.{fit_file}
use Rattle.state.specs.Walks.{walk_of, standing_of}
use Rattle.frames.specs.FrameLaws.{framing_unfit, framing_fit}
use Rattle.frames.proofs.frames.Goals as goal

pub returns-then-is_unfit : goal.returns-then-is_unfit
returns-then-is_unfit c =
    sym (framing_unfit (walk_of c.args.st) c.args.list.now c.args.out.now _ refl (sym c.is_unfit.ensures ∙ c.if-is_unfit.true))

pub accepted-requires : goal.accepted-requires
accepted-requires c =
    let fits = (fit_file _ (walk_of c.args.st) (sym c.is_unfit.ensures ∙ c.if-is_unfit.false)).employers in
    (omega (arith, fits), omega (arith, fits))

pub returns-in-Reading : goal.returns-in-Reading
returns-in-Reading c =
    sym (framing_fit (walk_of c.args.st) c.args.list.now c.args.out.now _ refl _ (sym c.is_unfit.ensures ∙ c.if-is_unfit.false) (ap standing_of c.in-Reading.is))

pub returns-in-Accepted : goal.returns-in-Accepted
returns-in-Accepted c =
    c.accepted.ensures
    ∙ sym (framing_fit (walk_of c.args.st) c.args.list.now c.args.out.now _ refl _ (sym c.is_unfit.ensures ∙ c.if-is_unfit.false) (ap standing_of c.in-Accepted.is))

pub returns-in-Refused : goal.returns-in-Refused
returns-in-Refused c =
    c.refused.ensures
    ∙ sym (framing_fit (walk_of c.args.st) c.args.list.now c.args.out.now _ refl _ (sym c.is_unfit.ensures ∙ c.if-is_unfit.false) (ap standing_of c.in-Refused.is))
