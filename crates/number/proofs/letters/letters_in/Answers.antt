use Rattle.std.proofs.Common.{◌<◌, arith, rules}
use Rattle.number.specs.LetterLaws.{next_letters, letters_fit}
use Rattle.number.proofs.Steps.{lettering}
use Rattle.number.proofs.letters.letters_in.Goals as goal

pub overflow_mul-v : goal.overflow_mul-v
overflow_mul-v c = omega (arith, letters_fit c.loop-at.v 0 _ c.loop-at.invariant.0 (omega arith) (omega arith))

pub overflow_add-v : goal.overflow_add-v
overflow_add-v c =
    let small : c.from.result < 256 = search rules in
    omega (arith, letters_fit c.loop-at.v c.from.result _ c.loop-at.invariant.0 small (omega arith))

pub loop-at-preserved : goal.loop-at-preserved
loop-at-preserved c =
    let small : c.from.result < 256 = search rules in
    (next_letters _ _ _ _ c.loop-at.auto.at c.loop-at.invariant.0 small, grind (arith, lettering))
