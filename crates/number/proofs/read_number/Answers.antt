use Rattle.std.proofs.Common.{sym, ◌∙◌, arith}
use Rattle.chars.specs.CharacterLaws.{digit_range}
use Rattle.number.specs.NumberLaws.{next_digits}
use Rattle.number.proofs.Steps.{reading, room_for_digit}
use Rattle.number.proofs.read_number.Goals as goal

pub overflow_mul-v : goal.overflow_mul-v
overflow_mul-v c = omega (arith, room_for_digit _ _ c.loop-at.invariant.1 (omega arith))

pub overflow_add-v : goal.overflow_add-v
overflow_add-v c =
    let digit = digit_range _ (sym c.is_digit.ensures ∙ c.if-not-is_digit.false) in
    omega (arith, room_for_digit _ _ c.loop-at.invariant.1 (omega arith))

pub loop-at-preserved : goal.loop-at-preserved
loop-at-preserved c =
    let digit = digit_range _ (sym c.is_digit.ensures ∙ c.if-not-is_digit.false) in
    let l = c.loop-at in
    (omega arith, next_digits _ _ _ _ l.auto.at l.invariant.1 (omega arith), grind (arith, reading))
