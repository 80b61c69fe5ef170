-- An end was found where the line is shorter than what was looked at.
use Rattle.std.proofs.Common.{arith}
use Rattle.std.proofs.lemmas.Grind.{common_steps}
use Rattle.lines.specs.Looking.{found_next, text_short}
use Rattle.lines.proofs.is_shorter.Goals as goal

pub returns-in_default : goal.returns-in_default
returns-in_default c =
    let short = text_short c.args.s.now in
    grind (arith, common_steps, c.in_default.ensures.lookup)

pub loop-b-preserved : goal.loop-b-preserved
loop-b-preserved c =
    let front = c.in-Some.ensures.lookup.0 in
    let more = found_next c.args.s.now c.args.n c.loop-b.b-index (omega (arith, front.3)) (omega (arith, front.1)) in
    rw (c.loop-b.invariant, c.from-found.ensures, c.is_end.ensures, front.2) more
