-- What is told so far is told of the places that the sweep has passed.
use Rattle.std.proofs.Common.{rules, arith, sym}
use Rattle.chars.specs.Sweep.{behind_the_end, none_left, swept_more}
use Rattle.chars.proofs.columns.all_pass.Goals as goal

pub returns-in_default : goal.returns-in_default
returns-in_default g c = λ tells told none. behind_the_end tells _ _ _ none c.in_default.ensures.lookup.0

pub loop-c-init : goal.loop-c-init
loop-c-init g c = λ tells told. sym (none_left tells _ _)

pub loop-c-preserved : goal.loop-c-preserved
loop-c-preserved g c = λ tells told.
    let span = c.in-Some.ensures.lookup.0 in
    let now = told _ _ (search rules) c.test-good.ensures in
    let more = swept_more tells c.args.line.now c.args.from c.args.to c.loop-c.c-index (omega (arith, span.3)) in
    rw (c.loop-c.invariant tells told, now, span.2) (sym more)
