-- The invariant: what is told so far is told of the columns that the sweep has passed.
use mathlib.Core.Path.{◌≡◌, sym}
use native.Mathlib.Omega.{arith}
use Rattle.plain.specs.Sweeps.{within_none, within_more, within_two_more}
use Rattle.plain.proofs.within.Goals as goal

pub loop-i-preserved : goal.loop-i-preserved
loop-i-preserved c =
    let l = c.loop-i in
    let args = c.args in
    (omega arith, rw l.invariant.1 (sym (within_more args.low.now args.high.now args.line.now l.i)))

pub returns : goal.returns
returns c =
    let args = c.args in
    let all : c.loop-i.i ≡ 288 = omega arith in
    rw (c.loop-i.invariant.1, all) (sym (within_two_more args.low.now args.high.now args.line.now 288))

pub loop-i-init : goal.loop-i-init
loop-i-init c = (omega arith, sym (within_none _ _ _))
