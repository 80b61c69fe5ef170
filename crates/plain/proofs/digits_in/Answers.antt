-- The invariant: the places that are left, read behind the value so far, say what all of them say; and the value
-- is below 2 times 10 to the places read.
use Prim.Native.Nat.{◌-◌}
use mathlib.Core.Path.{sym, ◌∙◌}
use native.Mathlib.Omega.{arith}
use Rattle.plain.specs.Sweeps.{digits_done, digits_more, digits_fit, next_more}
use Rattle.plain.proofs.digits_in.Goals as goal

pub loop-i-preserved : goal.loop-i-preserved
loop-i-preserved c =
    let l = c.loop-i in
    let args = c.args in
    let line = args.line.now in (
      omega arith,
      omega arith,
      rw c.from.ensures (next_more l.v _ args.from l.i l.invariant.0 l.invariant.2),
      rw c.from.ensures (sym (digits_more line l.v l.i args.to c.loop-i-test.true) ∙ l.invariant.3),
    )

pub returns : goal.returns
returns c =
    let l = c.loop-i in
    let args = c.args in
    sym (digits_done args.line.now l.v l.i args.to c.loop-i-test.false) ∙ l.invariant.3

pub overflow_mul-v : goal.overflow_mul-v
overflow_mul-v c = omega (arith, digits_fit c.loop-i.v (c.loop-i.i - c.args.from) c.loop-i.invariant.2 (omega arith))

pub overflow_add-v : goal.overflow_add-v
overflow_add-v c = omega (arith, digits_fit c.loop-i.v (c.loop-i.i - c.args.from) c.loop-i.invariant.2 (omega arith), c.from.ensures)
