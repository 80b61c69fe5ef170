use mathlib.Core.Path.{refl, ◌∙◌}
use Rattle.frames.specs.FrameLaws.{none_written, one_more}
use Rattle.frames.proofs.put_employers.Goals as goal

pub loop-i-init : goal.loop-i-init
loop-i-init c = (refl, none_written c.args.format c.args.list.now c.args.out.now)

pub loop-i-preserved : goal.loop-i-preserved
loop-i-preserved c =
    let l = c.loop-i in
    let put = rw l.invariant.1 at c.put_employer.ensures in
    (c.put_employer.auto.out ∙ l.invariant.0, put ∙ one_more c.args.format c.args.list.now l.i c.args.out.now c.loop-i-test.true)
