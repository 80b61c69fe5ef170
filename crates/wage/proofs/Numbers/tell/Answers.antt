-- Each turn writes one word more.
use Rattle.std.proofs.Common.{refl, ◌∙◌, arith}
use Rattle.state_words.specs.WordsWritten.{one_more}
use Rattle.wage.specs.ExportLaws.{all_told}
use Rattle.wage.proofs.Numbers.tell.Goals as goal

pub loop-i-init : goal.loop-i-init
loop-i-init c = refl

pub loop-i-preserved : goal.loop-i-preserved
loop-i-preserved c =
    let l = c.loop-i in
    rw l.invariant (one_more _ _ l.i (omega arith) (omega arith))

pub returns : goal.returns
returns c = (refl, c.loop-i.invariant ∙ all_told c.args.self c.args.answer.now c.loop-i.i (omega arith))
