-- Each turn copies one character more.
use Rattle.std.proofs.Common.{ap, ◌∙◌, set, get_or, ◌+◌, ◌-◌, arith}
use Rattle.std.proofs.lemmas.List.Edits.{paste_none, paste_more}
use Rattle.text.specs.Put.{put_text}
use Rattle.text.specs.PutLaws.{text_copied}
use Rattle.text.proofs.put.put_text.Goals as goal

pub loop-i-init : goal.loop-i-init
loop-i-init c = paste_none c.args.line.now c.min-at.result c.args.text.now

pub loop-i-preserved : goal.loop-i-preserved
loop-i-preserved c =
    let l = c.loop-i in
    let line = c.args.line.now in
    let text = c.args.text.now in
    let at = c.min-at.result in
    ap (λ t. set t (at + l.i) (get_or text l.i 0)) l.invariant ∙ paste_more line at text l.i 0 (omega arith) (omega arith)

pub returns : goal.returns
unfolding put_text
returns c =
    let l = c.loop-i in
    l.invariant ∙ text_copied c.args.line.now c.args.text.now (c.args.first - 1) c.min-at.result l.i (omega arith) (omega arith)
