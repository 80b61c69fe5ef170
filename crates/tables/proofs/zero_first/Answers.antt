-- Each turn wipes one more.
use Rattle.std.proofs.Common.{sym, ap, ◌∙◌, set}
use Rattle.tables.specs.Laws.{wiped_none}
use Rattle.tables.specs.TableSteps.{wiped_more, wiped_part}
use Rattle.tables.proofs.zero_first.Goals as goal

pub loop-entry-init : goal.loop-entry-init
loop-entry-init g c = sym (wiped_none c.args.rest _)

pub loop-entry-preserved : goal.loop-entry-preserved
loop-entry-preserved g c =
    let l = c.loop-entry in
    ap (λ t. set t l.entry-index c.args.rest) l.invariant ∙ wiped_more c.args.rest _ l.entry-index c.loop-entry-test.true

pub returns : goal.returns
returns g c = rw (c.loop-entry.invariant, c.min-end.ensures) (wiped_part c.args.rest c.args.n c.loop-entry.entry-index c.args.table.now (rw (← c.min-end.ensures) c.loop-entry-test.false))
