-- The invariant: the columns that are left, filled, make of the line what all of them would.
use mathlib.Core.Path.{sym, ◌∙◌}
use native.Mathlib.Omega.{arith}
use Rattle.text.specs.PutLaws.{text_sets}
use Rattle.edits.specs.FieldRowLaws.{fill_stops, fill_more}
use Rattle.edits.proofs.rows.fill_at.Goals as goal

pub loop-at-preserved : goal.loop-at-preserved
loop-at-preserved c = c.loop-at.invariant ∙ fill_more c.loop-at.line c.loop-at.at c.args.field.last c.args.c (omega (arith, c.loop-at-test.true, c.min-at-end.ensures))

pub returns : goal.returns
returns c =
    sym (text_sets _ _ _ ∙ rw (← c.index_of-from.ensures)
    (c.loop-at.invariant ∙ fill_stops _ _ _ _ c.min-at-end.result (rw c.loop-at.auto.line c.min-at-end.ensures) c.loop-at-test.false))
