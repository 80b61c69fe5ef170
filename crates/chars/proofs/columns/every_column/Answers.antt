-- The invariant: the columns left say what all of them say.
use mathlib.Core.Path.{sym, ◌∙◌}
use Rattle.std.proofs.Common.{rules}
use Rattle.laws.specs.First.{first_done, first_next, first_found}
use Rattle.chars.specs.Characters.{capitals}
use Rattle.chars.specs.ColumnLaws.{column_of}
use Rattle.chars.proofs.columns.every_column.Goals as goal

pub returns-in_err-column_edit : goal.returns-in_err-column_edit
returns-in_err-column_edit c =
    let l = c.loop-at in
    let a = c.args in
    let broken = c.in_err-column_edit.ensures in
    let found = l.invariant
    ∙ first_found _ _ _ c.loop-at-test.true _ _ (sym (column_of a.allowed (capitals a.line.now) l.at) ∙ sym broken) in
    search rules

pub loop-at-preserved : goal.loop-at-preserved
loop-at-preserved c =
    let l = c.loop-at in
    let a = c.args in
    l.invariant
    ∙ first_next _ _ _ c.loop-at-test.true
    (sym (column_of a.allowed (capitals a.line.now) l.at) ∙ sym c.in_ok-column_edit.ensures)

pub returns : goal.returns
returns c = sym (c.loop-at.invariant ∙ first_done _ _ _ c.loop-at-test.false)
