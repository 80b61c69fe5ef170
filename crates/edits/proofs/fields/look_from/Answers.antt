use mathlib.Core.Path.{sym, ◌∙◌}
use native.Mathlib.Omega.{arith}
use Rattle.laws.specs.First.{first_done}
use Rattle.chars.specs.Characters.{capitals}
use Rattle.chars.specs.Columns.{allowed_test}
use Rattle.chars.specs.ColumnLaws.{every_says}
use Rattle.chars.specs.Sweep.{told_fine}
use Rattle.edits.proofs.fields.look_from.Goals as goal

pub returns-then-all_hold : goal.returns-then-all_hold
returns-then-all_hold c =
    let args = c.args in
    told_fine _ (sym c.all_hold.ensures ∙ c.if-all_hold.true)
    ∙ sym (first_done (allowed_test args.allowed (capitals args.line.now)) args.field.last args.field.last (omega arith))

pub returns : goal.returns
returns c = rw c.index_of.ensures (every_says _ _ _ _)
