use Rattle.std.proofs.Common.{rules}
use Rattle.edits.specs.EditLaws.{first_append, first_one}
use Rattle.pfml.proofs.PfmlLayout.placed_edit.Goals as goal

pub returns-in_err-place_edit : goal.returns-in_err-place_edit
returns-in_err-place_edit c = rw (first_append, ← c.in_err-place_edit.ensures) (search rules)

pub returns : goal.returns
returns c = rw (first_append, ← c.in_ok-place_edit.ensures, first_one) c.count_edit.ensures
