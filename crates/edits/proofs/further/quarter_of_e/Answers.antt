use mathlib.Core.Path.{sym, ◌∙◌}
use Rattle.edits.specs.EditLaws.{or_fine}
use Rattle.edits.proofs.ShortLists.{of_two}
use Rattle.edits.proofs.further.quarter_of_e.Goals as goal

pub returns-then-is_first_e : goal.returns-then-is_first_e
returns-then-is_first_e c =
    rw (of_two _ _, sym c.is_first_e.ensures ∙ c.if-is_first_e.true, ← c.quarter_held-held.ensures, ← c.is_after.ensures)
    (c.unless.ensures ∙ sym (or_fine _))

pub returns : goal.returns
returns c =
    rw (of_two _ _, sym c.is_first_e.ensures ∙ c.if-is_first_e.false) c.unless-2.ensures
