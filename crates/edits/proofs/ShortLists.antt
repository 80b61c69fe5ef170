-- The first broken edit of a list of one edit, and of two.
use mathlib.Core.List.{[], ◌∷◌}
use mathlib.Core.Path.{◌≡◌, ap}
use Rattle.laws.specs.Finding.{or_else}
use Rattle.edits.specs.Edit.{Edit, first_broken}
use Rattle.edits.specs.EditLaws.{or_fine}

pub of_one : (edit : Edit) → first_broken (edit ∷ []) ≡ edit.finds
unfolding first_broken
of_one edit = or_fine edit.finds

pub of_two : (edit next : Edit) → first_broken (edit ∷ next ∷ []) ≡ or_else edit.finds next.finds
unfolding first_broken
of_two edit next = ap (or_else edit.finds) (or_fine next.finds)
