-- Definitions: that no edit of a file is broken, and that an answer is the first broken one in the stated order.
use Rattle.std.specs.Prelude.{List, [], ◌∷◌, ◌++◌, ◌≡◌}
use Rattle.laws.specs.Finding.{fine, broken}
use Rattle.reason.specs.ReasonNumbers.{Notice}
use Rattle.edits.specs.Labels.{ByLabel}
use Rattle.meaning.specs.Meaning.{LineEdit}

-- Every edit of the list finds nothing.
abbrev pub NoneBroken : List LineEdit → Type 0
NoneBroken [] = Unit {0}
NoneBroken (e ∷ edits) = (e.edit.finds ≡ fine) × NoneBroken edits

-- The notice is that of one edit of the list, told by its label: its number, and a column from its first to its last, the first unless the number
-- names a column. None of those before it is broken.
pub record FirstBroken (edits : List LineEdit) (says : Notice) : Type 0 where
  pub earlier : List LineEdit
  pub edit : LineEdit
  pub later : List LineEdit
  pub stands : edits ≡ earlier ++ (edit ∷ later)
  pub none_earlier : NoneBroken earlier
  pub on_line : edit.line ≡ says.line
  pub hit : edit.edit.finds ≡ broken says.column says.number
  pub by_label : ByLabel edit.edit says.column says.number
