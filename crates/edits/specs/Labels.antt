-- Definitions: the label of an edit: that what the edit finds is what its label says; and the first broken edit of a list, told by its label.
use Rattle.std.specs.Prelude.{ℕ, ◌≤◌, Bool, false, ◌||◌, List, [], ◌∷◌, ◌++◌, ◌≡◌, eqb}
use Rattle.laws.specs.Finding.{broken}
use Rattle.edits.specs.Edit.{Edit, AllFine}

-- The numbers that name a column: 30, 31 and 54 "at the first", 3 "first bad character, its column", 1 "column is the lesser of length + 1 and 291".
abbrev pub names_column : ℕ → Bool
names_column number = eqb number 1 || eqb number 3 || eqb number 30 || eqb number 31 || eqb number 54

-- What an edit finds is told by its label: its number, which is never 0, "accepted", and a column from its first to its last.
pub record ByLabel (edit : Edit) (column number : ℕ) : Type 0 where
  pub same_number : number ≡ edit.number
  pub not_accepted : number ≡ 0 → ⊥
  pub from_first : edit.first ≤ column
  pub to_last : column ≤ edit.last
  -- "other field refusals give the field's first column"
  pub at_first : names_column number ≡ false → column ≡ edit.first

-- Whatever an edit of the list finds is told by its label.
unfoldable pub AllLabelled : List Edit → Type 0
AllLabelled [] = Unit {0}
AllLabelled (edit ∷ edits) = ((column number : ℕ) → edit.finds ≡ broken column number → ByLabel edit column number) × AllLabelled edits

-- The finding is that of one edit of the list, told by its label, and none of those before it is broken.
pub record FirstIn (edits : List Edit) (column number : ℕ) : Type 0 where
  pub earlier : List Edit
  pub edit : Edit
  pub later : List Edit
  pub stands : edits ≡ earlier ++ (edit ∷ later)
  pub none_earlier : AllFine earlier
  pub hit : edit.finds ≡ broken column number
  pub by_label : ByLabel edit column number
