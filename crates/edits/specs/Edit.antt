-- Definitions: an edit, the first broken one of a list, and a list with none broken.
use Rattle.std.specs.Prelude.{ℕ, Bool, List, [], ◌∷◌, ◌≡◌}
use Rattle.laws.specs.Finding.{Finding, fine, or_else}
use Rattle.chars.specs.Columns.{every_column, unless}
use Rattle.chars.specs.declared.columns.Allowed.{Allowed}

-- Its label, the paper's number and the first and the last column that it can tell; and what it finds in a line.
pub record Edit : Type 0 where
  pub number : ℕ
  pub first : ℕ
  pub last : ℕ
  pub finds : Finding

-- Said of one edit alone, whatever stands before it.
abbrev pub Broken : Edit → Type 0
Broken edit = edit.finds ≡ fine → ⊥

-- "other field refusals give the field's first column"
abbrev pub at_first : ℕ → ℕ → Finding → Edit
at_first number first finds = record { number = number; first = first; last = first; finds = finds }

abbrev pub rule : ℕ → ℕ → Bool → Edit
rule number first passes = at_first number first (unless passes first number)

-- "A column named 'at the first' is that column"
abbrev pub each_column : ℕ → Allowed → List ℕ → ℕ → ℕ → Edit
each_column number allowed line first last = record { number = number; first = first; last = last; finds = every_column allowed line first last }

-- The first broken edit of a list in the stated order.
unfoldable pub first_broken : List Edit → Finding
first_broken [] = fine
first_broken (edit ∷ edits) = or_else edit.finds (first_broken edits)

-- Every edit of the list finds nothing.
abbrev pub AllFine : List Edit → Type 0
AllFine [] = Unit {0}
AllFine (edit ∷ edits) = (edit.finds ≡ fine) × AllFine edits
