-- Definitions: the edits of a record before its fields, in every format, "characters, letter, place"; and what they find, one after the other.
use Rattle.std.specs.Prelude.{ℕ, Bool, List, ◌∷◌}
use Rattle.laws.specs.Finding.{Finding, or_else}
use Rattle.chars.specs.Columns.{every_column, unless}
use Rattle.chars.specs.declared.columns.Allowed.TheVariants.{Permitted}
use Rattle.edits.specs.Edit.{Edit, rule, each_column}

-- Of a text of so many columns: whether its letter is known, and the edits of its place.
abbrev pub head_of : ℕ → Bool → List Edit → List ℕ → List Edit
head_of length known placed text = each_column 3 Permitted text 1 length ∷ rule 4 1 known ∷ placed

abbrev pub head_test : ℕ → Bool → Finding → List ℕ → Finding
head_test length known placed text = or_else (every_column Permitted text 1 length) (or_else (unless known 1 4) placed)
