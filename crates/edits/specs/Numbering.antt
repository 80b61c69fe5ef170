-- Definitions: the numbers of a list of edits in order, and that the first columns of edits never fall: what a table copied from a paper is held against.
use Rattle.std.specs.Prelude.{ℕ, Bool, true, ◌&&◌, List, [], ◌∷◌, map, ◌⊎◌, ◌≡◌, leb}
use Rattle.edits.specs.Edit.{Edit}

abbrev pub numbers_of : List Edit → List ℕ
numbers_of edits = map (λ (edit : Edit). edit.number) edits

-- "then fields by first column"
abbrev pub never_falls : List Edit → Bool
never_falls [] = true
never_falls (edit ∷ []) = true
never_falls (edit ∷ next ∷ edits) = leb edit.first next.first && never_falls (next ∷ edits)

-- The number is one of the list; and each of the list passes a test.
abbrev pub OneOf : ℕ → List ℕ → Type 0
OneOf number [] = ⊥
OneOf number (this ∷ numbers) = (number ≡ this) ⊎ OneOf number numbers

abbrev pub all_pass : (ℕ → Bool) → List ℕ → Bool
all_pass test [] = true
all_pass test (number ∷ numbers) = test number && all_pass test numbers
