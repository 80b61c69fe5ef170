-- Definitions: what the functions over the two tables make of them and tell of them.
use Rattle.std.specs.Prelude.{ℕ, min, Bool, false, ◌||◌, List, [], ◌∷◌, ◌++◌, map, eqb, length, get_or, drop, set, replicate}
use Rattle.tables.specs.declared.Employer.{Employer}

-- The first n entries at rest, as z is, and the others as they are.
unfoldable pub wiped : {A : Type 0} → A → ℕ → List A → List A
wiped z n l = replicate (min n (length l)) z ++ drop n l

-- Whether a number is among these.
unfoldable pub is_among : ℕ → List ℕ → Bool
is_among v [] = false
is_among v (x ∷ xs) = eqb x v || is_among v xs

-- ---- the employer list
-- An entry at rest.
abbrev pub no_employer : Employer
no_employer = record { fein = 0; count = 0; cents = 0; amended = 0; final_return = 0; cease_date = 0 }

-- An entry done: it gets the count and the cents, and keeps its other numbers.
abbrev pub closed : Employer → ℕ → ℕ → Employer
closed e count cents =
    record {
      fein = e.fein;
      count = count;
      cents = cents;
      amended = e.amended;
      final_return = e.final_return;
      cease_date = e.cease_date;
    }

-- The list with the entry at a place done.
unfoldable pub closed_entry_at : ℕ → ℕ → ℕ → List Employer → List Employer
closed_entry_at at count cents l = set l at (closed (get_or l at no_employer) count cents)

-- The list with its last entry done.
abbrev pub closed_last : ℕ → ℕ → List Employer → List Employer
closed_last count cents [] = []
closed_last count cents (entry ∷ []) = closed entry count cents ∷ []
closed_last count cents (entry ∷ next ∷ entries) = entry ∷ closed_last count cents (next ∷ entries)

abbrev pub feins_of : List Employer → List ℕ
feins_of l = map (λ (e : Employer). e.fein) l
