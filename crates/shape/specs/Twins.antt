-- Definitions: two texts of employees that are alike but in hidden columns, in contexts that are alike but for the sums.
use Rattle.std.specs.Prelude.{ℕ, ◌+◌, Bool, true, false, List, ◌≡◌, eqb, get_or}
use Rattle.laws.specs.Finding.{fine}
use Rattle.chars.specs.Characters.{is_permitted}
use Rattle.edits.specs.Counted.{without_sums}
use Rattle.edits.specs.Edit.{first_broken}
use Rattle.edits.specs.declared.Context.{Context}
use Rattle.edits.specs.declared.Seen.{Seen}
use Rattle.shape.specs.Hidden.{of_employee, employee_in}
use Rattle.shape.specs.Shape.{Shape}

-- The same characters in every column that is not hidden; and only permitted ones in those that are.
abbrev pub Alike : (ℕ → Bool) → List ℕ → List ℕ → Type 0
Alike hides u v = (at : ℕ) → hides (at + 1) ≡ false → get_or u at 0 ≡ get_or v at 0

abbrev pub Permits : (ℕ → Bool) → List ℕ → Type 0
Permits hides u = (at : ℕ) → hides (at + 1) ≡ true → is_permitted (get_or u at 0) ≡ true

pub record Twins (s : Shape) (here here' : Context) (seen seen' : Seen) (u v : List ℕ) : Type 0 where
  pub contexts : without_sums here ≡ without_sums here'
  pub employee_one : of_employee (s.says u) ≡ true
  pub employee_other : of_employee (s.says v) ≡ true
  pub columns : Alike (s.hides u) u v
  pub permitted_one : Permits (s.hides u) u
  pub permitted_other : Permits (s.hides u) v
  pub own_one : first_broken (s.hidden_own u) ≡ fine
  pub own_other : first_broken (s.hidden_own v) ≡ fine
  pub zeros : eqb (employee_in (s.says u)).id 0 ≡ eqb (employee_in (s.says v)).id 0
  pub asked : seen.id ≡ seen'.id
