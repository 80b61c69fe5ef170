-- Laws: the paper's numbers lose nothing of what a run leaves: no second answer, and no second content of the id table, fits the promise of `behind`.
use Rattle.std.specs.Prelude.{ℕ, List, [], ◌≡◌}
use Rattle.std.proofs.Common.{ap}
use Rattle.tables.specs.Room.{tables}
use Rattle.step.specs.Once.{same_answer}
use Rattle.step.specs.Steps.{Out}
use Rattle.step.specs.declared.Answer.{Answer}
use Rattle.employees.specs.Runs.{Left, left_by}

-- What is left but for the employer list, beside an empty one.
abbrev beside_none : Left → Out
beside_none l = record { says = l.says; taken = l.taken; walk = l.walk; left = tables l.ids [] }

pub same_left : (a b : Answer) (ids more : List ℕ) → left_by a ids ≡ left_by b more → (a ≡ b) × (ids ≡ more)
same_left a b ids more e =
    (same_answer a b (tables ids []) (tables more []) (ap beside_none e), ap (λ (l : Left). l.ids) e)
