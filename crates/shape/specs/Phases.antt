-- Definitions: where a line stands, as a truth value.
use Rattle.std.specs.Prelude.{ℕ, Bool, eqb}
use Rattle.edits.specs.declared.Phase.{Phase}
use Rattle.edits.specs.declared.Phase.TheVariants.{BeforeA, AfterA, EOpen, AfterT, AfterF}

abbrev phase_number : Phase → ℕ
phase_number BeforeA = 0
phase_number AfterA = 1
phase_number EOpen = 2
phase_number AfterT = 3
phase_number AfterF = 4

-- The line stands in this phase.
abbrev pub stands : Phase → Phase → Bool
stands this phase = eqb (phase_number this) (phase_number phase)
