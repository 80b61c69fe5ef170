-- Follows the code; need not be believed. The place rules as tables, phase by phase, and that they say what the rules say.
use Rattle.std.specs.Prelude.{Bool, true, false, ◌≡◌}
use Rattle.laws.specs.Finding.{Finding, fine, broken}
use Rattle.edits.specs.Edit.{first_broken}
use Rattle.edits.specs.EditLaws.{first_cons, first_none}
use Rattle.edits.specs.declared.Phase.{Phase}
use Rattle.edits.specs.declared.Phase.TheVariants.{BeforeA, AfterA, EOpen, AfterT, AfterF}
use Rattle.wham_fields.specs.declared.Edition.{Edition}
use Rattle.wham_fields.specs.declared.Edition.TheVariants.{Of2024}
use Rattle.wham.specs.Place.{place_edits}
use Rattle.wham.specs.declared.kind.Kind.{Kind}
use Rattle.wham.specs.declared.kind.Kind.TheVariants.{Transmitter, Employer, Employee, Deposit, Total, Final, Unknown}

-- What a record of each kind finds, phase by phase.
abbrev pub before_a : Kind → Finding
before_a Transmitter = fine
before_a Employer = broken 1 10
before_a Employee = broken 1 10
before_a Deposit = broken 1 10
before_a Total = broken 1 10
before_a Final = broken 1 10
before_a Unknown = broken 1 10

abbrev pub after_a : Kind → Finding
after_a Transmitter = broken 1 11
after_a Employer = fine
after_a Employee = broken 1 12
after_a Deposit = broken 1 12
after_a Total = broken 1 13
after_a Final = broken 1 14
after_a Unknown = fine

abbrev pub under_one : Kind → Finding
under_one Transmitter = broken 1 11
under_one Employer = broken 1 15
under_one Employee = fine
under_one Deposit = fine
under_one Total = fine
under_one Final = broken 1 17
under_one Unknown = fine

abbrev pub under_zero : Kind → Finding
under_zero Transmitter = broken 1 11
under_zero Employer = fine
under_zero Employee = broken 1 16
under_zero Deposit = fine
under_zero Total = fine
under_zero Final = fine
under_zero Unknown = fine

abbrev pub under_e : Edition → Bool → Kind → Finding
under_e edition true kind = under_one kind
under_e Of2024 false kind = under_zero kind

abbrev pub after_t : Kind → Finding
after_t Transmitter = broken 1 11
after_t Employer = fine
after_t Employee = broken 1 12
after_t Deposit = broken 1 12
after_t Total = broken 1 18
after_t Final = fine
after_t Unknown = fine

abbrev pub after_f : Kind → Finding
after_f Transmitter = broken 1 11
after_f Employer = broken 1 20
after_f Employee = broken 1 20
after_f Deposit = broken 1 20
after_f Total = broken 1 20
after_f Final = broken 1 19
after_f Unknown = fine

abbrev pub place_test : Edition → Phase → Bool → Kind → Finding
place_test edition BeforeA follow kind = before_a kind
place_test edition AfterA follow kind = after_a kind
place_test edition EOpen follow kind = under_e edition follow kind
place_test edition AfterT follow kind = after_t kind
place_test edition AfterF follow kind = after_f kind

-- The table says what the rules say.
pub place_parts : (edition : Edition) (phase : Phase) (follow : Bool) (kind : Kind) → first_broken (place_edits edition phase follow kind) ≡ place_test edition phase follow kind
place_parts Of2024 BeforeA true Transmitter = simp (first_cons, first_none)
place_parts Of2024 BeforeA false Transmitter = simp (first_cons, first_none)
place_parts Of2024 BeforeA true Employer = simp (first_cons, first_none)
place_parts Of2024 BeforeA false Employer = simp (first_cons, first_none)
place_parts Of2024 BeforeA true Employee = simp (first_cons, first_none)
place_parts Of2024 BeforeA false Employee = simp (first_cons, first_none)
place_parts Of2024 BeforeA true Deposit = simp (first_cons, first_none)
place_parts Of2024 BeforeA false Deposit = simp (first_cons, first_none)
place_parts Of2024 BeforeA true Total = simp (first_cons, first_none)
place_parts Of2024 BeforeA false Total = simp (first_cons, first_none)
place_parts Of2024 BeforeA true Final = simp (first_cons, first_none)
place_parts Of2024 BeforeA false Final = simp (first_cons, first_none)
place_parts Of2024 BeforeA true Unknown = simp (first_cons, first_none)
place_parts Of2024 BeforeA false Unknown = simp (first_cons, first_none)
place_parts Of2024 AfterA true Transmitter = simp (first_cons, first_none)
place_parts Of2024 AfterA false Transmitter = simp (first_cons, first_none)
place_parts Of2024 AfterA true Employer = simp (first_cons, first_none)
place_parts Of2024 AfterA false Employer = simp (first_cons, first_none)
place_parts Of2024 AfterA true Employee = simp (first_cons, first_none)
place_parts Of2024 AfterA false Employee = simp (first_cons, first_none)
place_parts Of2024 AfterA true Deposit = simp (first_cons, first_none)
place_parts Of2024 AfterA false Deposit = simp (first_cons, first_none)
place_parts Of2024 AfterA true Total = simp (first_cons, first_none)
place_parts Of2024 AfterA false Total = simp (first_cons, first_none)
place_parts Of2024 AfterA true Final = simp (first_cons, first_none)
place_parts Of2024 AfterA false Final = simp (first_cons, first_none)
place_parts Of2024 AfterA true Unknown = simp (first_cons, first_none)
place_parts Of2024 AfterA false Unknown = simp (first_cons, first_none)
place_parts Of2024 EOpen true Transmitter = simp (first_cons, first_none)
place_parts Of2024 EOpen false Transmitter = simp (first_cons, first_none)
place_parts Of2024 EOpen true Employer = simp (first_cons, first_none)
place_parts Of2024 EOpen false Employer = simp (first_cons, first_none)
place_parts Of2024 EOpen true Employee = simp (first_cons, first_none)
place_parts Of2024 EOpen false Employee = simp (first_cons, first_none)
place_parts Of2024 EOpen true Deposit = simp (first_cons, first_none)
place_parts Of2024 EOpen false Deposit = simp (first_cons, first_none)
place_parts Of2024 EOpen true Total = simp (first_cons, first_none)
place_parts Of2024 EOpen false Total = simp (first_cons, first_none)
place_parts Of2024 EOpen true Final = simp (first_cons, first_none)
place_parts Of2024 EOpen false Final = simp (first_cons, first_none)
place_parts Of2024 EOpen true Unknown = simp (first_cons, first_none)
place_parts Of2024 EOpen false Unknown = simp (first_cons, first_none)
place_parts Of2024 AfterT true Transmitter = simp (first_cons, first_none)
place_parts Of2024 AfterT false Transmitter = simp (first_cons, first_none)
place_parts Of2024 AfterT true Employer = simp (first_cons, first_none)
place_parts Of2024 AfterT false Employer = simp (first_cons, first_none)
place_parts Of2024 AfterT true Employee = simp (first_cons, first_none)
place_parts Of2024 AfterT false Employee = simp (first_cons, first_none)
place_parts Of2024 AfterT true Deposit = simp (first_cons, first_none)
place_parts Of2024 AfterT false Deposit = simp (first_cons, first_none)
place_parts Of2024 AfterT true Total = simp (first_cons, first_none)
place_parts Of2024 AfterT false Total = simp (first_cons, first_none)
place_parts Of2024 AfterT true Final = simp (first_cons, first_none)
place_parts Of2024 AfterT false Final = simp (first_cons, first_none)
place_parts Of2024 AfterT true Unknown = simp (first_cons, first_none)
place_parts Of2024 AfterT false Unknown = simp (first_cons, first_none)
place_parts Of2024 AfterF true Transmitter = simp (first_cons, first_none)
place_parts Of2024 AfterF false Transmitter = simp (first_cons, first_none)
place_parts Of2024 AfterF true Employer = simp (first_cons, first_none)
place_parts Of2024 AfterF false Employer = simp (first_cons, first_none)
place_parts Of2024 AfterF true Employee = simp (first_cons, first_none)
place_parts Of2024 AfterF false Employee = simp (first_cons, first_none)
place_parts Of2024 AfterF true Deposit = simp (first_cons, first_none)
place_parts Of2024 AfterF false Deposit = simp (first_cons, first_none)
place_parts Of2024 AfterF true Total = simp (first_cons, first_none)
place_parts Of2024 AfterF false Total = simp (first_cons, first_none)
place_parts Of2024 AfterF true Final = simp (first_cons, first_none)
place_parts Of2024 AfterF false Final = simp (first_cons, first_none)
place_parts Of2024 AfterF true Unknown = simp (first_cons, first_none)
place_parts Of2024 AfterF false Unknown = simp (first_cons, first_none)
