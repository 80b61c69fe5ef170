-- Follows the code; need not be believed. The place rules as tables, phase by phase, and that they say what the rules say.
use Rattle.std.specs.Prelude.{Bool, true, false, ◌≡◌, if◌then◌else◌}
use Rattle.laws.specs.Finding.{Finding, fine, broken}
use Rattle.edits.specs.Edit.{first_broken}
use Rattle.edits.specs.EditLaws.{first_cons, first_none}
use Rattle.edits.specs.declared.Phase.{Phase}
use Rattle.edits.specs.declared.Phase.TheVariants.{BeforeA, AfterA, EOpen, AfterT, AfterF}
use Rattle.pfml.specs.Place.{place_edits}
use Rattle.pfml.specs.declared.kind.Kind.{Kind}
use Rattle.pfml.specs.declared.kind.Kind.TheVariants.{Transmitter, Employer, Employee, Total, Final, Unknown}

-- What a record of each kind finds, phase by phase.
abbrev pub before_a : Kind → Finding
before_a Transmitter = fine
before_a Employer = broken 1 10
before_a Employee = broken 1 10
before_a Total = broken 1 10
before_a Final = broken 1 10
before_a Unknown = broken 1 10

abbrev pub after_a : Kind → Finding
after_a Transmitter = broken 1 11
after_a Employer = fine
after_a Employee = broken 1 12
after_a Total = broken 1 13
after_a Final = broken 1 14
after_a Unknown = fine

abbrev pub under_e : Bool → Kind → Finding
under_e follow Transmitter = broken 1 11
under_e follow Employer = broken 1 15
under_e follow Employee = if follow then fine else broken 1 16
under_e follow Total = fine
under_e follow Final = broken 1 17
under_e follow Unknown = fine

abbrev pub after_t : Kind → Finding
after_t Transmitter = broken 1 11
after_t Employer = fine
after_t Employee = broken 1 12
after_t Total = broken 1 18
after_t Final = fine
after_t Unknown = fine

abbrev pub after_f : Kind → Finding
after_f Transmitter = broken 1 11
after_f Employer = broken 1 20
after_f Employee = broken 1 20
after_f Total = broken 1 20
after_f Final = broken 1 19
after_f Unknown = fine

abbrev pub place_test : Phase → Bool → Kind → Finding
place_test BeforeA follow kind = before_a kind
place_test AfterA follow kind = after_a kind
place_test EOpen follow kind = under_e follow kind
place_test AfterT follow kind = after_t kind
place_test AfterF follow kind = after_f kind

-- The table says what the rules say.
pub place_parts : (phase : Phase) (follow : Bool) (kind : Kind) → first_broken (place_edits phase follow kind) ≡ place_test phase follow kind
place_parts BeforeA true Transmitter = simp (first_cons, first_none)
place_parts BeforeA false Transmitter = simp (first_cons, first_none)
place_parts BeforeA true Employer = simp (first_cons, first_none)
place_parts BeforeA false Employer = simp (first_cons, first_none)
place_parts BeforeA true Employee = simp (first_cons, first_none)
place_parts BeforeA false Employee = simp (first_cons, first_none)
place_parts BeforeA true Total = simp (first_cons, first_none)
place_parts BeforeA false Total = simp (first_cons, first_none)
place_parts BeforeA true Final = simp (first_cons, first_none)
place_parts BeforeA false Final = simp (first_cons, first_none)
place_parts BeforeA true Unknown = simp (first_cons, first_none)
place_parts BeforeA false Unknown = simp (first_cons, first_none)
place_parts AfterA true Transmitter = simp (first_cons, first_none)
place_parts AfterA false Transmitter = simp (first_cons, first_none)
place_parts AfterA true Employer = simp (first_cons, first_none)
place_parts AfterA false Employer = simp (first_cons, first_none)
place_parts AfterA true Employee = simp (first_cons, first_none)
place_parts AfterA false Employee = simp (first_cons, first_none)
place_parts AfterA true Total = simp (first_cons, first_none)
place_parts AfterA false Total = simp (first_cons, first_none)
place_parts AfterA true Final = simp (first_cons, first_none)
place_parts AfterA false Final = simp (first_cons, first_none)
place_parts AfterA true Unknown = simp (first_cons, first_none)
place_parts AfterA false Unknown = simp (first_cons, first_none)
place_parts EOpen true Transmitter = simp (first_cons, first_none)
place_parts EOpen false Transmitter = simp (first_cons, first_none)
place_parts EOpen true Employer = simp (first_cons, first_none)
place_parts EOpen false Employer = simp (first_cons, first_none)
place_parts EOpen true Employee = simp (first_cons, first_none)
place_parts EOpen false Employee = simp (first_cons, first_none)
place_parts EOpen true Total = simp (first_cons, first_none)
place_parts EOpen false Total = simp (first_cons, first_none)
place_parts EOpen true Final = simp (first_cons, first_none)
place_parts EOpen false Final = simp (first_cons, first_none)
place_parts EOpen true Unknown = simp (first_cons, first_none)
place_parts EOpen false Unknown = simp (first_cons, first_none)
place_parts AfterT true Transmitter = simp (first_cons, first_none)
place_parts AfterT false Transmitter = simp (first_cons, first_none)
place_parts AfterT true Employer = simp (first_cons, first_none)
place_parts AfterT false Employer = simp (first_cons, first_none)
place_parts AfterT true Employee = simp (first_cons, first_none)
place_parts AfterT false Employee = simp (first_cons, first_none)
place_parts AfterT true Total = simp (first_cons, first_none)
place_parts AfterT false Total = simp (first_cons, first_none)
place_parts AfterT true Final = simp (first_cons, first_none)
place_parts AfterT false Final = simp (first_cons, first_none)
place_parts AfterT true Unknown = simp (first_cons, first_none)
place_parts AfterT false Unknown = simp (first_cons, first_none)
place_parts AfterF true Transmitter = simp (first_cons, first_none)
place_parts AfterF false Transmitter = simp (first_cons, first_none)
place_parts AfterF true Employer = simp (first_cons, first_none)
place_parts AfterF false Employer = simp (first_cons, first_none)
place_parts AfterF true Employee = simp (first_cons, first_none)
place_parts AfterF false Employee = simp (first_cons, first_none)
place_parts AfterF true Total = simp (first_cons, first_none)
place_parts AfterF false Total = simp (first_cons, first_none)
place_parts AfterF true Final = simp (first_cons, first_none)
place_parts AfterF false Final = simp (first_cons, first_none)
place_parts AfterF true Unknown = simp (first_cons, first_none)
place_parts AfterF false Unknown = simp (first_cons, first_none)
