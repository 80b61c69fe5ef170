-- Definitions: the place of a record: which record may stand where. docs/formats/wham.md has it as a table.
use Rattle.std.specs.Prelude.{ℕ, Bool, true, not, ◌&&◌, ◌||◌, List, [], ◌∷◌, leb, eqb}
use Rattle.edits.specs.Edit.{Edit, rule}
use Rattle.edits.specs.declared.Phase.{Phase}
use Rattle.edits.specs.declared.Phase.TheVariants.{BeforeA, AfterA, EOpen, AfterT, AfterF}
use Rattle.shape.specs.Limits.{most_employees}
use Rattle.shape.specs.Phases.{stands}
use Rattle.wham_fields.specs.declared.Edition.{Edition}
use Rattle.wham_fields.specs.declared.Edition.TheVariants.{Of2024}
use Rattle.wham.specs.Kinds.{place_in_order}
use Rattle.wham.specs.declared.kind.Kind.{Kind}
use Rattle.wham.specs.declared.kind.Kind.TheVariants.{Transmitter, Employer, Employee, Deposit, Total, Final}

-- The record is this one of A, E, S, R, T, F.
abbrev pub is : Kind → Kind → Bool
is this kind = eqb (place_in_order this) (place_in_order kind)

-- Whether an E that says that no S record follows may do without a T. 2024: "if no employee records (S record), no T record is required"
abbrev pub needs_no_t : Edition → Bool
needs_no_t Of2024 = true

-- The place rules, in order; "letter and place give 1". `follow`: the open E says that S records follow. An R stands where an E is open; elsewhere it has the
-- number of an S.
abbrev pub place_edits : Edition → Phase → Bool → Kind → List Edit
place_edits edition phase follow kind =
    rule 10 1 (not (stands BeforeA phase && not (is Transmitter kind))) ∷
    rule 11 1 (not (is Transmitter kind && not (stands BeforeA phase))) ∷
    rule 12 1 (not ((is Employee kind || is Deposit kind) && (stands AfterA phase || stands AfterT phase))) ∷
    rule 13 1 (not (is Total kind && stands AfterA phase)) ∷
    rule 14 1 (not (is Final kind && stands AfterA phase)) ∷
    -- E while an E is open that needs a T
    rule 15 1 (not (is Employer kind && stands EOpen phase && (follow || not (needs_no_t edition)))) ∷
    rule 16 1 (not (is Employee kind && stands EOpen phase && not follow)) ∷
    -- F likewise
    rule 17 1 (not (is Final kind && stands EOpen phase && (follow || not (needs_no_t edition)))) ∷
    rule 18 1 (not (is Total kind && stands AfterT phase)) ∷
    rule 19 1 (not (is Final kind && stands AfterF phase)) ∷
    rule 20 1 (not ((is Employer kind || is Employee kind || is Deposit kind || is Total kind) && stands AfterF phase)) ∷ []

-- "61 .. an S, an R .. when the file already has 100,000 of that letter"
abbrev pub most_deposits : ℕ
most_deposits = 100000

abbrev pub count_edit : Kind → ℕ → ℕ → Edit
count_edit kind employees deposits =
    rule 61 1 (not ((is Employee kind && leb most_employees employees) || (is Deposit kind && leb most_deposits deposits)))
