-- Definitions: the place of a record: which record may stand where.
use Rattle.std.specs.Prelude.{ℕ, Bool, not, ◌&&◌, ◌||◌, List, [], ◌∷◌, leb, eqb}
use Rattle.edits.specs.Edit.{Edit, rule}
use Rattle.edits.specs.declared.Phase.{Phase}
use Rattle.edits.specs.declared.Phase.TheVariants.{BeforeA, AfterA, EOpen, AfterT, AfterF}
use Rattle.shape.specs.Limits.{most_employees}
use Rattle.shape.specs.Phases.{stands}
use Rattle.pfml.specs.Kinds.{place_in_order}
use Rattle.pfml.specs.declared.kind.Kind.{Kind}
use Rattle.pfml.specs.declared.kind.Kind.TheVariants.{Transmitter, Employer, Employee, Total, Final}

-- The record is this one of A, E, S, T, F.
abbrev pub is : Kind → Kind → Bool
is this kind = eqb (place_in_order this) (place_in_order kind)

-- The place rules, in order; "letter and place give 1". `follow`: the open E says that S records follow.
abbrev pub place_edits : Phase → Bool → Kind → List Edit
place_edits phase follow kind =
    -- "before A, another letter 10"
    rule 10 1 (not (stands BeforeA phase && not (is Transmitter kind))) ∷
    -- "A again, also after F, 11"
    rule 11 1 (not (is Transmitter kind && not (stands BeforeA phase))) ∷
    -- "S with no E open, before F, 12"
    rule 12 1 (not (is Employee kind && (stands AfterA phase || stands AfterT phase))) ∷
    -- "T after A only 13"
    rule 13 1 (not (is Total kind && stands AfterA phase)) ∷
    -- "F after A only 14"
    rule 14 1 (not (is Final kind && stands AfterA phase)) ∷
    -- "E while E open 15"
    rule 15 1 (not (is Employer kind && stands EOpen phase)) ∷
    -- "S under an E saying 0 16"
    rule 16 1 (not (is Employee kind && stands EOpen phase && not follow)) ∷
    -- "F while E open 17"
    rule 17 1 (not (is Final kind && stands EOpen phase)) ∷
    -- "T right after T 18"
    rule 18 1 (not (is Total kind && stands AfterT phase)) ∷
    -- "F after F 19"
    rule 19 1 (not (is Final kind && stands AfterF phase)) ∷
    -- "E, S or T after F 20"
    rule 20 1 (not ((is Employer kind || is Employee kind || is Total kind) && stands AfterF phase)) ∷ []

-- "Then an S beyond 100,000 gives 61, column 1."
abbrev pub count_edit : Kind → ℕ → Edit
count_edit kind count = rule 61 1 (not (is Employee kind && leb most_employees count))
