-- Definitions: the end of the input, which is the same in every format.
use Rattle.std.specs.Prelude.{not, List, [], ◌∷◌}
use Rattle.edits.specs.Edit.{Edit, rule}
use Rattle.edits.specs.declared.Phase.{Phase}
use Rattle.edits.specs.declared.Phase.TheVariants.{BeforeA, AfterA, EOpen, AfterT}
use Rattle.shape.specs.Phases.{stands}

-- "5, 6, 7, 8: input ends before A; after A; with E open; after T without F. Line is lines read + 1, column 1"
abbrev pub end_edits : Phase → List Edit
end_edits phase =
    rule 5 1 (not (stands BeforeA phase)) ∷
    rule 6 1 (not (stands AfterA phase)) ∷
    rule 7 1 (not (stands EOpen phase)) ∷
    rule 8 1 (not (stands AfterT phase)) ∷ []
