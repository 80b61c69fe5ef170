-- Laws: what the input's end finds, phase by phase, and that it is told by its label.
use Rattle.std.specs.Prelude.{◌≡◌, refl}
use Rattle.laws.specs.Finding.{Finding, fine, broken}
use Rattle.chars.specs.ColumnLaws.{unless_labelled}
use Rattle.edits.specs.Edit.{first_broken}
use Rattle.edits.specs.EditLaws.{first_cons, first_none}
use Rattle.edits.specs.Labels.{AllLabelled}
use Rattle.edits.specs.LabelLaws.{none_labelled, more_labelled}
use Rattle.edits.specs.declared.Phase.{Phase}
use Rattle.edits.specs.declared.Phase.TheVariants.{BeforeA, AfterA, EOpen, AfterT, AfterF}
use Rattle.shape.specs.EndOfInput.{end_edits}

abbrev pub end_test : Phase → Finding
end_test BeforeA = broken 1 5
end_test AfterA = broken 1 6
end_test EOpen = broken 1 7
end_test AfterT = broken 1 8
end_test AfterF = fine

pub end_parts : (phase : Phase) → first_broken (end_edits phase) ≡ end_test phase
end_parts BeforeA = simp (first_cons, first_none)
end_parts AfterA = simp (first_cons, first_none)
end_parts EOpen = simp (first_cons, first_none)
end_parts AfterT = simp (first_cons, first_none)
end_parts AfterF = simp (first_cons, first_none)

ruleset labels = (none_labelled, more_labelled, refl, unless_labelled)

pub end_labelled : (phase : Phase) → AllLabelled (end_edits phase)
end_labelled phase = search labels depth 6
