-- Laws: what an edit of a text finds is told by its label.
use Rattle.std.specs.Prelude.{ℕ, List, refl}
use Rattle.chars.specs.ColumnLaws.{unless_labelled, permitted_labelled}
use Rattle.edits.specs.FieldsLabelled.{fields_labelled}
use Rattle.edits.specs.Labels.{AllLabelled}
use Rattle.edits.specs.LabelLaws.{none_labelled, more_labelled, labelled_append}
use Rattle.edits.specs.FieldEdits.{field_edits}
use Rattle.edits.specs.declared.Context.{Context}
use Rattle.edits.specs.declared.Seen.{Seen}
use Rattle.pfml.specs.Edits.{rows_for, rules_for, around, head_edits, text_edits}
use Rattle.pfml.specs.declared.kind.Kind.{Kind}

ruleset labels = (none_labelled, more_labelled, refl, unless_labelled, permitted_labelled)

head_labelled : (here : Context) (text : List ℕ) (kind : Kind) → AllLabelled (head_edits here text kind)
head_labelled here text kind = search labels depth 16

pub text_labelled : (here : Context) (seen : Seen) (text : List ℕ) (kind : Kind) → AllLabelled (text_edits here seen text kind)
text_labelled here seen text kind =
    labelled_append (head_edits here text kind) (field_edits (around here seen kind) text (rows_for kind) (rules_for kind)) (head_labelled here text kind)
    (fields_labelled (around here seen kind) text (rows_for kind) (rules_for kind))
