-- Definitions: the edits of a record's fields as one list, field after field.
use Rattle.std.specs.Prelude.{ℕ, List, [], ◌∷◌, ◌++◌}
use Rattle.edits.specs.Edit.{Edit}
use Rattle.edits.specs.Own.{own}
use Rattle.edits.specs.WithContext.{with_context}
use Rattle.edits.specs.declared.Around.{Around}
use Rattle.field.specs.declared.class.Field.{Field}
use Rattle.edits.specs.declared.Rule.{Rule}
use Rattle.edits.specs.declared.Rule.TheVariants.{Nothing}
use Rattle.edits.specs.FieldRow.{class_in, first_in, last_in}

-- "a field's edit is its own rules and then those of the context"
abbrev pub edits_of : Around → List ℕ → Field → Rule → List Edit
edits_of a line row which =
    own a.landmarks a.code (class_in row) line (first_in row) (last_in row)
    ++ with_context which a.landmarks a.here a.seen line (first_in row) (last_in row)

-- "then fields by first column, each field's rules as above"
unfoldable pub field_edits : Around → List ℕ → List Field → List Rule → List Edit
field_edits a line [] rules = []
field_edits a line (row ∷ rows) [] = edits_of a line row Nothing ++ field_edits a line rows []
field_edits a line (row ∷ rows) (which ∷ rules) = edits_of a line row which ++ field_edits a line rows rules

-- Of these, those that look at other records, at the quarter held or at the room that is left.
abbrev pub context_of : Around → List ℕ → Field → Rule → List Edit
context_of a line row which = with_context which a.landmarks a.here a.seen line (first_in row) (last_in row)

unfoldable pub context_edits : Around → List ℕ → List Field → List Rule → List Edit
context_edits a line [] rules = []
context_edits a line (row ∷ rows) [] = context_of a line row Nothing ++ context_edits a line rows []
context_edits a line (row ∷ rows) (which ∷ rules) = context_of a line row which ++ context_edits a line rows rules
