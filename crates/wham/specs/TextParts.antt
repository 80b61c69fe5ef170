-- Laws: each record's part of the lists, as the code comes to it.
use Rattle.std.specs.Prelude.{ℕ, ◌-◌, List, ◌≡◌, take, drop}
use Rattle.edits.specs.Edit.{first_broken}
use Rattle.edits.specs.declared.Around.{Around}
use Rattle.edits.specs.Tests.{fields_test}
use Rattle.edits.specs.FieldEdits.{field_edits}
use Rattle.edits.specs.FieldEditLaws.{fields_parts}
use Rattle.wham_fields.specs.declared.Edition.{Edition}
use Rattle.wham_fields.specs.Fields.{fields}
use Rattle.wham_fields.specs.FieldRules.{rules}
use Rattle.wham.specs.Edits.{rows_for, rules_for}
use Rattle.wham.specs.Wide.{rows_wide}
use Rattle.wham.specs.declared.kind.Kind.{Kind}
use Rattle.field.specs.declared.class.Field.{Field}
use Rattle.edits.specs.declared.Rule.{Rule}

-- The rows and rules of a record stand in the lists from one number up to another, left out.
abbrev pub IsPart : Edition → Kind → ℕ → ℕ → Type 0
IsPart edition kind from to = (take (to - from) (drop from fields) ≡ rows_for kind) × (take (to - from) (drop from (rules edition)) ≡ rules_for edition kind)

-- The rows and rules of a record's part of the lists find what the record's list of edits finds.
pub part_finds : (edition : Edition) (a : Around) (line : List ℕ) (kind : Kind) (rows : List Field) (rules : List Rule) → rows ≡ rows_for kind
    → rules ≡ rules_for edition kind → fields_test a line rows rules ≡ first_broken (field_edits a line (rows_for kind) (rules_for edition kind))
part_finds edition a line kind rows rules p q = rw (p, q) (fields_parts a line (rows_for kind) (rules_for edition kind) (rows_wide kind))
