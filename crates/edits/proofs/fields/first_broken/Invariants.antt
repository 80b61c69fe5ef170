-- Outside, nothing is found yet, and the fields left say what all of them say; inside,
-- the columns left say what the field's class test says.
use Prim.Native.Nat.{◌-◌}
use mathlib.Core.Path.{◌≡◌}
use lib.ListN.{length}
use Rattle.laws.specs.Finding.{fine, first_of}
use Rattle.reason.specs.ReasonNumbers.{finding_of}
use Rattle.chars.specs.Characters.{capitals}
use Rattle.chars.specs.Columns.{allowed_test}
use Rattle.field.specs.ClassTests.{class_test}
use Rattle.edits.specs.Tests.{field_at, fields_test}
use Rattle.edits.proofs.fields.first_broken.Given as goal

abbrev pub invariant-loop-at : goal.invariant-loop-at
invariant-loop-at l =
    class_test l.field.class (capitals l.line) l.field.first l.field.last ≡ first_of (allowed_test l.allowed (capitals l.line)) l.at (l.field.last - l.at)

abbrev pub invariant-fields : goal.invariant-fields
invariant-fields l =
    (finding_of l.found ≡ fine) × (fields_test l.around (capitals l.line) l.rows l.rules ≡ first_of (field_at l.around (capitals l.line) l.rows l.rules) l.k (length l.rows - l.k))
