-- Definitions: the employee's columns on an S record, and the own rules of their fields, as demand 3 speaks of them.
use Rattle.std.specs.Prelude.{ℕ, Bool, ◌&&◌, ◌||◌, List, ◌++◌, leb}
use Rattle.laws.specs.Spelling.{bytes}
use Rattle.field.specs.declared.class.Class.{Class}
use Rattle.field.specs.declared.class.Class.TheVariants.{Numeric, PersonName, IdentityNumber}
use Rattle.edits.specs.Edit.{Edit}
use Rattle.edits.specs.FieldRow.{first_in, last_in}
use Rattle.edits.specs.Own.{own}
use Rattle.pfml_fields.specs.Fields.{identity_of_s, last_name_of_s, first_name_of_s, wages_of_s}
use Rattle.pfml.specs.Kinds.{landmarks_of}
use Rattle.pfml.specs.declared.kind.Kind.TheVariants.{Employee}
use Rattle.field.specs.declared.class.Field.{Field}

-- "the identity number, names and wages": columns 2 to 42 and 64 to 77
abbrev pub is_personal : ℕ → Bool
is_personal column =
    (leb (first_in identity_of_s) column && leb column (last_in first_name_of_s)) || (leb (first_in wages_of_s) column && leb column (last_in wages_of_s))

-- "their own rules": of the four fields
abbrev pub own_in : List ℕ → Class → ℕ → ℕ → List Edit
own_in text class first last = own (landmarks_of Employee) (bytes "PFML") class text first last

abbrev own_at : List ℕ → Class → Field → List Edit
own_at text class field = own_in text class (first_in field) (last_in field)

abbrev pub personal_edits : List ℕ → List Edit
personal_edits text =
    own_at text IdentityNumber identity_of_s ++ own_at text PersonName last_name_of_s ++ own_at text PersonName first_name_of_s ++ own_at text Numeric wages_of_s
