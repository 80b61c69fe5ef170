-- Definitions: the employee's columns on an S record, and the own rules of their fields, as demand 3 speaks of them.
use Rattle.std.specs.Prelude.{ℕ, Bool, ◌&&◌, ◌||◌, List, ◌++◌, leb}
use Rattle.laws.specs.Spelling.{bytes}
use Rattle.field.specs.declared.class.Class.{Class}
use Rattle.field.specs.declared.class.Class.TheVariants.{Numeric, RequiredText, More}
use Rattle.field.specs.declared.class.Further.TheVariants.{SocialSecurity}
use Rattle.edits.specs.Edit.{Edit}
use Rattle.edits.specs.FieldRow.{first_in, last_in}
use Rattle.edits.specs.Own.{own}
use Rattle.wham_fields.specs.Fields.{identity_of_s, last_name_of_s, first_name_of_s, initial_of_s, original_of_s, correct_of_s}
use Rattle.wham.specs.Kinds.{landmarks_of}
use Rattle.wham.specs.declared.kind.Kind.TheVariants.{Employee}
use Rattle.field.specs.declared.class.Field.{Field}

-- "2-10 (identity number), 11-30, 31-42, 43 (names, the initial among them), 191-202, 203-214 (every money field of S)"
abbrev pub is_personal : ℕ → Bool
is_personal column =
    (leb (first_in identity_of_s) column && leb column (last_in initial_of_s)) || (leb (first_in original_of_s) column && leb column (last_in correct_of_s))

-- "their own rules": the initial has none
abbrev pub own_in : List ℕ → Class → ℕ → ℕ → List Edit
own_in text class first last = own (landmarks_of Employee) (bytes "WHAM") class text first last

abbrev own_at : List ℕ → Class → Field → List Edit
own_at text class field = own_in text class (first_in field) (last_in field)

abbrev pub personal_edits : List ℕ → List Edit
personal_edits text =
    own_at text (More SocialSecurity) identity_of_s ++ own_at text RequiredText last_name_of_s ++ own_at text RequiredText first_name_of_s
    ++ own_at text Numeric original_of_s ++ own_at text Numeric correct_of_s
