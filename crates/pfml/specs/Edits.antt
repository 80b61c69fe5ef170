-- Definitions: the edits of a text of PFML in the stated order.
use Rattle.std.specs.Prelude.{ℕ, List, [], ◌∷◌, ◌++◌}
use Rattle.laws.specs.Spelling.{bytes}
use Rattle.pfml_fields.specs.Fields.{fields_of_a, fields_of_e, fields_of_s, fields_of_t, fields_of_f}
use Rattle.pfml_fields.specs.FieldRules.{rules_of_a, rules_of_e, rules_of_s, rules_of_t, rules_of_f}
use Rattle.edits.specs.Edit.{Edit}
use Rattle.edits.specs.declared.Around.{Around}
use Rattle.edits.specs.FieldEdits.{field_edits}
use Rattle.edits.specs.declared.Context.{Context}
use Rattle.edits.specs.declared.Seen.{Seen}
use Rattle.shape.specs.Head.{head_of}
use Rattle.pfml.specs.Kinds.{kind_on, landmarks_of, is_known}
use Rattle.pfml.specs.Place.{place_edits, count_edit}
use Rattle.pfml.specs.declared.kind.Kind.{Kind}
use Rattle.pfml.specs.declared.kind.Kind.TheVariants.{Transmitter, Employer, Employee, Total, Final, Unknown}
use Rattle.field.specs.declared.class.Field.{Field}
use Rattle.edits.specs.declared.Rule.{Rule}

-- The fields of each record, and the rule beside each.
abbrev pub rows_for : Kind → List Field
rows_for Transmitter = fields_of_a
rows_for Employer = fields_of_e
rows_for Employee = fields_of_s
rows_for Total = fields_of_t
rows_for Final = fields_of_f
rows_for Unknown = []

abbrev pub rules_for : Kind → List Rule
rules_for Transmitter = rules_of_a
rules_for Employer = rules_of_e
rules_for Employee = rules_of_s
rules_for Total = rules_of_t
rules_for Final = rules_of_f
rules_for Unknown = []

-- "The entity code is PFML"
abbrev pub around : Context → Seen → Kind → Around
around here seen kind = record { landmarks = landmarks_of kind; code = bytes "PFML"; here = here; seen = seen }

-- The place rules, "Then an S beyond 100,000 gives 61, column 1."
abbrev pub placed_edits : Context → Kind → List Edit
placed_edits here kind = place_edits here.phase here.open.follow kind ++ (count_edit kind here.all.count ∷ [])

-- "characters, letter, place"
abbrev pub head_edits : Context → List ℕ → Kind → List Edit
head_edits here text kind = head_of 290 (is_known kind) (placed_edits here kind) text

-- "characters, letter, place, then fields by first column": of a record of this kind
abbrev pub text_edits : Context → Seen → List ℕ → Kind → List Edit
text_edits here seen text kind = head_edits here text kind ++ field_edits (around here seen kind) text (rows_for kind) (rules_for kind)

-- of the record on the text
abbrev pub edits_on : Context → Seen → List ℕ → List Edit
edits_on here seen text = text_edits here seen text (kind_on text)
