-- Definitions: the edits of a text of the amended withholding file in the stated order.
use Rattle.std.specs.Prelude.{ℕ, List, [], ◌∷◌, ◌++◌}
use Rattle.laws.specs.Spelling.{bytes}
use Rattle.wham_fields.specs.Fields.{fields_of_a, fields_of_e, fields_of_s, fields_of_r, fields_of_t, fields_of_f}
use Rattle.wham_fields.specs.FieldRules.{rules_of_a, rules_of_e, rules_of_s, rules_of_r, rules_of_t, rules_of_f}
use Rattle.edits.specs.Edit.{Edit}
use Rattle.edits.specs.declared.Around.{Around}
use Rattle.edits.specs.FieldEdits.{field_edits}
use Rattle.edits.specs.declared.Context.{Context}
use Rattle.edits.specs.declared.Seen.{Seen}
use Rattle.wham_fields.specs.declared.Edition.{Edition}
use Rattle.shape.specs.Head.{head_of}
use Rattle.wham.specs.Kinds.{kind_on, landmarks_of, is_known}
use Rattle.wham.specs.Place.{place_edits, count_edit}
use Rattle.wham.specs.declared.kind.Kind.{Kind}
use Rattle.wham.specs.declared.kind.Kind.TheVariants.{Transmitter, Employer, Employee, Deposit, Total, Final, Unknown}
use Rattle.field.specs.declared.class.Field.{Field}
use Rattle.edits.specs.declared.Rule.{Rule}

-- The fields of each record, and the rule beside each.
abbrev pub rows_for : Kind → List Field
rows_for Transmitter = fields_of_a
rows_for Employer = fields_of_e
rows_for Employee = fields_of_s
rows_for Deposit = fields_of_r
rows_for Total = fields_of_t
rows_for Final = fields_of_f
rows_for Unknown = []

abbrev pub rules_for : Edition → Kind → List Rule
rules_for edition Transmitter = rules_of_a
rules_for edition Employer = rules_of_e edition
rules_for edition Employee = rules_of_s
rules_for edition Deposit = rules_of_r
rules_for edition Total = rules_of_t edition
rules_for edition Final = rules_of_f
rules_for edition Unknown = []

-- "Enter WHAM"
abbrev pub around : Context → Seen → Kind → Around
around here seen kind = record { landmarks = landmarks_of kind; code = bytes "WHAM"; here = here; seen = seen }

-- The place rules, then 61.
abbrev pub placed_edits : Edition → Context → Kind → List Edit
placed_edits edition here kind = place_edits edition here.phase here.open.follow kind ++ (count_edit kind here.all.count here.all.others ∷ [])

-- "characters, letter, place"
abbrev pub head_edits : Edition → Context → List ℕ → Kind → List Edit
head_edits edition here text kind = head_of 275 (is_known kind) (placed_edits edition here kind) text

-- "characters, letter, place, then fields by first column": of a record of this kind
abbrev pub text_edits : Edition → Context → Seen → List ℕ → Kind → List Edit
text_edits edition here seen text kind = head_edits edition here text kind ++ field_edits (around here seen kind) text (rows_for kind) (rules_for edition kind)

-- of the record on the text
abbrev pub edits_on : Edition → Context → Seen → List ℕ → List Edit
edits_on edition here seen text = text_edits edition here seen text (kind_on text)
