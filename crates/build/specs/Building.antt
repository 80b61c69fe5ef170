-- Definitions: "Build A, E and S records from unpadded field values into a lent 290-byte slice".
use Rattle.std.specs.Prelude.{ℕ, ◌^◌, Bool, true, List, [], ◌∷◌, ◌++◌, map, eqb, leb, ltb, length, take}
use Rattle.laws.specs.Finding.{Finding, fine, broken}
use Rattle.laws.specs.Spelling.{bytes}
use Rattle.reason.specs.ReasonNumbers.{notice}
use Rattle.chars.specs.Characters.{capitals}
use Rattle.chars.specs.Columns.{width_of}
use Rattle.chars.specs.declared.columns.Allowed.TheVariants.{Permitted}
use Rattle.edits.specs.Edit.{Edit, rule, each_column, first_broken}
use Rattle.edits.specs.Own.{own}
use Rattle.edits.specs.declared.Landmarks.{Landmarks}
use Rattle.pfml.specs.Kinds.{kind_of, landmarks_of}
use Rattle.step.specs.Moves.{all_well}
use Rattle.write.specs.Records.{Part, text, number, blank, record_of}
use Rattle.write.specs.Writing.{Writing}
use Rattle.build.specs.Values.{Value, amount, none, words, Filled, fill_record}

-- "text left justified, blank filled; numbers .. right justified, zero filled": of what is too long, the first characters and the last digits.
abbrev pub part_by : ℕ → ℕ → Value → Part
part_by first last (amount v) = number first last v
part_by first last none = blank first last
part_by first last (words t) = text first (take (width_of first last) t)

abbrev pub part_of : Filled → Part
part_of field = part_by field.first field.last field.value

-- The padded record, "with capitals for small letters".
unfoldable pub padded : List Filled → List ℕ
padded fields = capitals (record_of (map part_of fields))

-- A value fits its field's columns.
abbrev pub fits_in : ℕ → Value → Bool
fits_in width (amount v) = ltb v (10 ^ width)
fits_in width none = true
fits_in width (words t) = leb (length t) width

-- "by field, 85, value too long, with the field's first column; 3, a bad character; 01's field numbers": the field's own rules, over the whole record
abbrev pub filled_edits : Landmarks → List ℕ → Filled → List Edit
filled_edits landmarks line field =
    rule 85 field.first (fits_in (width_of field.first field.last) field.value) ∷
    each_column 3 Permitted line field.first field.last ∷
    own landmarks (bytes "PFML") field.class line field.first field.last

unfoldable pub edits_of_all : Landmarks → List ℕ → List Filled → List Edit
edits_of_all landmarks line [] = []
edits_of_all landmarks line (field ∷ fields) = filled_edits landmarks line field ++ edits_of_all landmarks line fields

-- "84, slice not 290 bytes, first; then by field"
abbrev pub build_edits : Landmarks → List Filled → ℕ → List Edit
build_edits landmarks fields size = rule 84 0 (eqb size 290) ∷ edits_of_all landmarks (padded fields) fields

-- "Refusals, slice untouched"; otherwise the padded record.
abbrev pub built_by : Finding → List ℕ → List ℕ → Writing
built_by fine line out = record { says = all_well; out = line }
built_by (broken column reason) line out = record { says = notice reason 0 column; out = out }

abbrev pub build_fields : Landmarks → List Filled → List ℕ → Writing
build_fields landmarks fields out = built_by (first_broken (build_edits landmarks fields (length out))) (padded fields) out

-- The record that a letter names, from its values and texts.
unfoldable pub building : ℕ → List ℕ → List ℕ → List ℕ → Writing
building letter values texts out = build_fields (landmarks_of (kind_of letter)) (fill_record letter values texts) out
