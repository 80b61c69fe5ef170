-- Definitions: a record made of the parts that stand in its columns, for every format; and the T and the F record of PFML that are written.
use Rattle.std.specs.Prelude.{ℕ, List, [], ◌∷◌}
use Rattle.laws.specs.Spelling.{bytes}
use Rattle.number.specs.Numbers.{put_number}
use Rattle.text.specs.Put.{blanks, put_text}
use Rattle.edits.specs.FieldRow.{first_in, last_in}
use Rattle.edits.specs.declared.Open.{Open}
use Rattle.edits.specs.declared.Totals.{Totals}
use Rattle.write.specs.declared.FinalRecord.{FinalRecord}
use Rattle.pfml_fields.specs.Fields.{letter_of_t, count_of_t, code_of_t, fein_of_t, blank_of_t, wages_of_t, rest_of_t, letter_of_f, count_of_f, employers_of_f, code_of_f, blank_of_f, wages_of_f, rest_of_f}
use Rattle.field.specs.declared.class.Field.{Field}

-- What stands in a field's columns: a text from the first on, a number in all of them, or blanks.
pub data Part : Type 0 where
  text : (first : ℕ) → List ℕ → Part
  number : (first last v : ℕ) → Part
  blank : (first last : ℕ) → Part

-- The line with a part put in. It is blank before, so for blanks there is nothing to do.
abbrev pub put : Part → List ℕ → List ℕ
put (text first t) line = put_text line first t
put (number first last v) line = put_number line first last v
put (blank first last) line = line

unfoldable pub put_all : List Part → List ℕ → List ℕ
put_all [] line = line
put_all (part ∷ parts) line = put_all parts (put part line)

-- A record of so many characters: blanks, with the fields put in one after the other.
abbrev pub line_of : ℕ → List Part → List ℕ
line_of n parts = put_all parts (blanks n)

-- A part that fills a field of the list.
abbrev pub text_at : Field → List ℕ → Part
text_at field t = text (first_in field) t

abbrev pub number_at : Field → ℕ → Part
number_at field v = number (first_in field) (last_in field) v

abbrev pub blank_at : Field → Part
blank_at field = blank (first_in field) (last_in field)

-- The F record is alike in every format: the letter, the counts, the entity's code and the sum, each in the format's own columns.
abbrev pub parts_of_final : FinalRecord → Totals → List Part
parts_of_final this all =
    text_at this.letter (bytes "F") ∷
    number_at this.count all.count ∷
    number_at this.employers all.employers ∷
    text_at this.code this.entity ∷
    number_at this.sum all.sum ∷
    []

-- ---- PFML
-- "Each line has 290 characters"
abbrev pub record_of : List Part → List ℕ
record_of parts = line_of 290 parts

-- The fields in order, and beside each the name that its table has for it.

-- Total (T) Record
abbrev pub parts_of_t : Open → List Part
parts_of_t this =
    text_at letter_of_t (bytes "T") ∷  -- Record Identifier
    number_at count_of_t this.count ∷  -- Total Number of S Records
    text_at code_of_t (bytes "PFML") ∷  -- Taxing Entity Code
    number_at fein_of_t this.fein ∷  -- Employer's FEIN
    blank_at blank_of_t ∷  -- Blank Space
    number_at wages_of_t this.sum ∷  -- Total Wages Paid This Quarter
    blank_at rest_of_t ∷  -- Blank Space
    []

-- Final (F) Record
abbrev pub parts_of_f : Totals → List Part
parts_of_f all =
    text_at letter_of_f (bytes "F") ∷  -- Record Identifier
    number_at count_of_f all.count ∷  -- Total Number of S Records in File
    number_at employers_of_f all.employers ∷  -- Total Number of E Records in File
    text_at code_of_f (bytes "PFML") ∷  -- Taxing Entity Code
    blank_at blank_of_f ∷  -- Blank Space
    number_at wages_of_f all.sum ∷  -- Total Wages in File
    blank_at rest_of_f ∷  -- Blank Space
    []

-- "the record that the walk accepts next, in capitals": T of the open E, F of the whole file
unfoldable pub total_record : Open → List ℕ
total_record this = record_of (parts_of_t this)

unfoldable pub final_record : Totals → List ℕ
final_record all = record_of (parts_of_f all)
