-- Laws: the fields of T and F: which parts stand in a line none of whose edits is broken, and that none is where all parts stand.
use Rattle.std.specs.Prelude.{ℕ, Bool, false, not, List, ◌⊎◌, ◌≡◌, get_or}
use Rattle.std.proofs.Math.Path.{ap}
use native.Mathlib.Omega.{arith}
use borrow.Author.Tests.{not-true}
use Rattle.laws.specs.Spelling.{bytes}
use Rattle.chars.specs.Columns.{unless}
use Rattle.chars.specs.ColumnLaws.{unless_fine}
use Rattle.number.specs.NumberColumnLaws.{reads_value, value_reads}
use Rattle.number.specs.Numbers.{value_in}
use Rattle.edits.specs.Edit.{AllFine}
use Rattle.edits.specs.FieldEdits.{field_edits}
use Rattle.edits.specs.declared.Context.{Context}
use Rattle.edits.specs.declared.Open.{Open}
use Rattle.edits.specs.declared.Seen.{Seen}
use Rattle.edits.specs.declared.Totals.{Totals}
use Rattle.wham.specs.Edits.{rows_for, around, rules_for}
use Rattle.wham.specs.Kinds.{kind_on}
use Rattle.wham.specs.Letters.{letter_of_lem}
use Rattle.wham.specs.Sums.{edits_of_T, edits_of_F}
use Rattle.wham.specs.declared.kind.Kind.{Kind}
use Rattle.wham.specs.declared.kind.Kind.TheVariants.{Total, Final}
use Rattle.wham_fields.specs.declared.Edition.TheVariants.{Of2024}
use Rattle.write.specs.PartEdits.{number_fine, fine_number, code_fine, fine_code, letter_holds, ◌&◌}
use Rattle.write.specs.PartLaws.{Holds, AllHold, all_split}
use Rattle.write.specs.Records.{text, number}
use Rattle.write.specs.Writing.{none_to_total}
use Rattle.wham_write.specs.Due.{MinusNone, due_fine, fine_due}
use Rattle.wham_write.specs.Records.{due_parts, parts_of_t, parts_of_f}

-- The parts of a T that is accepted; what is due apart, they are those of the written one.
pub record TotalHeld (this : Open) (payments : ℕ) (line : List ℕ) : Type 0 where
  pub letter : Holds (text 1 (bytes "T")) line
  pub count : Holds (number 2 8 this.count) line
  pub code : Holds (text 9 (bytes "WHAM")) line
  pub paid : Holds (number 112 122 payments) line
  pub original : Holds (number 175 188 this.second) line
  pub amended : Holds (number 213 226 this.sum) line
  pub due : AllHold (due_parts this.sum payments) line ⊎ MinusNone line this.sum payments

-- Those of an F.
pub record FinalHeld (all : Totals) (line : List ℕ) : Type 0 where
  pub letter : Holds (text 1 (bytes "F")) line
  pub count : Holds (number 2 11 all.count) line
  pub employers : Holds (number 12 21 all.employers) line
  pub code : Holds (text 22 (bytes "WHAM")) line
  pub total : Holds (number 41 55 all.sum) line

module _ (here : Context) (seen : Seen) (line : List ℕ) where
  abbrev FieldsFine : Kind → Type 0
  FieldsFine kind = AllFine (field_edits (around here seen kind) line (rows_for kind) (rules_for Of2024 kind))

  abbrev this : Open
  this = here.open

  pub total_fine : (payments : ℕ) → AllHold (parts_of_t this payments this.sum) line → none_to_total this ≡ false → FieldsFine Total
  unfolding bytes
  total_fine payments (letter, (count, (code, (space, (paid, rest))))) some =
      let (due, (space', (original, (space'', (amended, end))))) = all_split (λ part. Holds part line) (due_parts this.sum payments) _ rest in
      let counted = number_fine line 2 8 this.count 55 (omega arith) (omega arith) count in
      let reads = value_reads line 112 122 (omega arith) (omega arith) payments paid in
      let owed = due_fine line this.sum payments amended reads.1 due in
      let first = number_fine line 175 188 this.second 57 (omega arith) (omega arith) original in
      let summed = number_fine line 213 226 this.sum 57 (omega arith) (omega arith) amended in
      rw (edits_of_T here seen line Of2024)
      (counted.0 & counted.1 & ap (λ (none : Bool). unless (not none) 2 56) some
      & code_fine (bytes "WHAM") tt line 9 code
      & reads.0
      & owed.0 & owed.1
      & first.0 & first.1
      & summed.0 & summed.1 & tt)

  pub fine_total : (payments : ℕ) → value_in line 112 122 ≡ payments → kind_on line ≡ Total → FieldsFine Total
      → TotalHeld this payments line × (none_to_total this ≡ false)
  unfolding bytes
  fine_total payments paid named fields =
      let (digits, (count, (some, (code, (columns, (owed, (due, (digits', (original, (digits'', (amended, end))))))))))) = rw (edits_of_T here seen line Of2024) at fields in
      let whole = fine_number line 213 226 this.sum 57 (omega arith) (omega arith) digits'' amended in
      record {
        letter = letter_holds line 84 (letter_of_lem (get_or line 0 0) Total (omega arith, omega arith) named);
        count = fine_number line 2 8 this.count 55 (omega arith) (omega arith) digits count;
        code = fine_code (bytes "WHAM") tt line 9 code;
        paid = reads_value line 112 122 (omega arith) (omega arith) payments columns paid;
        original = fine_number line 175 188 this.second 57 (omega arith) (omega arith) digits' original;
        amended = whole;
        due = fine_due line this.sum payments whole paid (owed, due);
      }
      & not-true _ (unless_fine _ 2 56 some)

  pub final_fine : AllHold (parts_of_f here.all) line → FieldsFine Final
  unfolding bytes
  final_fine (letter, (count, (employers, (code, (space, (total, (rest, end))))))) =
      let counted = number_fine line 2 11 here.all.count 58 (omega arith) (omega arith) count in
      let filed = number_fine line 12 21 here.all.employers 59 (omega arith) (omega arith) employers in
      let summed = number_fine line 41 55 here.all.sum 60 (omega arith) (omega arith) total in
      rw (edits_of_F here seen line)
      (counted.0 & counted.1
      & filed.0 & filed.1
      & code_fine (bytes "WHAM") tt line 22 code
      & summed.0 & summed.1 & tt)

  pub fine_final : kind_on line ≡ Final → FieldsFine Final → FinalHeld here.all line
  unfolding bytes
  fine_final named fields =
      let (digits, (count, (digits', (employers, (code, (digits'', (total, end))))))) = rw (edits_of_F here seen line) at fields in
      record {
        letter = letter_holds line 70 (letter_of_lem (get_or line 0 0) Final (omega arith, omega arith) named);
        count = fine_number line 2 11 here.all.count 58 (omega arith) (omega arith) digits count;
        employers = fine_number line 12 21 here.all.employers 59 (omega arith) (omega arith) digits' employers;
        code = fine_code (bytes "WHAM") tt line 22 code;
        total = fine_number line 41 55 here.all.sum 60 (omega arith) (omega arith) digits'' total;
      }
