-- Laws: the fields of T and F: none of their edits is broken exactly if the record's parts stand in the line.
use Rattle.std.specs.Prelude.{ℕ, Bool, false, not, List, ◌≡◌, get_or}
use Rattle.std.proofs.Math.Path.{ap}
use native.Mathlib.Omega.{arith}
use borrow.Author.Tests.{not-true}
use Rattle.laws.specs.Spelling.{bytes}
use Rattle.chars.specs.Columns.{unless}
use Rattle.chars.specs.ColumnLaws.{unless_fine}
use Rattle.edits.specs.Edit.{AllFine}
use Rattle.edits.specs.FieldEdits.{field_edits}
use Rattle.edits.specs.declared.Context.{Context}
use Rattle.edits.specs.declared.Seen.{Seen}
use Rattle.pfml.specs.Edits.{rows_for, around, rules_for}
use Rattle.pfml.specs.Kinds.{kind_on}
use Rattle.pfml.specs.Letters.{letter_of_lem}
use Rattle.pfml.specs.Sums.{edits_of_T, edits_of_F}
use Rattle.pfml.specs.declared.kind.Kind.{Kind}
use Rattle.pfml.specs.declared.kind.Kind.TheVariants.{Total, Final}
use Rattle.write.specs.PartEdits.{number_fine, fine_number, code_fine, fine_code, blank_fine, fine_blank, letter_holds, ◌&◌}
use Rattle.write.specs.PartLaws.{AllHold}
use Rattle.write.specs.Records.{parts_of_t, parts_of_f}
use Rattle.write.specs.Writing.{none_to_total}

module _ (here : Context) (seen : Seen) (line : List ℕ) where
  abbrev FieldsFine : Kind → Type 0
  FieldsFine kind = AllFine (field_edits (around here seen kind) line (rows_for kind) (rules_for kind))

  pub total_fine : AllHold (parts_of_t here.open) line → none_to_total here.open ≡ false → FieldsFine Total
  unfolding bytes
  total_fine (letter, (count, (code, (fein, (space, (wages, (rest, end))))))) some =
      let counted = number_fine line 2 8 here.open.count 55 (omega arith) (omega arith) count in
      let known = number_fine line 13 21 here.open.fein 46 (omega arith) (omega arith) fein in
      let summed = number_fine line 27 40 here.open.sum 57 (omega arith) (omega arith) wages in
      rw (edits_of_T (around here seen Total) line)
      (counted.0 & counted.1 & ap (λ (none : Bool). unless (not none) 2 56) some
      & code_fine (bytes "PFML") tt line 9 code
      & known.0 & known.1
      & blank_fine line 22 26 space
      & summed.0 & summed.1
      & blank_fine line 41 290 rest & tt)

  pub fine_total : kind_on line ≡ Total → FieldsFine Total → AllHold (parts_of_t here.open) line × (none_to_total here.open ≡ false)
  unfolding bytes
  fine_total named fields =
      let (digits, (count, (some, (code, (digits', (fein, (space, (digits'', (wages, (rest, end)))))))))) = rw (edits_of_T (around here seen Total) line) at fields in
      (letter_holds line 84 (letter_of_lem (get_or line 0 0) Total (omega arith, omega arith) named)
      & fine_number line 2 8 here.open.count 55 (omega arith) (omega arith) digits count
      & fine_code (bytes "PFML") tt line 9 code
      & fine_number line 13 21 here.open.fein 46 (omega arith) (omega arith) digits' fein
      & fine_blank line 22 26 space
      & fine_number line 27 40 here.open.sum 57 (omega arith) (omega arith) digits'' wages
      & fine_blank line 41 290 rest & tt)
      & not-true _ (unless_fine _ 2 56 some)

  pub final_fine : AllHold (parts_of_f here.all) line → FieldsFine Final
  unfolding bytes
  final_fine (letter, (count, (employers, (code, (space, (wages, (rest, end))))))) =
      let counted = number_fine line 2 11 here.all.count 58 (omega arith) (omega arith) count in
      let filed = number_fine line 12 21 here.all.employers 59 (omega arith) (omega arith) employers in
      let summed = number_fine line 41 55 here.all.sum 60 (omega arith) (omega arith) wages in
      rw (edits_of_F (around here seen Final) line)
      (counted.0 & counted.1
      & filed.0 & filed.1
      & code_fine (bytes "PFML") tt line 22 code
      & blank_fine line 26 40 space
      & summed.0 & summed.1
      & blank_fine line 56 290 rest & tt)

  pub fine_final : kind_on line ≡ Final → FieldsFine Final → AllHold (parts_of_f here.all) line
  unfolding bytes
  fine_final named fields =
      let (digits, (count, (digits', (employers, (code, (space, (digits'', (wages, (rest, end))))))))) = rw (edits_of_F (around here seen Final) line) at fields in
      letter_holds line 70 (letter_of_lem (get_or line 0 0) Final (omega arith, omega arith) named)
      & fine_number line 2 11 here.all.count 58 (omega arith) (omega arith) digits count
      & fine_number line 12 21 here.all.employers 59 (omega arith) (omega arith) digits' employers
      & fine_code (bytes "PFML") tt line 22 code
      & fine_blank line 26 40 space
      & fine_number line 41 55 here.all.sum 60 (omega arith) (omega arith) digits'' wages
      & fine_blank line 56 290 rest & tt
