-- Laws: every field of a padded record whose values fit reads as its value.
use Rattle.std.specs.Prelude.{ℕ, suc, Bool, true, false, ◌≡◌, refl, eqb, length, drop, if◌then◌else◌}
use mathlib.Core.List.{List, [], ◌∷◌}
use Rattle.std.proofs.Common.{ap, ◌∙◌, arith}
use Rattle.std.proofs.Math.ListN.{get_or}
use Rattle.chars.specs.Characters.{capitals}
use Rattle.chars.specs.Columns.{width_of}
use Rattle.field.specs.declared.class.Class.{Class}
use Rattle.field.specs.declared.class.Class.TheVariants.{Ignored, RecordLetter, BlankSpace, Numeric, AccountNumber, Flag, ThirdQuarterFlag, Period, RequiredText, OptionalText, PersonName, EntityCode, StateCode, ZipCode, ZipExtension, TaxYear, EmployerFein, IdentityNumber, CeaseDate, More}
use Rattle.edits.specs.FieldRow.{class_in, first_in, last_in}
use Rattle.pfml_fields.specs.Fit.{is_number}
use Rattle.edits.specs.Tests.{Readable}
use Rattle.build.specs.Building.{fits_in}
use Rattle.build.specs.RowLaws.{AllReadable}
use Rattle.build.specs.StandLaws.{Stands, amount_read, amount_ink, none_read, words_read}
use Rattle.build.specs.BuiltRecords.{Each, Fits, ReadsBack}
use Rattle.build.specs.Values.{amount, none, words, form_of, no_account, value_by, taken_by, Filled, form_in, fill_rows, amount_in, read_by, as_read}
use Rattle.build.specs.declared.form.Form.{Form}
use Rattle.build.specs.declared.form.Form.TheVariants.{Amount, Account, Words, Letter, Code, Blank}
use Rattle.field.specs.declared.class.Field.{Field}

-- The forms of numbers are those of "every field of type N".
abbrev is_amount : Form → Bool
is_amount Amount = true
is_amount Account = true
is_amount Words = false
is_amount Letter = false
is_amount Code = false
is_amount Blank = false

numbered : (class : Class) → is_number class ≡ is_amount (form_of class)
numbered Ignored = refl
numbered RecordLetter = refl
numbered BlankSpace = refl
numbered Numeric = refl
numbered AccountNumber = refl
numbered Flag = refl
numbered ThirdQuarterFlag = refl
numbered Period = refl
numbered RequiredText = refl
numbered OptionalText = refl
numbered PersonName = refl
numbered EntityCode = refl
numbered StateCode = refl
numbered ZipCode = refl
numbered ZipExtension = refl
numbered TaxYear = refl
numbered EmployerFein = refl
numbered IdentityNumber = refl
numbered CeaseDate = refl
numbered (More class) = refl

-- ---- one field
module _ (first last : ℕ) (final : List ℕ) (size : length final ≡ 290) where
  account : (left_out : Bool) (entry : ℕ) → Readable first last → Stands first last (if left_out then none else amount entry) final
      → fits_in (width_of first last) (if left_out then none else amount entry) ≡ true
      → read_by Account (capitals final) first last ≡ as_read (if left_out then none else amount entry)
  account true entry readable s fits = rw (none_read first last final s)
  account false entry readable s fits =
      let reads = amount_read first last final entry s readable.1 fits in
      rw (amount_ink first last final entry readable.0 readable.1 reads, reads)

  by_form : (form : Form) (letter entry : ℕ) (texts : List ℕ) → (is_amount form ≡ true → Readable first last)
      → Stands first last (value_by form letter entry texts) final → fits_in (width_of first last) (value_by form letter entry texts) ≡ true
      → read_by form (capitals final) first last ≡ as_read (value_by form letter entry texts)
  by_form Amount letter entry texts readable s fits = ap amount_in (amount_read first last final entry s (readable refl).1 fits)
  by_form Account letter entry texts readable s fits = account (eqb entry no_account) entry (readable refl) s fits
  by_form Words letter entry texts readable s fits = ap words (words_read first last final _ s size fits)
  by_form Letter letter entry texts readable s fits = ap words (words_read first last final _ s size fits)
  by_form Code letter entry texts readable s fits = ap words (words_read first last final _ s size fits)
  by_form Blank letter entry texts readable s fits = ap words (words_read first last final _ s size fits)

-- ---- all fields
module _ (letter : ℕ) (final : List ℕ) (size : length final ≡ 290) where
  pub all_read : (rows : List Field) (values texts : List ℕ) → AllReadable rows
      → Each (λ (field : Filled). Stands field.first field.last field.value final) (fill_rows letter rows values texts)
      → Each Fits (fill_rows letter rows values texts) → Each (ReadsBack (capitals final)) (fill_rows letter rows values texts)
  unfolding fill_rows
  all_read [] values texts readable stand fit = tt
  all_read (row ∷ rows) values texts readable stand fit =
      let entry = get_or values 0 0 in (
        by_form (first_in row) (last_in row) final size (form_in row) letter entry texts (λ e. readable 0 (omega arith) (numbered (class_in row) ∙ e))
            stand.0 fit.0,
        all_read rows (drop 1 values) (drop (taken_by (form_in row) entry) texts) (λ k h. readable (suc k) (omega arith)) stand.1 fit.1,
      )
