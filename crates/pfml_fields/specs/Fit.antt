-- Laws: each row of the list is fit: its columns lie in the record, its class has a number, and it is as wide as its class asks.
use Rattle.std.specs.Prelude.{ℕ, ◌≤◌, ◌<◌, Bool, true, false, ◌&&◌, ◌≡◌, T, leb, ltb, get_or, if◌then◌else◌}
use Rattle.std.proofs.Common.{leb-true, ltb-true}
use Rattle.laws.specs.ChoiceLaws.{both_hold, within}
use Rattle.laws.specs.Table.{every, at}
use Rattle.field.specs.Classes.{class_number}
use Rattle.field.specs.declared.class.Field.{Field}
use Rattle.field.specs.declared.class.Class.{Class}
use Rattle.field.specs.declared.class.Class.TheVariants.{Ignored, RecordLetter, BlankSpace, Numeric, AccountNumber, Flag, ThirdQuarterFlag, Period, RequiredText, OptionalText, PersonName, EntityCode, StateCode, ZipCode, ZipExtension, TaxYear, EmployerFein, IdentityNumber, CeaseDate, More}
use Rattle.edits.specs.FieldRow.{no_row, class_in, first_in, last_in, width_in}
use Rattle.edits.specs.RowTests.{width_test}
use Rattle.pfml_fields.specs.Fields.{fields_of_a, fields_of_e, fields_of_s, fields_of_t, fields_of_f, fields}
use Rattle.pfml_fields.specs.Rows.{all_fields_lem}

-- ---- the columns of a row
pub record Fits (row : Field) : Type 0 where
  pub from_one : 1 ≤ first_in row
  pub in_order : first_in row ≤ last_in row
  pub to_end : last_in row ≤ 290
  pub class_known : class_number (class_in row) < 19

fits : ℕ → Field → Bool
fits k row = leb 1 (first_in row) && leb (first_in row) (last_in row) && leb (last_in row) 290 && ltb (class_number (class_in row)) 19

all_fit : T (every fits no_row 0 fields)
unfolding fits fields fields_of_a fields_of_e fields_of_s fields_of_t fields_of_f
all_fit = tt

pub row_fits : (k : ℕ) → k < 72 → Fits (get_or fields k no_row)
unfolding fits
row_fits k h =
    let known = both_hold _ _ (at fits no_row fields all_fit k (rw all_fields_lem h)) in
    let end = both_hold _ _ known.0 in
    let columns = both_hold _ _ end.0 in
    record {
      from_one = leb-true _ _ columns.0;
      in_order = leb-true _ _ columns.1;
      to_end = leb-true _ _ end.1;
      class_known = ltb-true _ _ known.1;
    }

-- ---- the class of a row
-- a rule of the class and the width, at each row of the list
module _ (rule : Class → ℕ → Bool) where
  obeys : ℕ → Field → Bool
  obeys k row = rule (class_in row) (width_in row)

  at_row : T (every obeys no_row 0 fields) → (k : ℕ) → k < 72 → rule (class_in (get_or fields k no_row)) (width_in (get_or fields k no_row)) ≡ true
  unfolding obeys
  at_row t k h = at obeys no_row fields t k (rw all_fields_lem h)

-- ---- the width of a class
all_wide : T (every (obeys width_test) no_row 0 fields)
unfolding obeys fields fields_of_a fields_of_e fields_of_s fields_of_t fields_of_f
all_wide = tt

pub class_widths : (k : ℕ) → k < 72 → width_test (class_in (get_or fields k no_row)) (width_in (get_or fields k no_row)) ≡ true
class_widths k h = at_row width_test all_wide k h

-- ---- the width of a number
-- "every field of type N"
abbrev pub is_number : Class → Bool
is_number Ignored = false
is_number RecordLetter = false
is_number BlankSpace = false
is_number Numeric = true
is_number AccountNumber = true
is_number Flag = true
is_number ThirdQuarterFlag = true
is_number Period = true
is_number RequiredText = false
is_number OptionalText = false
is_number PersonName = false
is_number EntityCode = false
is_number StateCode = false
is_number ZipCode = false
is_number ZipExtension = false
is_number TaxYear = true
is_number EmployerFein = true
is_number IdentityNumber = true
is_number CeaseDate = true
is_number (More class) = false

-- Nothing is asked here of a field that is no number.
abbrev number_test : Class → ℕ → Bool
number_test class width = if is_number class then leb 1 width && leb width 15 else true

all_short : T (every (obeys number_test) no_row 0 fields)
unfolding obeys fields fields_of_a fields_of_e fields_of_s fields_of_t fields_of_f
all_short = tt

-- A number has at most 15 digits, so that it fits 64 bits.
pub number_width : (k : ℕ) → k < 72 → is_number (class_in (get_or fields k no_row)) ≡ true
    → (1 ≤ width_in (get_or fields k no_row)) × (width_in (get_or fields k no_row) ≤ 15)
number_width k h number = within 1 (width_in (get_or fields k no_row)) 15 (rw number at (at_row number_test all_short k h))
