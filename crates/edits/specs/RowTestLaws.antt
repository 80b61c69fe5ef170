-- Laws: rows that tile a record: where each begins and ends; and rows as wide as their classes ask.
use Rattle.std.specs.Prelude.{ℕ, zero, suc, ◌+◌, ◌-◌, ◌≤◌, ◌<◌, Bool, true, false, ◌&&◌, ◌||◌, List, [], ◌∷◌, ◌≡◌, refl, length, get_or, T, eqb, leb}
use Rattle.std.proofs.lemmas.Bool.{false≢true}
use Rattle.std.proofs.Common.{not-suc-le-zero, le_of_suc-le-suc, arith, eqb-true, leb-true}
use Rattle.laws.specs.ChoiceLaws.{both_hold}
use Rattle.laws.specs.Table.{every, at}
use Rattle.field.specs.declared.class.Class.{Class}
use Rattle.field.specs.declared.class.Class.TheVariants.{Ignored, RecordLetter, BlankSpace, Numeric, AccountNumber, Flag, ThirdQuarterFlag, Period, RequiredText, OptionalText, PersonName, EntityCode, StateCode, ZipCode, ZipExtension, TaxYear, EmployerFein, IdentityNumber, CeaseDate, More}
use Rattle.edits.specs.FieldRow.{no_row, class_in, first_in, last_in, width_in}
use Rattle.edits.specs.RowTests.{tiles, width_test, is_ignored, ignored_in}
use Rattle.edits.specs.Tests.{Readable, Wide, AllWide}
use Rattle.field.specs.declared.class.Field.{Field}

pub tiles_none : (end from : ℕ) → tiles end from [] ≡ true → from ≡ end + 1
unfolding tiles
tiles_none end from t = eqb-true from (end + 1) t

pub tiles_first : (end from : ℕ) (row : Field) (rows : List Field) → tiles end from (row ∷ rows) ≡ true
    → (first_in row ≡ from) × (from ≤ last_in row) × (tiles end (last_in row + 1) rows ≡ true)
unfolding tiles
tiles_first end from row rows t =
    let rest = both_hold _ _ t in
    let here = both_hold _ _ rest.0 in
    (eqb-true (first_in row) from here.0, leb-true from (last_in row) here.1, rest.1)

tiles_end : (end from : ℕ) (rows : List Field) → tiles end from rows ≡ true → from ≤ end + 1
unfolding tiles
tiles_end end from [] t = omega (arith, tiles_none end from t)
tiles_end end from (row ∷ rows) t =
    let f = tiles_first end from row rows t in
    omega (arith, tiles_end end (last_in row + 1) rows f.2)

-- Each row begins at `from` or after it, and ends at the record's last column or before.
pub row_within : (end from : ℕ) (rows : List Field) (i : ℕ) → tiles end from rows ≡ true → i < length rows
    → (from ≤ first_in (get_or rows i no_row)) × (first_in (get_or rows i no_row) ≤ last_in (get_or rows i no_row)) × (last_in (get_or rows i no_row) ≤ end)
row_within end from [] i t h = absurd (not-suc-le-zero h)
row_within end from (row ∷ rows) zero t h =
    let f = tiles_first end from row rows t in
    let e = tiles_end end (last_in row + 1) rows f.2 in
    (omega arith, omega arith, omega arith)
row_within end from (row ∷ rows) (suc i) t h =
    let f = tiles_first end from row rows t in
    let w = row_within end (last_in row + 1) rows i f.2 (le_of_suc-le-suc h) in
    (omega arith, w.1, w.2)

pub next_row : (end from : ℕ) (rows : List Field) (i : ℕ) → tiles end from rows ≡ true → suc i < length rows
    → first_in (get_or rows (suc i) no_row) ≡ last_in (get_or rows i no_row) + 1
next_row end from [] i t h = absurd (not-suc-le-zero h)
next_row end from (row ∷ []) i t h = absurd (not-suc-le-zero (le_of_suc-le-suc h))
next_row end from (row ∷ next ∷ rows) zero t h =
    (tiles_first end (last_in row + 1) next rows (tiles_first end from row (next ∷ rows) t).2).0
next_row end from (row ∷ next ∷ rows) (suc i) t h =
    next_row end (last_in row + 1) (next ∷ rows) i (tiles_first end from row (next ∷ rows) t).2 (le_of_suc-le-suc h)

-- An ignored column is a column of the record.
pub ignored_within : (end from : ℕ) (rows : List Field) (column : ℕ) → tiles end from rows ≡ true → ignored_in rows column ≡ true → column ≤ end
unfolding ignored_in
ignored_within end from [] column t e = absurd (false≢true e)
ignored_within end from (row ∷ rows) column t e =
    let f = tiles_first end from row rows t in
    let last = tiles_end end (last_in row + 1) rows f.2 in
    by (is_ignored (class_in row) && leb (first_in row) column && leb column (last_in row)) refl last e (ignored_within end (last_in row + 1) rows column f.2) where
      by : (here : Bool) → is_ignored (class_in row) && leb (first_in row) column && leb column (last_in row) ≡ here → last_in row + 1 ≤ end + 1
          → here || ignored_in rows column ≡ true → (ignored_in rows column ≡ true → column ≤ end) → column ≤ end
      by true is last e rest = let low = leb-true column (last_in row) (both_hold (is_ignored (class_in row) && leb (first_in row) column) (leb column (last_in row)) is).1 in omega arith
      by false is last e rest = rest e

-- ---- a field as wide as its class asks is wide enough for its test
readable : (w first last : ℕ) → w ≤ 18 → eqb (last - (first - 1)) (suc w) ≡ true → Readable first last
readable w first last small e = let width = eqb-true (last - (first - 1)) (suc w) e in (omega arith, omega arith)

pub wide_of : (class : Class) (first last : ℕ) → width_test class (last - (first - 1)) ≡ true → Wide class first last
wide_of Ignored first last e = tt
wide_of RecordLetter first last e = tt
wide_of BlankSpace first last e = tt
wide_of Numeric first last e = tt
wide_of AccountNumber first last e = tt
wide_of Flag first last e = tt
wide_of ThirdQuarterFlag first last e = tt
wide_of Period first last e = tt
wide_of RequiredText first last e = tt
wide_of OptionalText first last e = tt
wide_of PersonName first last e = tt
wide_of EntityCode first last e = tt
wide_of StateCode first last e = tt
wide_of ZipCode first last e = tt
wide_of ZipExtension first last e = tt
wide_of TaxYear first last e = readable 3 first last (omega arith) e
wide_of EmployerFein first last e = readable 8 first last (omega arith) e
wide_of IdentityNumber first last e = readable 8 first last (omega arith) e
wide_of CeaseDate first last e = readable 7 first last (omega arith) e
wide_of (More class) first last e = tt

-- So are the rows of a list, by one computed test.
abbrev pub is_wide : ℕ → Field → Bool
is_wide k row = width_test (class_in row) (width_in row)

pub all_wide : (rows : List Field) → T (every is_wide no_row 0 rows) → AllWide rows
all_wide rows test k h =
    wide_of (class_in (get_or rows k no_row)) (first_in (get_or rows k no_row)) (last_in (get_or rows k no_row)) (at is_wide no_row rows test k h)
