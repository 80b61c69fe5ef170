-- Laws: what a loop over a field's columns uses of columns, and what the columns of a field hold.
use Rattle.std.specs.Prelude.{ℕ, ◌+◌, ◌-◌, ◌<◌, ◌≤◌, ◌≡◌, refl, Bool, true, false, List, get_or, if◌then◌else◌}
use native.Mathlib.Omega.{arith}
use borrow.Author.Tests.{eqb-true, le-leb}
use Rattle.laws.specs.Finding.{fine, broken, first_of}
use Rattle.laws.specs.First.{first_of_first, none_is_broken, finds_nothing}
use Rattle.laws.specs.Labelled.{Labelled, labelled_says, says_labelled, fine_labelled, broken_labelled}
use Rattle.chars.specs.CharacterLaws.{digit_permitted, name_permitted}
use Rattle.chars.specs.Characters.{is_permitted, is_blank, is_digit, is_of_name}
use Rattle.chars.specs.CharacterLaws.{digit_range}
use Rattle.chars.specs.Columns.{width_of, column_test, allowed_test, every_column, unless}
use Rattle.chars.specs.declared.columns.Allowed.{Allowed}
use Rattle.chars.specs.declared.columns.Allowed.TheVariants.{Anything, Permitted, Blanks, Digits, OfNames}

-- The column after a place stands at that place.
pub column_of : (allowed : Allowed) (line : List ℕ) (at : ℕ) → allowed_test allowed line (at + 1 - 1) ≡ allowed_test allowed line at
column_of allowed line at = let e : at + 1 - 1 ≡ at = omega arith in rw e

-- What a column says, and what all of a field's columns say.
pub column_says : (test : ℕ → Bool) (number : ℕ) (line : List ℕ) (at : ℕ)
    → column_test test number line at ≡ (if test (get_or line at 0) then fine else broken (at + 1) number)
unfolding column_test
column_says test number line at = refl

pub every_says : (allowed : Allowed) (line : List ℕ) (first last : ℕ)
    → every_column allowed line first last ≡ first_of (allowed_test allowed line) (first - 1) (width_of first last)
unfolding every_column
every_says allowed line first last = refl

-- Columns that may hold anything are never broken.
pub every_anything : (line : List ℕ) (first last : ℕ) → every_column Anything line first last ≡ fine
unfolding every_column
every_anything line first last = finds_nothing (allowed_test Anything line) (width_of first last) (first - 1) (λ k h. refl)

-- A test that is not refused holds.
pub unless_fine : (passes : Bool) (first number : ℕ) → unless passes first number ≡ fine → passes ≡ true
unless_fine true first number e = refl
unless_fine false first number e = let z : ◌≡◌ {A = ℕ} 0 1 = cc in absurd (omega arith)

-- Columns of digits, and columns of a name, hold permitted characters.
permitted_column : (test : ℕ → Bool) → ((c : ℕ) → test c ≡ true → is_permitted c ≡ true) → (number : ℕ) (line : List ℕ) (at : ℕ)
    → column_test test number line at ≡ fine → allowed_test Permitted line at ≡ fine
unfolding column_test
permitted_column test permits number line at e = rw (permits (get_or line at 0) (unless_fine (test (get_or line at 0)) (at + 1) number e))

pub digits_permitted : (line : List ℕ) (at : ℕ) → allowed_test Digits line at ≡ fine → allowed_test Permitted line at ≡ fine
digits_permitted = permitted_column is_digit digit_permitted 30

pub names_permitted : (line : List ℕ) (at : ℕ) → allowed_test OfNames line at ≡ fine → allowed_test Permitted line at ≡ fine
names_permitted = permitted_column is_of_name name_permitted 54

-- ---- the labels of the refusals
-- A test gives its own number, at its own column.
pub unless_labelled : (passes : Bool) (first number : ℕ) → Labelled number first first (unless passes first number)
unless_labelled true first number = fine_labelled number first first
unless_labelled false first number = broken_labelled number first first first (omega arith) (omega arith)

-- Columns are refused by 3, 30, 31 and 54, at one of them.
module _ (line : List ℕ) (first last : ℕ) where
  each_labelled : (allowed : Allowed) (number : ℕ) → ((at : ℕ) → Labelled number (at + 1) (at + 1) (allowed_test allowed line at))
      → Labelled number first last (every_column allowed line first last)
  unfolding every_column
  each_labelled allowed number each =
      says_labelled number first last _ (λ column told e.
      let broken_one = first_of_first (allowed_test allowed line) (width_of first last) (first - 1) column told e in
      let at = first - 1 + broken_one.at in
      let some = broken_one.in_range in
      let is = labelled_says number (at + 1) (at + 1) (allowed_test allowed line at) (each at) column told broken_one.hit in
      (is.0, omega arith, omega arith))

  test_labelled : (test : ℕ → Bool) (number at : ℕ) → Labelled number (at + 1) (at + 1) (column_test test number line at)
  unfolding column_test
  test_labelled test number at = unless_labelled (test (get_or line at 0)) (at + 1) number

  pub permitted_labelled : Labelled 3 first last (every_column Permitted line first last)
  permitted_labelled = each_labelled Permitted 3 (test_labelled is_permitted 3)

  pub blanks_labelled : Labelled 31 first last (every_column Blanks line first last)
  blanks_labelled = each_labelled Blanks 31 (test_labelled is_blank 31)

  pub digits_labelled : Labelled 30 first last (every_column Digits line first last)
  digits_labelled = each_labelled Digits 30 (test_labelled is_digit 30)

  pub names_labelled : Labelled 54 first last (every_column OfNames line first last)
  names_labelled = each_labelled OfNames 54 (test_labelled is_of_name 54)

-- ---- what the columns hold where none is broken
module _ (allowed : Allowed) (line : List ℕ) (first last : ℕ) where
  pub fine_columns : every_column allowed line first last ≡ fine → (k : ℕ) → first - 1 ≤ k → k < last → allowed_test allowed line k ≡ fine
  unfolding every_column
  fine_columns e k low high =
      let place : first - 1 + (k - (first - 1)) ≡ k = omega arith in
      rw place at (none_is_broken (allowed_test allowed line) (width_of first last) (first - 1) e (k - (first - 1)) (omega arith))

  pub columns_fine : ((k : ℕ) → first - 1 ≤ k → k < last → allowed_test allowed line k ≡ fine) → every_column allowed line first last ≡ fine
  unfolding every_column
  columns_fine all = finds_nothing (allowed_test allowed line) (width_of first last) (first - 1) (λ k h. all (first - 1 + k) (omega arith) (omega arith))

module _ (line : List ℕ) (at : ℕ) where
  pub blank_column : allowed_test Blanks line at ≡ fine → get_or line at 0 ≡ 0x20
  unfolding column_test is_blank
  blank_column e = eqb-true (get_or line at 0) 0x20 (unless_fine _ (at + 1) 31 e)

  pub column_blank : get_or line at 0 ≡ 0x20 → allowed_test Blanks line at ≡ fine
  unfolding column_test is_blank
  column_blank e = rw e

  pub column_permitted : 0x20 ≤ get_or line at 0 → get_or line at 0 ≤ 0x7e → allowed_test Permitted line at ≡ fine
  unfolding column_test is_permitted
  column_permitted low high = rw (le-leb 0x20 (get_or line at 0) low, le-leb (get_or line at 0) 0x7e high)

  pub digit_column : allowed_test Digits line at ≡ fine → (48 ≤ get_or line at 0) × (get_or line at 0 ≤ 57)
  unfolding column_test
  digit_column e = digit_range (get_or line at 0) (unless_fine _ (at + 1) 30 e)
