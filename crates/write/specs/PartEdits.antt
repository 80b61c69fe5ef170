-- Laws: one field: none of its edits is broken exactly if its part stands in the line.
use Rattle.std.specs.Prelude.{ℕ, ◌-◌, ◌≤◌, ◌<◌, List, [], ◌∷◌, ◌≡◌, T, eqb, get_or}
use Rattle.std.proofs.Common.{arith, eqb-true, eq-eqb}
use Rattle.laws.specs.Finding.{fine}
use Rattle.laws.specs.Table.{every}
use Rattle.chars.specs.Columns.{width_of, every_column, unless}
use Rattle.chars.specs.ColumnLaws.{unless_fine, fine_columns, columns_fine, blank_column, column_blank}
use Rattle.chars.specs.declared.columns.Allowed.TheVariants.{Blanks, Digits}
use Rattle.number.specs.Numbers.{value_in}
use Rattle.number.specs.NumberColumnLaws.{reads_value, value_reads}
use Rattle.text.specs.Text.{has_pattern}
use Rattle.text.specs.TextLaws.{Fixed, pattern_columns, columns_pattern}
use Rattle.write.specs.PartLaws.{is_plain, Holds, plain_at}
use Rattle.write.specs.Records.{text, number, blank}

module _ (line : List ℕ) (first last v refusal : ℕ) (h : first - 1 < last) (w : width_of first last ≤ 19) where
  -- The class test of a number, and the rule that compares it with v.
  pub number_fine : Holds (number first last v) line
      → (every_column Digits line first last ≡ fine) × (unless (eqb (value_in line first last) v) first refusal ≡ fine)
  number_fine holds =
      let reads = value_reads line first last h w v holds in
      (reads.0, rw (eq-eqb (value_in line first last) v reads.1))

  pub fine_number : every_column Digits line first last ≡ fine → unless (eqb (value_in line first last) v) first refusal ≡ fine
      → Holds (number first last v) line
  fine_number digits same = reads_value line first last h w v digits (eqb-true (value_in line first last) v (unless_fine _ first refusal same))

-- The entity's code, a text of capitals.
module _ (code : List ℕ) (plain : T (every is_plain 0 0 code)) (line : List ℕ) (first : ℕ) where
  fixed : Fixed code
  fixed k h = (plain_at code plain k h).1

  pub code_fine : Holds (text first code) line → unless (has_pattern line first code) first 34 ≡ fine
  code_fine holds = rw (columns_pattern line first code fixed holds)

  pub fine_code : unless (has_pattern line first code) first 34 ≡ fine → Holds (text first code) line
  fine_code e = pattern_columns line first code fixed (unless_fine _ first 34 e)

module _ (line : List ℕ) (first last : ℕ) where
  pub blank_fine : Holds (blank first last) line → every_column Blanks line first last ≡ fine
  blank_fine holds = columns_fine Blanks line first last (λ k low high. column_blank line k (holds k low high))

  pub fine_blank : every_column Blanks line first last ≡ fine → Holds (blank first last) line
  fine_blank e k low high = blank_column line k (fine_columns Blanks line first last e k low high)

-- The record letter stands in the first column.
pub letter_holds : (line : List ℕ) (letter : ℕ) → get_or line 0 0 ≡ letter → Holds (text 1 (letter ∷ [])) line
letter_holds line letter e k h = let front : k ≡ 0 = omega arith in rw front e

-- One field after the other.
infixr 4 ◌&◌
pub ◌&◌ : {A B : Type 0} → A → B → A × B
a & b = (a, b)
