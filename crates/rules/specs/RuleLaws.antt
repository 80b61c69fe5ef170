-- Laws: the rules of numbers, edit by edit: the class test, then the rule of the value.
use Rattle.std.specs.Prelude.{ℕ, ◌-◌, ◌<◌, ◌≤◌, ◌≡◌, refl, Bool, true, false, List, leb, if◌then◌else◌}
use Rattle.std.proofs.Common.{sym, ap, ◌∙◌, arith}
use Rattle.std.proofs.Math.Bool.{not}
use Rattle.laws.specs.Finding.{fine, or_else, Reading, value, refused, finding_in}
use Rattle.laws.specs.Labelled.{Labelled}
use Rattle.calendar.specs.Quarters.{is_filing_year, is_quarter_month}
use Rattle.chars.specs.Agree.{Agree}
use Rattle.chars.specs.Columns.{width_of, every_column, unless}
use Rattle.chars.specs.ColumnLaws.{unless_fine, unless_labelled}
use Rattle.chars.specs.declared.columns.Allowed.TheVariants.{Digits}
use Rattle.number.specs.Numbers.{number_in, value_of, value_in}
use Rattle.number.specs.NumberLaws.{value_says, digits_read, number_alike}
use Rattle.rules.specs.Rules.{only_if, only_own, year_in, period_in, flag_in, fein_in, begins_with69, is_nine_zeros, identity_in, may_be_filed}

rule_finds : (t : Bool) (v first number : ℕ) → finding_in (if t then value v else refused first number) ≡ unless t first number
rule_finds true v first number = refl
rule_finds false v first number = refl

only_parts : (passes : ℕ → Bool) (first number : ℕ) (r : Reading)
    → finding_in (only_if passes first number r) ≡ or_else (finding_in r) (unless (passes (value_of r)) first number)
only_parts passes first number (value v) = rule_finds (passes v) v first number
only_parts passes first number (refused column other) = refl

-- A second rule of the value, after the first.
second_finds : (t : Bool) (next : ℕ → Bool) (v first number other : ℕ)
    → finding_in (only_if next first other (if t then value v else refused first number)) ≡ or_else (unless t first number) (unless (next v) first other)
second_finds true next v first number other = rule_finds (next v) v first other
second_finds false next v first number other = refl

both_parts : (passes next : ℕ → Bool) (first number other : ℕ) (r : Reading)
    → finding_in (only_if next first other (only_if passes first number r))
    ≡ or_else (finding_in r) (or_else (unless (passes (value_of r)) first number) (unless (next (value_of r)) first other))
both_parts passes next first number other (value v) = second_finds (passes v) next v first number other
both_parts passes next first number other (refused column reason) = refl

module _ (line : List ℕ) (first last : ℕ) (h : first - 1 < last) (w : width_of first last ≤ 19) where
  parts : (passes : ℕ → Bool) (number : ℕ)
      → finding_in (only_if passes first number (number_in line first last)) ≡ or_else (every_column Digits line first last) (unless (passes (value_in line first last)) first number)
  parts passes number = rw (value_says line first last) (only_parts passes first number (number_in line first last) ∙ rw (digits_read line first last h w))

  pub year_parts : finding_in (year_in line first last) ≡ or_else (every_column Digits line first last) (unless (is_filing_year (value_in line first last)) first 38)
  unfolding year_in
  year_parts = parts is_filing_year 38

  pub fein_parts : finding_in (fein_in line first last)
      ≡ or_else (every_column Digits line first last)
      (or_else (unless (not (begins_with69 (value_in line first last))) first 44) (unless (not (is_nine_zeros (value_in line first last))) first 64))
  unfolding fein_in
  fein_parts =
      rw (value_says line first last)
      (both_parts (λ fein. not (begins_with69 fein)) (λ fein. not (is_nine_zeros fein)) first 44 64 (number_in line first last)
      ∙ rw (digits_read line first last h w))

  pub identity_parts : finding_in (identity_in line first last) ≡ or_else (every_column Digits line first last) (unless (may_be_filed (value_in line first last)) first 52)
  unfolding identity_in
  identity_parts = parts may_be_filed 52

-- ---- a period that is not refused
own_passes : (passes : ℕ → Bool) (first number : ℕ) (r : Reading) → finding_in (only_own passes first number r) ≡ fine → passes (value_of r) ≡ true
own_passes passes first number (value v) e = unless_fine (passes v) first number (sym (rule_finds (passes v) v first number) ∙ e)
own_passes passes first number (refused column other) e = let z : ◌≡◌ {A = ℕ} 0 1 = cc in absurd (omega arith)

pub period_fine : (line : List ℕ) (first last : ℕ) → finding_in (period_in line first last) ≡ fine → is_quarter_month (value_in line first last) ≡ true
unfolding period_in
period_fine line first last e = rw (value_says line first last) (own_passes is_quarter_month first 40 (number_in line first last) e)

-- And the other way: one that reads as a quarter's month is not refused.
pub period_passes : (line : List ℕ) (first last month : ℕ) → number_in line first last ≡ value month → is_quarter_month month ≡ true
    → finding_in (period_in line first last) ≡ fine
unfolding period_in
period_passes line first last month reads quarter = rw (reads, quarter)

pub period_alike : (u v : List ℕ) (first last : ℕ) → Agree u v first last → period_in u first last ≡ period_in v first last
unfolding period_in
period_alike u v first last agree = ap (only_own is_quarter_month first 40) (number_alike u v first last agree)

pub flag_alike : (u v : List ℕ) (column : ℕ) → Agree u v column column → flag_in u column ≡ flag_in v column
unfolding flag_in
flag_alike u v column agree = ap (only_own (λ flag. leb flag 1) column 47) (number_alike u v column column agree)

-- ---- the labels of the refusals: a rule that gives its own number gives no other, and gives it at the first column
own_labelled : (passes : ℕ → Bool) (first number : ℕ) (r : Reading) → Labelled number first first (finding_in (only_own passes first number r))
own_labelled passes first number (value v) = rw rule_finds (unless_labelled (passes v) first number)
own_labelled passes first number (refused column other) = unless_labelled false first number

pub period_labelled : (line : List ℕ) (first last : ℕ) → Labelled 40 first first (finding_in (period_in line first last))
unfolding period_in
period_labelled line first last = own_labelled is_quarter_month first 40 (number_in line first last)

pub flag_labelled : (line : List ℕ) (column : ℕ) → Labelled 47 column column (finding_in (flag_in line column))
unfolding flag_in
flag_labelled line column = own_labelled (λ flag. leb flag 1) column 47 (number_in line column column)
