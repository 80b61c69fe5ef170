-- Laws: a field among others, as a loop over a record's fields uses it; and a rule is found again from its number.
use Rattle.std.specs.Prelude.{ℕ, ◌≡◌, refl, List, get_or}
use Rattle.laws.specs.Finding.{Finding, fine, broken}
use Rattle.field.specs.ClassTests.{class_test}
use Rattle.edits.specs.FieldRow.{no_row, class_in, first_in, last_in}
use Rattle.edits.specs.declared.Around.{Around}
use Rattle.edits.specs.RuleNumbers.{rule_list, rule_of, rule_number}
use Rattle.edits.specs.Tests.{rules_test, field_test, field_at}
use Rattle.edits.specs.declared.Rule.{Rule}
use Rattle.edits.specs.declared.Rule.TheVariants.{Nothing, YearInTime, QuarterInTime, YearOfA, PeriodOfA, FeinNew, FeinOfE, DateInQuarter, IdentityNew, CountOfS, WagesOfS, FileCountOfS, FileCountOfE, FileWagesOfS, FinalIfCurrent, More}
use Rattle.edits.specs.declared.FurtherRule.TheVariants.{YearHeld, QuarterOfE, ListRoom, AccountOfE, QuarterEnd, SecondOfS}
use Rattle.field.specs.declared.class.Field.{Field}

-- Field k, by its row and its rule.
module _ (a : Around) (line : List ℕ) (rows : List Field) (rules : List Rule) (k : ℕ) (row : Field) (here : row ≡ get_or rows k no_row) where
  pub field_says : (which : Rule) → which ≡ get_or rules k Nothing → field_at a line rows rules k ≡ field_test a line (class_in row) which (first_in row) (last_in row)
  unfolding field_at
  field_says which ruled = rw (← here, ← ruled)

  -- A field whose class test is broken is broken there.
  pub class_breaks : (column number : ℕ) → class_test (class_in row) line (first_in row) (last_in row) ≡ broken column number
      → field_at a line rows rules k ≡ broken column number
  unfolding field_at field_test
  class_breaks column number hit = rw (← here, hit)

  -- A field that passes its class test says what its rules say.
  pub class_passes : (which : Rule) (finding : Finding) → class_test (class_in row) line (first_in row) (last_in row) ≡ fine
      → which ≡ get_or rules k Nothing → finding ≡ rules_test a line (class_in row) which (first_in row) (last_in row)
      → field_at a line rows rules k ≡ finding
  unfolding field_at field_test
  class_passes which finding passed ruled found = rw (← here, passed, ← ruled, ← found)

-- The rule is found again from its number.
pub rule_again : (which : Rule) → rule_of (rule_number which) ≡ which
unfolding rule_of rule_list
rule_again Nothing = refl
rule_again YearInTime = refl
rule_again QuarterInTime = refl
rule_again YearOfA = refl
rule_again PeriodOfA = refl
rule_again FeinNew = refl
rule_again FeinOfE = refl
rule_again DateInQuarter = refl
rule_again IdentityNew = refl
rule_again CountOfS = refl
rule_again WagesOfS = refl
rule_again FileCountOfS = refl
rule_again FileCountOfE = refl
rule_again FileWagesOfS = refl
rule_again FinalIfCurrent = refl
rule_again (More YearHeld) = refl
rule_again (More QuarterOfE) = refl
rule_again (More ListRoom) = refl
rule_again (More AccountOfE) = refl
rule_again (More QuarterEnd) = refl
rule_again (More SecondOfS) = refl
