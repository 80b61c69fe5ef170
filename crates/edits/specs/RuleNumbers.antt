-- Definitions: the rules of fields by their numbers.
use Rattle.std.specs.Prelude.{ℕ, List, [], ◌∷◌, get_or}
use Rattle.edits.specs.declared.Rule.{Rule}
use Rattle.edits.specs.declared.Rule.TheVariants.{Nothing, YearInTime, QuarterInTime, YearOfA, PeriodOfA, FeinNew, FeinOfE, DateInQuarter, IdentityNew, CountOfS, WagesOfS, FileCountOfS, FileCountOfE, FileWagesOfS, FinalIfCurrent, More}
use Rattle.edits.specs.declared.FurtherRule.TheVariants.{YearHeld, QuarterOfE, ListRoom, AccountOfE, QuarterEnd, SecondOfS}

-- The rule that a list of rules names by its number, from 0 in this order; past the last there is none.
unfoldable pub rule_list : List Rule
rule_list =
    Nothing ∷ YearInTime ∷ QuarterInTime ∷ YearOfA ∷ PeriodOfA ∷ FeinNew ∷ FeinOfE ∷ DateInQuarter ∷ IdentityNew ∷ CountOfS ∷ WagesOfS ∷ FileCountOfS ∷
    FileCountOfE ∷ FileWagesOfS ∷ FinalIfCurrent ∷ More YearHeld ∷ More QuarterOfE ∷ More ListRoom ∷ More AccountOfE ∷ More QuarterEnd ∷ More SecondOfS ∷ []

unfoldable pub rule_of : ℕ → Rule
rule_of number = get_or rule_list number Nothing

abbrev pub rule_number : Rule → ℕ
rule_number Nothing = 0
rule_number YearInTime = 1
rule_number QuarterInTime = 2
rule_number YearOfA = 3
rule_number PeriodOfA = 4
rule_number FeinNew = 5
rule_number FeinOfE = 6
rule_number DateInQuarter = 7
rule_number IdentityNew = 8
rule_number CountOfS = 9
rule_number WagesOfS = 10
rule_number FileCountOfS = 11
rule_number FileCountOfE = 12
rule_number FileWagesOfS = 13
rule_number FinalIfCurrent = 14
rule_number (More YearHeld) = 15
rule_number (More QuarterOfE) = 16
rule_number (More ListRoom) = 17
rule_number (More AccountOfE) = 18
rule_number (More QuarterEnd) = 19
rule_number (More SecondOfS) = 20
