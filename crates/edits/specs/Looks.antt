-- Definitions: which columns of its record the edits of a field look at: computed tests of a set of columns, that it holds them all.
use Rattle.std.specs.Prelude.{ℕ, zero, suc, ◌+◌, ◌-◌, Bool, true, false, ◌&&◌, List, length, get_or}
use Rattle.chars.specs.Columns.{width_of}
use Rattle.field.specs.declared.class.Class.{Class}
use Rattle.field.specs.declared.class.Class.TheVariants.{Ignored, RecordLetter, BlankSpace, Numeric, AccountNumber, Flag, ThirdQuarterFlag, Period, RequiredText, OptionalText, PersonName, EntityCode, StateCode, ZipCode, ZipExtension, TaxYear, EmployerFein, IdentityNumber, CeaseDate, More}
use Rattle.field.specs.declared.class.Further.{Further}
use Rattle.field.specs.declared.class.Further.TheVariants.{SocialSecurity, MaineCode, Licence, Difference}
use Rattle.edits.specs.FieldRow.{class_in, first_in, last_in}
use Rattle.edits.specs.declared.FurtherLandmarks.{FurtherLandmarks}
use Rattle.edits.specs.declared.FurtherRule.{FurtherRule}
use Rattle.edits.specs.declared.FurtherRule.TheVariants.{YearHeld, QuarterOfE, ListRoom, AccountOfE, QuarterEnd, SecondOfS}
use Rattle.edits.specs.declared.Landmarks.{Landmarks}
use Rattle.edits.specs.declared.Rule.{Rule}
use Rattle.edits.specs.declared.Rule.TheVariants.{Nothing, YearInTime, QuarterInTime, YearOfA, PeriodOfA, FeinNew, FeinOfE, DateInQuarter, IdentityNew, CountOfS, WagesOfS, FileCountOfS, FileCountOfE, FileWagesOfS, FinalIfCurrent, More as MoreRules}
use Rattle.field.specs.declared.class.Field.{Field}

module _ (shown : ℕ → Bool) where
  -- The set holds n columns, from the one after `at` on; all columns of a field; n columns from one on.
  unfoldable pub holds_from : ℕ → ℕ → Bool
  holds_from at zero = true
  holds_from at (suc n) = shown (at + 1) && holds_from (at + 1) n

  abbrev pub holds : ℕ → ℕ → Bool
  holds first last = holds_from (first - 1) (width_of first last)

  abbrev pub holds_some : ℕ → ℕ → Bool
  holds_some first n = holds first (first - 1 + n)

  -- By its class, what the own edits of a field look at: its columns, and those of another field of the record.
  abbrev pub further_held : FurtherLandmarks → Further → ℕ → ℕ → Bool
  further_held marks SocialSecurity first last = holds first last
  further_held marks MaineCode first last = holds first last
  further_held marks Licence first last = holds marks.licensed_first marks.licensed_last && (holds first last && holds_some first 1)
  further_held marks Difference first last =
      (holds first last && holds_some first 1) && (holds marks.whole_first marks.whole_last && holds marks.part_first marks.part_last)

  abbrev pub own_held : Landmarks → List ℕ → Class → ℕ → ℕ → Bool
  own_held landmarks code Ignored first last = true
  own_held landmarks code RecordLetter first last = true
  own_held landmarks code BlankSpace first last = holds first last
  own_held landmarks code Numeric first last = holds first last
  own_held landmarks code AccountNumber first last = holds first last
  own_held landmarks code Flag first last = holds first first
  own_held landmarks code ThirdQuarterFlag first last = holds landmarks.period_first landmarks.period_last && holds first first
  own_held landmarks code Period first last = holds first last
  own_held landmarks code RequiredText first last = holds first last && holds_some first 1
  own_held landmarks code OptionalText first last = holds first last && holds_some first 1
  own_held landmarks code PersonName first last = holds first last && holds_some first 1
  own_held landmarks code EntityCode first last = holds_some first (length code)
  own_held landmarks code StateCode first last = holds_some first 2
  own_held landmarks code ZipCode first last = holds_some landmarks.state 2 && holds_some first 5
  own_held landmarks code ZipExtension first last = holds_some landmarks.state 2 && holds_some first 5
  own_held landmarks code TaxYear first last = holds first last
  own_held landmarks code EmployerFein first last = holds first last
  own_held landmarks code IdentityNumber first last = holds first last
  own_held landmarks code CeaseDate first last = holds landmarks.final_flag landmarks.final_flag && holds first last
  own_held landmarks code (More class) first last = further_held landmarks.further class first last

  -- And by its rule, what the edits of the context look at.
  abbrev pub further_rule_held : FurtherLandmarks → FurtherRule → ℕ → ℕ → Bool
  further_rule_held marks YearHeld first last = holds first last
  further_rule_held marks QuarterOfE first last = holds first last
  further_rule_held marks ListRoom first last = true
  further_rule_held marks AccountOfE first last = holds first marks.head_last && holds marks.tail_first marks.tail_last
  further_rule_held marks QuarterEnd first last = holds first last
  further_rule_held marks SecondOfS first last = holds first last

  abbrev pub rule_held : Landmarks → Rule → ℕ → ℕ → Bool
  rule_held landmarks Nothing first last = true
  rule_held landmarks YearInTime first last = holds first last
  rule_held landmarks QuarterInTime first last =
      holds landmarks.year_first landmarks.year_last && holds landmarks.period_first landmarks.period_last
  rule_held landmarks YearOfA first last = holds first last
  rule_held landmarks PeriodOfA first last = holds first last
  rule_held landmarks FeinNew first last = true
  rule_held landmarks FeinOfE first last = holds first last
  rule_held landmarks DateInQuarter first last = holds landmarks.final_flag landmarks.final_flag && holds first last
  rule_held landmarks IdentityNew first last = holds first last
  rule_held landmarks CountOfS first last = holds first last
  rule_held landmarks WagesOfS first last = holds first last
  rule_held landmarks FileCountOfS first last = holds first last
  rule_held landmarks FileCountOfE first last = holds first last
  rule_held landmarks FileWagesOfS first last = holds first last
  rule_held landmarks FinalIfCurrent first last = holds first last
  rule_held landmarks (MoreRules which) first last = further_rule_held landmarks.further which first last

  -- Of field k, with its row and its rule.
  abbrev pub row_held : Landmarks → List ℕ → List Rule → ℕ → Field → Bool
  row_held landmarks code rules k row =
      own_held landmarks code (class_in row) (first_in row) (last_in row) && rule_held landmarks (get_or rules k Nothing) (first_in row) (last_in row)

-- The rules that read no sum, and ask nothing of the employer list.
abbrev pub further_no_sum : FurtherRule → Bool
further_no_sum YearHeld = true
further_no_sum QuarterOfE = true
further_no_sum ListRoom = true
further_no_sum AccountOfE = true
further_no_sum QuarterEnd = true
further_no_sum SecondOfS = false

abbrev pub reads_no_sum : Rule → Bool
reads_no_sum Nothing = true
reads_no_sum YearInTime = true
reads_no_sum QuarterInTime = true
reads_no_sum YearOfA = true
reads_no_sum PeriodOfA = true
reads_no_sum FeinNew = false
reads_no_sum FeinOfE = true
reads_no_sum DateInQuarter = true
reads_no_sum IdentityNew = true
reads_no_sum CountOfS = true
reads_no_sum WagesOfS = false
reads_no_sum FileCountOfS = true
reads_no_sum FileCountOfE = true
reads_no_sum FileWagesOfS = false
reads_no_sum FinalIfCurrent = true
reads_no_sum (MoreRules which) = further_no_sum which
