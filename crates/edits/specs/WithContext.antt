-- Definitions: the edits of a field that look at other records, at the quarter held or at the room that is left.
use Rattle.std.specs.Prelude.{ℕ, Bool, not, ◌&&◌, ◌||◌, List, [], ◌∷◌, eqb, leb}
use Rattle.calendar.specs.Dates.{in_quarter}
use Rattle.calendar.specs.Quarters.{current_quarter, timing_of, may_report, must_be_final}
use Rattle.calendar.specs.declared.Quarter.{Quarter}
use Rattle.calendar.specs.declared.Timing.{Timing}
use Rattle.number.specs.Numbers.{value_in}
use Rattle.edits.specs.Edit.{Edit, rule}
use Rattle.edits.specs.Formats.{quarter_held}
use Rattle.edits.specs.Further.{further_edits}
use Rattle.edits.specs.Own.{is_final}
use Rattle.edits.specs.declared.Context.{Context}
use Rattle.edits.specs.declared.Landmarks.{Landmarks}
use Rattle.edits.specs.declared.Seen.{Seen}
use Rattle.edits.specs.declared.Rule.{Rule}
use Rattle.edits.specs.declared.Rule.TheVariants.{Nothing, YearInTime, QuarterInTime, YearOfA, PeriodOfA, FeinNew, FeinOfE, DateInQuarter, IdentityNew, CountOfS, WagesOfS, FileCountOfS, FileCountOfE, FileWagesOfS, FinalIfCurrent, More}

-- The year and the period of the record.
abbrev pub quarter_on : Landmarks → List ℕ → Quarter
quarter_on landmarks line =
    record {
      year = value_in line landmarks.year_first landmarks.year_last;
      month = value_in line landmarks.period_first landmarks.period_last;
    }

-- (v) of document 02: "41 is for quarters after the current"
abbrev pub quarter_in_time : Timing → ℕ → List Edit
quarter_in_time timing first = rule 41 first (may_report timing) ∷ []

-- "E: on an earlier E 45, then list full 63."
abbrev pub fein_new : Bool → Bool → ℕ → List Edit
fein_new seen full first = rule 45 first (not seen) ∷ rule 63 first (not full) ∷ []

-- "000000000 means applied for and may repeat. Another number: already under this E 53, then id table full 62; only such numbers take room."
abbrev pub identity_new : ℕ → Bool → Bool → ℕ → List Edit
identity_new v seen full first = rule 53 first (eqb v 0 || not seen) ∷ rule 62 first (eqb v 0 || not full) ∷ []

-- "T: count is not that of S records since E 55; none though E says 1 56, column 2 too;"
abbrev pub count_of_s : ℕ → ℕ → Bool → ℕ → List Edit
count_of_s v count follow first = rule 55 first (eqb v count) ∷ rule 56 first (not (eqb count 0 && follow)) ∷ []

-- "outside A's quarter 49", of a final return
abbrev pub date_in_quarter : Bool → ℕ → Quarter → ℕ → List Edit
date_in_quarter final v filed first = rule 49 first (not final || in_quarter v filed) ∷ []

-- "65, E column 282 is 0 in a current-quarter file, after 47 there"
abbrev pub final_if_current : Timing → ℕ → ℕ → List Edit
final_if_current timing v first = rule 65 first (not (must_be_final timing && eqb v 0)) ∷ []

-- The edits of a rule, in order; v is the field's value.
abbrev pub rule_edits : Rule → Landmarks → Context → Seen → List ℕ → ℕ → ℕ → List Edit
rule_edits Nothing landmarks around seen line first v = []
-- "39 is for years beyond the current quarter's"
rule_edits YearInTime landmarks around seen line first v = rule 39 first (leb v (current_quarter (quarter_held around.held)).year) ∷ []
rule_edits QuarterInTime landmarks around seen line first v = quarter_in_time (timing_of (quarter_held around.held) (quarter_on landmarks line)) first
-- "E and S: not A's 42."
rule_edits YearOfA landmarks around seen line first v = rule 42 first (eqb v around.filed.year) ∷ []
-- "E and S: not A's 43."
rule_edits PeriodOfA landmarks around seen line first v = rule 43 first (eqb v around.filed.month) ∷ []
rule_edits FeinNew landmarks around seen line first v = fein_new seen.fein around.list_full first
-- "S and T: not the open E's 46."
rule_edits FeinOfE landmarks around seen line first v = rule 46 first (eqb v around.open.fein) ∷ []
rule_edits DateInQuarter landmarks around seen line first v = date_in_quarter (is_final landmarks line) v around.filed first
rule_edits IdentityNew landmarks around seen line first v = identity_new v seen.id around.ids_full first
rule_edits CountOfS landmarks around seen line first v = count_of_s v around.open.count around.open.follow first
-- "wages are not their sum 57."
rule_edits WagesOfS landmarks around seen line first v = rule 57 first (eqb v around.open.sum) ∷ []
-- "F: S count 58, E count 59, wages 60."
rule_edits FileCountOfS landmarks around seen line first v = rule 58 first (eqb v around.all.count) ∷ []
rule_edits FileCountOfE landmarks around seen line first v = rule 59 first (eqb v around.all.employers) ∷ []
rule_edits FileWagesOfS landmarks around seen line first v = rule 60 first (eqb v around.all.sum) ∷ []
rule_edits FinalIfCurrent landmarks around seen line first v = final_if_current (timing_of (quarter_held around.held) around.filed) v first
rule_edits (More which) landmarks around seen line first v = further_edits which landmarks.further around line first v

abbrev pub with_context : Rule → Landmarks → Context → Seen → List ℕ → ℕ → ℕ → List Edit
with_context which landmarks around seen line first last = rule_edits which landmarks around seen line first (value_in line first last)
