-- Laws: what an edit of a field finds is told by its label.
use Rattle.std.specs.Prelude.{ℕ, ◌+◌, Bool, true, false, refl, List, [], ◌∷◌, if◌then◌else◌}
use Rattle.std.proofs.Common.{arith}
use Rattle.laws.specs.Finding.{Finding}
use Rattle.laws.specs.Labelled.{Labelled, labelled_says, says_labelled, fine_labelled, choice_labelled}
use Rattle.chars.specs.Columns.{every_column}
use Rattle.chars.specs.declared.columns.Allowed.TheVariants.{Digits}
use Rattle.edits.specs.Further.{is_negative, digits_from}
use Rattle.chars.specs.ColumnLaws.{unless_labelled, blanks_labelled, digits_labelled, names_labelled}
use Rattle.number.specs.Numbers.{value_in}
use Rattle.rules.specs.RuleLaws.{period_labelled, flag_labelled}
use Rattle.text.specs.TextLaws.{entity_labelled, state_labelled, zip_labelled, extension_labelled}
use Rattle.field.specs.declared.class.Class.{Class}
use Rattle.field.specs.declared.class.Class.TheVariants.{Ignored, RecordLetter, BlankSpace, Numeric, AccountNumber, Flag, ThirdQuarterFlag, Period, RequiredText, OptionalText, PersonName, EntityCode, StateCode, ZipCode, ZipExtension, TaxYear, EmployerFein, IdentityNumber, CeaseDate, More}
use Rattle.edits.specs.Labels.{AllLabelled}
use Rattle.edits.specs.LabelLaws.{none_labelled, more_labelled, labelled_append}
use Rattle.edits.specs.Own.{own}
use Rattle.edits.specs.WithContext.{rule_edits, with_context}
use Rattle.edits.specs.declared.Around.{Around}
use Rattle.edits.specs.FieldEdits.{edits_of, field_edits}
use Rattle.edits.specs.declared.Context.{Context}
use Rattle.edits.specs.declared.Landmarks.{Landmarks}
use Rattle.edits.specs.declared.Seen.{Seen}
use Rattle.edits.specs.declared.Rule.{Rule}
use Rattle.edits.specs.declared.Rule.TheVariants.{Nothing, YearInTime, QuarterInTime, YearOfA, PeriodOfA, FeinNew, FeinOfE, DateInQuarter, IdentityNew, CountOfS, WagesOfS, FileCountOfS, FileCountOfE, FileWagesOfS, FinalIfCurrent, More}
use Rattle.edits.specs.declared.FurtherRule.TheVariants.{YearHeld, QuarterOfE, ListRoom, AccountOfE, QuarterEnd, SecondOfS}
use Rattle.field.specs.declared.class.Further.TheVariants.{SocialSecurity, MaineCode, Licence, Difference}
use Rattle.field.specs.declared.class.Field.{Field}
use Rattle.edits.specs.FieldRow.{class_in, first_in, last_in}

ruleset labels = (none_labelled, more_labelled, refl, unless_labelled, blanks_labelled, digits_labelled, names_labelled, choice_labelled, fine_labelled, period_labelled, flag_labelled, entity_labelled, state_labelled, zip_labelled, extension_labelled)

-- The digits of an amount that may be negative begin in its first column or in the one after it.
later_labelled : (number first last : ℕ) (f : Finding) → Labelled number (first + 1) last f → Labelled number first last f
later_labelled number first last f labelled =
    says_labelled number first last f (λ column told e. let says = labelled_says number (first + 1) last f labelled column told e in (says.0, omega (arith, says.1), says.2))

signed_labelled : (line : List ℕ) (first last : ℕ) → Labelled 30 first last (every_column Digits line (digits_from line first last) last)
signed_labelled line first last = by (is_negative line first last) where
  by : (negative : Bool) → Labelled 30 first last (every_column Digits line (if negative then first + 1 else first) last)
  by true = later_labelled 30 first last _ (digits_labelled line (first + 1) last)
  by false = digits_labelled line first last

pub own_labelled : (landmarks : Landmarks) (code : List ℕ) (class : Class) (line : List ℕ) (first last : ℕ) → AllLabelled (own landmarks code class line first last)
own_labelled landmarks code Ignored line first last = search labels
own_labelled landmarks code RecordLetter line first last = search labels
own_labelled landmarks code BlankSpace line first last = search labels
own_labelled landmarks code Numeric line first last = search labels
own_labelled landmarks code AccountNumber line first last = search labels
own_labelled landmarks code Flag line first last = search labels
own_labelled landmarks code ThirdQuarterFlag line first last = search labels
own_labelled landmarks code Period line first last = search labels
own_labelled landmarks code RequiredText line first last = search labels
own_labelled landmarks code OptionalText line first last = search labels
own_labelled landmarks code PersonName line first last = search labels
own_labelled landmarks code EntityCode line first last = search labels
own_labelled landmarks code StateCode line first last = search labels
own_labelled landmarks code ZipCode line first last = search labels
own_labelled landmarks code ZipExtension line first last = search labels
own_labelled landmarks code TaxYear line first last = search labels
own_labelled landmarks code EmployerFein line first last = search labels
own_labelled landmarks code IdentityNumber line first last = search labels
own_labelled landmarks code CeaseDate line first last = search labels depth 6
own_labelled landmarks code (More SocialSecurity) line first last = search labels
own_labelled landmarks code (More MaineCode) line first last = search labels
own_labelled landmarks code (More Licence) line first last = search labels
own_labelled landmarks code (More Difference) line first last =
    more_labelled _ _ (signed_labelled line first last) tt refl (search labels)

rule_labelled : (which : Rule) (landmarks : Landmarks) (around : Context) (seen : Seen) (line : List ℕ) (first v : ℕ)
    → AllLabelled (rule_edits which landmarks around seen line first v)
rule_labelled Nothing landmarks around seen line first v = search labels
rule_labelled YearInTime landmarks around seen line first v = search labels
rule_labelled QuarterInTime landmarks around seen line first v = search labels
rule_labelled YearOfA landmarks around seen line first v = search labels
rule_labelled PeriodOfA landmarks around seen line first v = search labels
rule_labelled FeinNew landmarks around seen line first v = search labels
rule_labelled FeinOfE landmarks around seen line first v = search labels
rule_labelled DateInQuarter landmarks around seen line first v = search labels
rule_labelled IdentityNew landmarks around seen line first v = search labels
rule_labelled CountOfS landmarks around seen line first v = search labels
rule_labelled WagesOfS landmarks around seen line first v = search labels
rule_labelled FileCountOfS landmarks around seen line first v = search labels
rule_labelled FileCountOfE landmarks around seen line first v = search labels
rule_labelled FileWagesOfS landmarks around seen line first v = search labels
rule_labelled FinalIfCurrent landmarks around seen line first v = search labels
rule_labelled (More YearHeld) landmarks around seen line first v = search labels
rule_labelled (More QuarterOfE) landmarks around seen line first v = search labels
rule_labelled (More ListRoom) landmarks around seen line first v = search labels
rule_labelled (More AccountOfE) landmarks around seen line first v = search labels
rule_labelled (More QuarterEnd) landmarks around seen line first v = search labels
rule_labelled (More SecondOfS) landmarks around seen line first v = search labels

field_labelled : (a : Around) (line : List ℕ) (row : Field) (which : Rule) → AllLabelled (edits_of a line row which)
field_labelled a line row which =
    let first = first_in row in
    let last = last_in row in
    labelled_append (own a.landmarks a.code (class_in row) line first last)
    (with_context which a.landmarks a.here a.seen line first last)
    (own_labelled a.landmarks a.code (class_in row) line first last)
    (rule_labelled which a.landmarks a.here a.seen line first (value_in line first last))

pub fields_labelled : (a : Around) (line : List ℕ) (rows : List Field) (rules : List Rule) → AllLabelled (field_edits a line rows rules)
unfolding field_edits
fields_labelled a line [] rules = none_labelled
fields_labelled a line (row ∷ rows) [] =
    labelled_append (edits_of a line row Nothing) (field_edits a line rows []) (field_labelled a line row Nothing) (fields_labelled a line rows [])
fields_labelled a line (row ∷ rows) (which ∷ rules) =
    labelled_append (edits_of a line row which) (field_edits a line rows rules) (field_labelled a line row which) (fields_labelled a line rows rules)
