-- Follows the code; need not be believed. A field as it is tested: its class test, its own rules, its context, in this order; and the first broken field.
-- Then how wide a field has to be for the test to find what the field's list of edits finds.
use Rattle.std.specs.Prelude.{ℕ, ◌-◌, ◌<◌, ◌≤◌, Bool, List, eqb, length, get_or, if◌then◌else◌}
use Rattle.laws.specs.Finding.{Finding, fine, broken, or_else, first_of, finding_in, Reading, value, refused}
use Rattle.calendar.specs.Dates.{is_date}
use Rattle.chars.specs.Columns.{unless, width_of}
use Rattle.number.specs.Numbers.{number_in, value_in}
use Rattle.rules.specs.Rules.{year_in, period_in, flag_in, fein_in, identity_in}
use Rattle.text.specs.Text.{entity_test}
use Rattle.text.specs.Address.{region_in, state_test, zip_test, extension_test}
use Rattle.field.specs.ClassTests.{class_test}
use Rattle.field.specs.declared.class.Class.{Class}
use Rattle.field.specs.declared.class.Class.TheVariants.{Ignored, RecordLetter, BlankSpace, Numeric, AccountNumber, Flag, ThirdQuarterFlag, Period, RequiredText, OptionalText, PersonName, EntityCode, StateCode, ZipCode, ZipExtension, TaxYear, EmployerFein, IdentityNumber, CeaseDate, More}
use Rattle.edits.specs.Edit.{first_broken}
use Rattle.edits.specs.FieldRow.{no_row, class_in, first_in, last_in}
use Rattle.edits.specs.declared.Around.{Around}
use Rattle.edits.specs.FurtherTests.{further_rest}
use Rattle.edits.specs.Own.{is_final}
use Rattle.edits.specs.WithContext.{with_context}
use Rattle.edits.specs.declared.Landmarks.{Landmarks}
use Rattle.edits.specs.declared.Rule.{Rule}
use Rattle.field.specs.declared.class.Field.{Field}
use Rattle.edits.specs.declared.Rule.TheVariants.{Nothing}

-- What the rules of a date find, given its reading.
abbrev pub cease_rules : Bool → ℕ → ℕ → Finding
cease_rules final date first =
    if final
    then (if eqb date 0 then broken first 51 else unless (is_date date) first 48)
    else unless (eqb date 0) first 50

abbrev pub cease_in : Bool → ℕ → Reading → Finding
cease_in final first (value date) = cease_rules final date first
cease_in final first (refused column number) = broken column number

unfoldable pub cease_test : Landmarks → List ℕ → ℕ → ℕ → Finding
cease_test landmarks line first last = cease_in (is_final landmarks line) first (number_in line first last)

unfoldable pub third_quarter_test : Landmarks → List ℕ → ℕ → Finding
third_quarter_test landmarks line first =
    if eqb (value_in line landmarks.period_first landmarks.period_last) 9 then finding_in (flag_in line first) else fine

-- The own rules after the class test, as the readers of the field crates find them.
abbrev pub own_rest : Landmarks → List ℕ → Class → List ℕ → ℕ → ℕ → Finding
own_rest landmarks code Ignored line first last = fine
own_rest landmarks code RecordLetter line first last = fine
own_rest landmarks code BlankSpace line first last = fine
own_rest landmarks code Numeric line first last = fine
own_rest landmarks code AccountNumber line first last = fine
own_rest landmarks code Flag line first last = finding_in (flag_in line first)
own_rest landmarks code ThirdQuarterFlag line first last = third_quarter_test landmarks line first
own_rest landmarks code Period line first last = finding_in (period_in line first last)
own_rest landmarks code RequiredText line first last = fine
own_rest landmarks code OptionalText line first last = fine
own_rest landmarks code PersonName line first last = fine
own_rest landmarks code EntityCode line first last = entity_test code line first
own_rest landmarks code StateCode line first last = state_test (region_in line first) first
own_rest landmarks code ZipCode line first last = zip_test (region_in line landmarks.state) line first
own_rest landmarks code ZipExtension line first last = extension_test (region_in line landmarks.state) line first
own_rest landmarks code TaxYear line first last = finding_in (year_in line first last)
own_rest landmarks code EmployerFein line first last = finding_in (fein_in line first last)
own_rest landmarks code IdentityNumber line first last = finding_in (identity_in line first last)
own_rest landmarks code CeaseDate line first last = cease_test landmarks line first last
own_rest landmarks code (More class) line first last = further_rest landmarks.further class line first last

-- The rules of a field after its class test: its own, then those of the context.
unfoldable pub rules_test : Around → List ℕ → Class → Rule → ℕ → ℕ → Finding
rules_test a line class which first last =
    or_else (own_rest a.landmarks a.code class line first last) (first_broken (with_context which a.landmarks a.here a.seen line first last))

unfoldable pub field_test : Around → List ℕ → Class → Rule → ℕ → ℕ → Finding
field_test a line class which first last = or_else (class_test class line first last) (rules_test a line class which first last)

-- Field k of a list of rows and rules.
unfoldable pub field_at : Around → List ℕ → List Field → List Rule → ℕ → Finding
field_at a line rows rules k =
    field_test a line (class_in (get_or rows k no_row)) (get_or rules k Nothing) (first_in (get_or rows k no_row)) (last_in (get_or rows k no_row))

-- "the first broken column of the first broken field"
unfoldable pub fields_test : Around → List ℕ → List Field → List Rule → Finding
fields_test a line rows rules = first_of (field_at a line rows rules) 0 (length rows)

-- The columns may read as a number: there is one, and there are at most 19.
abbrev pub Readable : ℕ → ℕ → Type 0
Readable first last = (first - 1 < last) × (width_of first last ≤ 19)

-- What a class asks of its columns: that they may read as a number, where a rule after the class test looks at the value.
abbrev pub Wide : Class → ℕ → ℕ → Type 0
Wide TaxYear first last = Readable first last
Wide EmployerFein first last = Readable first last
Wide IdentityNumber first last = Readable first last
Wide CeaseDate first last = Readable first last
Wide Ignored first last = Unit {0}
Wide RecordLetter first last = Unit {0}
Wide BlankSpace first last = Unit {0}
Wide Numeric first last = Unit {0}
Wide AccountNumber first last = Unit {0}
Wide Flag first last = Unit {0}
Wide ThirdQuarterFlag first last = Unit {0}
Wide Period first last = Unit {0}
Wide RequiredText first last = Unit {0}
Wide OptionalText first last = Unit {0}
Wide PersonName first last = Unit {0}
Wide EntityCode first last = Unit {0}
Wide StateCode first last = Unit {0}
Wide ZipCode first last = Unit {0}
Wide ZipExtension first last = Unit {0}
Wide (More class) first last = Unit {0}

-- Every row is as wide as its class asks.
abbrev pub AllWide : List Field → Type 0
AllWide rows = (k : ℕ) → k < length rows → Wide (class_in (get_or rows k no_row)) (first_in (get_or rows k no_row)) (last_in (get_or rows k no_row))
