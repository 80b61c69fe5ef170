-- Definitions: the edits of a field by itself and by other fields of the same record: what the paper asks of it whatever stands on other lines.
use Rattle.std.specs.Prelude.{ℕ, Bool, not, ◌&&◌, ◌||◌, List, [], ◌∷◌, ◌++◌, eqb, if◌then◌else◌}
use Rattle.laws.specs.Finding.{fine, finding_in}
use Rattle.calendar.specs.Dates.{is_date}
use Rattle.calendar.specs.Quarters.{is_filing_year}
use Rattle.chars.specs.declared.columns.Allowed.TheVariants.{Blanks, Digits, OfNames}
use Rattle.chars.specs.Columns.{every_column}
use Rattle.number.specs.Numbers.{value_in}
use Rattle.rules.specs.Rules.{period_in, flag_in, begins_with69, is_nine_zeros, may_be_filed}
use Rattle.text.specs.Text.{all_blank, is_indented, entity_test}
use Rattle.text.specs.Address.{region_in, state_test, zip_test, extension_test}
use Rattle.field.specs.declared.class.Class.{Class}
use Rattle.field.specs.declared.class.Class.TheVariants.{Ignored, RecordLetter, BlankSpace, Numeric, AccountNumber, Flag, ThirdQuarterFlag, Period, RequiredText, OptionalText, PersonName, EntityCode, StateCode, ZipCode, ZipExtension, TaxYear, EmployerFein, IdentityNumber, CeaseDate, More}
use Rattle.edits.specs.Edit.{Edit, at_first, rule, each_column}
use Rattle.edits.specs.Further.{further_own}
use Rattle.edits.specs.declared.Landmarks.{Landmarks}

-- "E flags: 0 or 1 (47)"
abbrev pub flag_edit : List ℕ → ℕ → Edit
flag_edit line first = at_first 47 first (finding_in (flag_in line first))

-- "191 is tested only in period 09 (Appendix D); otherwise any character passes."
abbrev pub third_quarter_edit : Landmarks → List ℕ → ℕ → Edit
third_quarter_edit landmarks line first =
    at_first 47 first (if eqb (value_in line landmarks.period_first landmarks.period_last) 9 then finding_in (flag_in line first) else fine)

-- "Number .. all digits (30 at the first that is not)"
abbrev pub digits_edit : List ℕ → ℕ → ℕ → Edit
digits_edit line first last = each_column 30 Digits line first last

-- "Required text: all blank 32; first column blank otherwise 33."
abbrev pub required_edits : List ℕ → ℕ → ℕ → List Edit
required_edits line first last = rule 32 first (not (all_blank line first last)) ∷ rule 33 first (not (is_indented line first)) ∷ []

-- FEIN in A and E: "begins with 69 44 (glossary)"; nine zeros "64, right after 44 and before 45"
abbrev pub fein_edits : ℕ → ℕ → List Edit
fein_edits fein first = rule 44 first (not (begins_with69 fein)) ∷ rule 64 first (not (is_nine_zeros fein)) ∷ []

-- E cease date: "with 282 at 0, not all zeros 50. With 1: zeros 51, no calendar date 48"
abbrev pub cease_edits : Bool → ℕ → ℕ → List Edit
cease_edits final date first =
    rule 50 first (final || eqb date 0) ∷ rule 51 first (not (final && eqb date 0)) ∷ rule 48 first (not final || is_date date) ∷ []

-- Whether the return is the final one: 282 is not 0.
abbrev pub is_final : Landmarks → List ℕ → Bool
is_final landmarks line = not (eqb (value_in line landmarks.final_flag landmarks.final_flag) 0)

-- The own edits of a field, by its class.
abbrev pub own : Landmarks → List ℕ → Class → List ℕ → ℕ → ℕ → List Edit
own landmarks code Ignored line first last = []
own landmarks code RecordLetter line first last = []
own landmarks code BlankSpace line first last = each_column 31 Blanks line first last ∷ []
own landmarks code Numeric line first last = digits_edit line first last ∷ []
own landmarks code AccountNumber line first last =
    record { number = 30; first = first; last = last; finds = if all_blank line first last then fine else every_column Digits line first last } ∷ []
own landmarks code Flag line first last = flag_edit line first ∷ []
own landmarks code ThirdQuarterFlag line first last = third_quarter_edit landmarks line first ∷ []
own landmarks code Period line first last = at_first 40 first (finding_in (period_in line first last)) ∷ []
own landmarks code RequiredText line first last = required_edits line first last
own landmarks code OptionalText line first last = rule 33 first (all_blank line first last || not (is_indented line first)) ∷ []
own landmarks code PersonName line first last = required_edits line first last ++ (each_column 54 OfNames line first last ∷ [])
own landmarks code EntityCode line first last = at_first 34 first (entity_test code line first) ∷ []
own landmarks code StateCode line first last = at_first 35 first (state_test (region_in line first) first) ∷ []
own landmarks code ZipCode line first last = at_first 36 first (zip_test (region_in line landmarks.state) line first) ∷ []
own landmarks code ZipExtension line first last = at_first 37 first (extension_test (region_in line landmarks.state) line first) ∷ []
own landmarks code TaxYear line first last = digits_edit line first last ∷ rule 38 first (is_filing_year (value_in line first last)) ∷ []
own landmarks code EmployerFein line first last = digits_edit line first last ∷ fein_edits (value_in line first last) first
own landmarks code IdentityNumber line first last = digits_edit line first last ∷ rule 52 first (may_be_filed (value_in line first last)) ∷ []
own landmarks code CeaseDate line first last = digits_edit line first last ∷ cease_edits (is_final landmarks line) (value_in line first last) first
own landmarks code (More class) line first last = further_own landmarks.further class line first last
