-- Laws: the field as it is tested, the class test and then the rules after it, is the field's list of edits.
use Rattle.std.specs.Prelude.{ℕ, ◌≡◌, refl, Bool, true, false, List, ◌++◌, eqb, if◌then◌else◌}
use Rattle.std.proofs.Common.{sym, ap, ◌∙◌}
use Rattle.laws.specs.Finding.{fine, or_else, finding_in, Reading, value, refused}
use Rattle.chars.specs.Columns.{every_column}
use Rattle.chars.specs.ColumnLaws.{every_anything}
use Rattle.chars.specs.declared.columns.Allowed.TheVariants.{Anything, Digits}
use Rattle.number.specs.Numbers.{number_in, value_of, value_in}
use Rattle.number.specs.NumberLaws.{value_says, digits_read}
use Rattle.rules.specs.RuleLaws.{year_parts, fein_parts, identity_parts}
use Rattle.text.specs.TextLaws.{required_parts, optional_parts}
use Rattle.field.specs.ClassTests.{class_test}
use Rattle.field.specs.ClassLaws.{class_says}
use Rattle.field.specs.declared.class.Class.{Class}
use Rattle.field.specs.declared.class.Class.TheVariants.{Ignored, RecordLetter, BlankSpace, Numeric, AccountNumber, Flag, ThirdQuarterFlag, Period, RequiredText, OptionalText, PersonName, EntityCode, StateCode, ZipCode, ZipExtension, TaxYear, EmployerFein, IdentityNumber, CeaseDate, More}
use Rattle.edits.specs.Edit.{first_broken}
use Rattle.edits.specs.EditLaws.{or_fine, or_assoc, or_same, first_append}
use Rattle.edits.specs.Own.{is_final, cease_edits, own}
use Rattle.edits.specs.FurtherTests.{further_parts}
use Rattle.edits.specs.WithContext.{with_context}
use Rattle.edits.specs.declared.Around.{Around}
use Rattle.edits.specs.Tests.{cease_rules, cease_in, cease_test, third_quarter_test, own_rest, rules_test, field_test, Readable, Wide}
use Rattle.edits.specs.declared.Landmarks.{Landmarks}
use Rattle.edits.specs.declared.Rule.{Rule}

-- ---- the own edits of a class
-- "Exceptions: E 173-182 may be ten blanks;"
account_column : (blank : Bool) (line : List ℕ) (first last : ℕ)
    → every_column (if blank then Anything else Digits) line first last ≡ (if blank then fine else every_column Digits line first last)
account_column true line first last = every_anything line first last
account_column false line first last = refl

-- The rules of a date, edit by edit.
cease_rules_lem : (final none : Bool) (date first : ℕ) → eqb date 0 ≡ none → first_broken (cease_edits final date first) ≡ cease_rules final date first
unfolding first_broken
cease_rules_lem true true date first e = rw e
cease_rules_lem true false date first e = rw (e, or_fine)
cease_rules_lem false true date first e = rw e
cease_rules_lem false false date first e = rw e

-- The rules of a date after its digits: by its reading, then of the columns.
cease_reading : (final : Bool) (first : ℕ) (r : Reading) → cease_in final first r ≡ or_else (finding_in r) (cease_rules final (value_of r) first)
cease_reading final first (value date) = refl
cease_reading final first (refused column number) = refl

cease_parts : (landmarks : Landmarks) (line : List ℕ) (first last : ℕ) → Readable first last
    → cease_test landmarks line first last ≡ or_else (every_column Digits line first last) (cease_rules (is_final landmarks line) (value_in line first last) first)
unfolding cease_test
cease_parts landmarks line first last w =
    cease_reading (is_final landmarks line) first (number_in line first last)
    ∙ rw (digits_read line first last w.0 w.1, ← value_says line first last)

module _ (landmarks : Landmarks) (code : List ℕ) where
  -- The own edits of a field, in order, are its class test and its rules.
  pub own_parts : (class : Class) (line : List ℕ) (first last : ℕ) → Wide class first last
      → first_broken (own landmarks code class line first last) ≡ or_else (class_test class line first last) (own_rest landmarks code class line first last)
  unfolding first_broken third_quarter_test
  own_parts Ignored line first last w = rw (class_says, every_anything)
  own_parts RecordLetter line first last w = rw (class_says, every_anything)
  own_parts BlankSpace line first last w = rw class_says
  own_parts Numeric line first last w = rw class_says
  own_parts AccountNumber line first last w = rw (class_says, account_column)
  own_parts Flag line first last w = rw (class_says, every_anything, or_fine)
  own_parts ThirdQuarterFlag line first last w = rw (class_says, every_anything, or_fine)
  own_parts Period line first last w = rw (class_says, every_anything, or_fine)
  own_parts RequiredText line first last w = rw (class_says, every_anything, required_parts) (simp or_fine)
  own_parts OptionalText line first last w = rw (class_says, every_anything, optional_parts) (simp or_fine)
  own_parts PersonName line first last w = rw (class_says, required_parts) (simp or_assoc)
  own_parts EntityCode line first last w = rw (class_says, every_anything, or_fine)
  own_parts StateCode line first last w = rw (class_says, every_anything, or_fine)
  own_parts ZipCode line first last w = rw (class_says, every_anything, or_fine)
  own_parts ZipExtension line first last w = rw (class_says, every_anything, or_fine)
  own_parts TaxYear line first last (h, l) = rw (class_says, year_parts, or_same, or_fine)
  own_parts EmployerFein line first last (h, l) = rw (class_says, fein_parts, or_same, or_fine)
  own_parts IdentityNumber line first last (h, l) = rw (class_says, identity_parts, or_same, or_fine)
  own_parts CeaseDate line first last w =
      let date = value_in line first last in
      rw (class_says, cease_parts landmarks line first last w, or_same)
      (ap (or_else (every_column Digits line first last)) (cease_rules_lem (is_final landmarks line) (eqb date 0) date first refl))
  own_parts (More class) line first last w = further_parts landmarks.further class line first last

-- The field's test finds its first broken edit.
pub field_parts : (a : Around) (line : List ℕ) (class : Class) (which : Rule) (first last : ℕ) → Wide class first last
    → field_test a line class which first last
    ≡ first_broken (own a.landmarks a.code class line first last ++ with_context which a.landmarks a.here a.seen line first last)
unfolding field_test rules_test
field_parts a line class which first last w =
    let edits = own a.landmarks a.code class line first last in
    let more = with_context which a.landmarks a.here a.seen line first last in
    sym (first_append edits more
    ∙ rw (own_parts a.landmarks a.code class line first last w)
    (or_assoc (class_test class line first last) (own_rest a.landmarks a.code class line first last) (first_broken more)))
