-- Outside, nothing is found yet, and the fields left say what all of them say; inside, the columns
-- left say what the field's class test says.
use Prim.Native.Nat.{ℕ}
use mathlib.Core.Path.{◌≡◌, refl, sym, ◌∙◌}
use native.Mathlib.Nat.{sub-zero}
use borrow.Author.Rules.{rules}
use Rattle.std.specs.Prelude.{true, false, get_or, Result, Ok, Err, ⊤}
use Rattle.std.specs.Result.{is_err}
use Rattle.laws.specs.Finding.{fine, broken}
use Rattle.laws.specs.First.{first_done, first_next, first_found}
use Rattle.reason.specs.ReasonNumbers.{finding_of, number_of}
use Rattle.reason.specs.declared.Broken.{Broken}
use Rattle.chars.specs.Characters.{capitals}
use Rattle.chars.specs.ColumnLaws.{column_of}
use Rattle.field.specs.ClassLaws.{lead_breaks, lead_leaves}
use Rattle.edits.specs.Tests.{fields_test}
use Rattle.edits.specs.FieldLaws.{class_breaks, class_passes}
use Rattle.edits.specs.declared.Rule.TheVariants.{Nothing}
use Rattle.edits.proofs.fields.first_broken.Goals as goal

-- What is no error is fine.
passed : (found : Result ⊤ Broken) → is_err found ≡ false → finding_of found ≡ fine
passed (Ok _) e = refl
passed (Err it) e = absurd cc

-- What is an error is broken at its column, by its reason's number.
abbrev column_in : Result ⊤ Broken → ℕ
column_in (Ok _) = 0
column_in (Err it) = it.0

abbrev number_in : Result ⊤ Broken → ℕ
number_in (Ok _) = 0
number_in (Err it) = number_of it.1

told : (found : Result ⊤ Broken) → is_err found ≡ true → finding_of found ≡ broken (column_in found) (number_in found)
told (Ok _) e = absurd cc
told (Err it) e = refl

pub fields-init : goal.fields-init
unfolding fields_test
fields-init c = (refl, rw sub-zero)

-- The text passes as a whole: the class test is that of the columns.
pub loop-at-init : goal.loop-at-init
loop-at-init c =
    let fine_text = passed _ (sym c.is_err.ensures.value ∙ c.if-is_err.false) in
    lead_leaves _ _ _ _ _ (sym c.lead_edit-found.ensures ∙ fine_text) c.allowed_in-allowed.ensures ∙ c.look_from-at.ensures

-- the column passes
pub loop-at-preserved : goal.loop-at-preserved
loop-at-preserved c =
    let fine_column = passed _ (sym c.is_err-in-loop-at.ensures.value ∙ c.if-is_err-2.false) in
    let said = sym (column_of c.allowed_in-allowed.result (capitals c.args.line.now) c.loop-at.at) ∙ sym c.column_edit-found.ensures in
    c.loop-at.invariant ∙ first_next _ _ _ c.loop-at-test.true (said ∙ fine_column)

-- the field passes
pub fields-preserved : goal.fields-preserved
fields-preserved c =
    let fine_rules = passed _ (sym c.is_err-in-fields.ensures.value ∙ c.if-is_err-3.false) in
    let ruled : c.unwrap_or-rule.result ≡ get_or c.args.rules.now c.fields.k Nothing = search rules in
    let fine_columns = c.loop-at.invariant ∙ first_done _ _ _ c.loop-at-test.false in
    let said = class_passes _ _ _ _ _ _ refl _ _ fine_columns ruled c.rules_edit-found.ensures in
    (fine_rules, c.fields.invariant.1 ∙ first_next _ _ _ c.fields-test.true (said ∙ fine_rules))

-- every field has passed
pub returns-after-fields : goal.returns-after-fields
returns-after-fields c = c.fields.invariant.0 ∙ sym (c.fields.invariant.1 ∙ first_done _ _ _ c.fields-test.false)

-- left behind a text that is broken as a whole
pub returns-then-is_err : goal.returns-then-is_err
returns-then-is_err c =
    let broken_text = told _ (sym c.is_err.ensures.value ∙ c.if-is_err.true) in
    let said = class_breaks _ _ _ _ _ _ refl _ _ (lead_breaks _ _ _ _ _ _ (sym c.lead_edit-found.ensures ∙ broken_text)) in
    broken_text ∙ sym (c.fields.invariant.1 ∙ first_found _ _ _ c.fields-test.true _ _ said)

-- left behind a broken column
pub returns-then-is_err-2 : goal.returns-then-is_err-2
returns-then-is_err-2 c =
    let broken_column = told _ (sym c.is_err-in-loop-at.ensures.value ∙ c.if-is_err-2.true) in
    let column = sym (column_of c.allowed_in-allowed.result (capitals c.args.line.now) c.loop-at.at) ∙ sym c.column_edit-found.ensures in
    let columns = c.loop-at.invariant ∙ first_found _ _ _ c.loop-at-test.true _ _ (column ∙ broken_column) in
    let said = class_breaks _ _ _ _ _ _ refl _ _ columns in
    broken_column ∙ sym (c.fields.invariant.1 ∙ first_found _ _ _ c.fields-test.true _ _ said)

-- left behind a broken rule
pub returns-then-is_err-3 : goal.returns-then-is_err-3
returns-then-is_err-3 c =
    let broken_rule = told _ (sym c.is_err-in-fields.ensures.value ∙ c.if-is_err-3.true) in
    let ruled : c.unwrap_or-rule.result ≡ get_or c.args.rules.now c.fields.k Nothing = search rules in
    let fine_columns = c.loop-at.invariant ∙ first_done _ _ _ c.loop-at-test.false in
    let said = class_passes _ _ _ _ _ _ refl _ _ fine_columns ruled c.rules_edit-found.ensures in
    broken_rule ∙ sym (c.fields.invariant.1 ∙ first_found _ _ _ c.fields-test.true _ _ (said ∙ broken_rule))
