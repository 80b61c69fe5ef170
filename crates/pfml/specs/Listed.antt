-- Laws: no edit is missing: the numbers of each record's edits are, in order, exactly those of the table in ListedNumbers, and their first columns
-- never fall. (These are the edits' labels; that what an edit finds is told by its label is `text_labelled`.)
use Rattle.std.specs.Prelude.{ℕ, true, List, [], ◌∷◌, ◌++◌, ◌≡◌, refl}
use Rattle.std.proofs.lemmas.List.{map-append}
use Rattle.std.proofs.Common.{ap, ◌∙◌}
use Rattle.lines.specs.Lines.{Line}
use Rattle.chars.specs.Characters.{capitals}
use Rattle.pfml_fields.specs.Fields.{fields_of_a, fields_of_e, fields_of_s, fields_of_t, fields_of_f}
use Rattle.edits.specs.Edit.{Edit}
use Rattle.edits.specs.Numbering.{numbers_of, never_falls}
use Rattle.edits.specs.declared.Around.{Around}
use Rattle.edits.specs.FieldEdits.{field_edits}
use Rattle.edits.specs.FieldEditLaws.{none_listed, fields_cons}
use Rattle.edits.specs.declared.Context.{Context}
use Rattle.edits.specs.declared.Seen.{Seen}
use Rattle.pfml.specs.Kinds.{kind_on}
use Rattle.pfml.specs.ListedNumbers.{numbers_of_a, numbers_of_e, numbers_of_s, numbers_of_t, numbers_of_f, numbers_for, numbers_of_head, numbers_of_text, numbers_of_line}
use Rattle.pfml.specs.Edits.{rows_for, around, head_edits, text_edits, rules_for}
use Rattle.pfml.specs.Format.{pfml_shape}
use Rattle.shape.specs.Shape.{line_edits_by}
use Rattle.pfml_fields.specs.FieldRules.{rules_of_a, rules_of_e, rules_of_s, rules_of_t, rules_of_f}
use Rattle.pfml.specs.declared.kind.Kind.{Kind}
use Rattle.pfml.specs.declared.kind.Kind.TheVariants.{Transmitter, Employer, Employee, Total, Final, Unknown}

pub listed_head : (here : Context) (text : List ℕ) (kind : Kind) → numbers_of (head_edits here text kind) ≡ numbers_of_head
listed_head here text kind = refl

module _ (a : Around) (text : List ℕ) where
  pub listed_A : numbers_of (field_edits a text fields_of_a rules_of_a) ≡ numbers_of_a
  unfolding fields_of_a rules_of_a
  listed_A = simp (fields_cons, none_listed)

  pub in_order_A : never_falls (field_edits a text fields_of_a rules_of_a) ≡ true
  unfolding fields_of_a rules_of_a
  in_order_A = simp (fields_cons, none_listed)

  pub listed_E : numbers_of (field_edits a text fields_of_e rules_of_e) ≡ numbers_of_e
  unfolding fields_of_e rules_of_e
  listed_E = simp (fields_cons, none_listed)

  pub in_order_E : never_falls (field_edits a text fields_of_e rules_of_e) ≡ true
  unfolding fields_of_e rules_of_e
  in_order_E = simp (fields_cons, none_listed)

  pub listed_S : numbers_of (field_edits a text fields_of_s rules_of_s) ≡ numbers_of_s
  unfolding fields_of_s rules_of_s
  listed_S = simp (fields_cons, none_listed)

  pub in_order_S : never_falls (field_edits a text fields_of_s rules_of_s) ≡ true
  unfolding fields_of_s rules_of_s
  in_order_S = simp (fields_cons, none_listed)

  pub listed_T : numbers_of (field_edits a text fields_of_t rules_of_t) ≡ numbers_of_t
  unfolding fields_of_t rules_of_t
  listed_T = simp (fields_cons, none_listed)

  pub in_order_T : never_falls (field_edits a text fields_of_t rules_of_t) ≡ true
  unfolding fields_of_t rules_of_t
  in_order_T = simp (fields_cons, none_listed)

  pub listed_F : numbers_of (field_edits a text fields_of_f rules_of_f) ≡ numbers_of_f
  unfolding fields_of_f rules_of_f
  listed_F = simp (fields_cons, none_listed)

  pub in_order_F : never_falls (field_edits a text fields_of_f rules_of_f) ≡ true
  unfolding fields_of_f rules_of_f
  in_order_F = simp (fields_cons, none_listed)

-- The same of a whole line, by the record on it.
listed_fields : (a : Around) (text : List ℕ) (kind : Kind) → numbers_of (field_edits a text (rows_for kind) (rules_for kind)) ≡ numbers_for kind
listed_fields a text Transmitter = listed_A a text
listed_fields a text Employer = listed_E a text
listed_fields a text Employee = listed_S a text
listed_fields a text Total = listed_T a text
listed_fields a text Final = listed_F a text
listed_fields a text Unknown = ap numbers_of (none_listed a text [])

pub listed_text : (here : Context) (seen : Seen) (text : List ℕ) (kind : Kind) → numbers_of (text_edits here seen text kind) ≡ numbers_of_text kind
listed_text here seen text kind =
    let fields = field_edits (around here seen kind) text (rows_for kind) (rules_for kind) in
    map-append (λ (edit : Edit). edit.number) (head_edits here text kind) fields
    ∙ ap (λ (numbers : List ℕ). numbers_of_head ++ numbers) (listed_fields (around here seen kind) text kind)

pub listed_line : (here : Context) (seen : Seen) (line : Line)
    → numbers_of (line_edits_by pfml_shape here seen line) ≡ numbers_of_line (kind_on (capitals line.text))
listed_line here seen line =
    ap (λ (numbers : List ℕ). 1 ∷ 2 ∷ numbers) (listed_text here seen (capitals line.text) (kind_on (capitals line.text)))
