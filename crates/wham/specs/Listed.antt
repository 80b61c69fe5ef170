-- Laws: no edit is missing: the numbers of each record's edits are, in order, exactly those of the table in ListedNumbers, and their first columns
-- never fall. (These are the edits' labels; that what an edit finds is told by its label is `text_labelled`.)
use Rattle.std.specs.Prelude.{ℕ, true, List, [], ◌∷◌, ◌++◌, ◌≡◌, refl}
use Rattle.std.proofs.lemmas.List.{map-append}
use Rattle.std.proofs.Math.Path.{ap}
use Rattle.std.proofs.Common.{◌∙◌}
use Rattle.lines.specs.Lines.{Line}
use Rattle.chars.specs.Characters.{capitals}
use Rattle.wham_fields.specs.Fields.{fields_of_a, fields_of_e, fields_of_s, fields_of_r, fields_of_t, fields_of_f}
use Rattle.wham_fields.specs.FieldRules.{rules_of_a, rules_of_e, rules_of_s, rules_of_r, rules_of_t, rules_of_f}
use Rattle.wham_fields.specs.declared.Edition.{Edition}
use Rattle.wham_fields.specs.declared.Edition.TheVariants.{Of2024}
use Rattle.edits.specs.Edit.{Edit}
use Rattle.edits.specs.Numbering.{numbers_of, never_falls}
use Rattle.edits.specs.declared.Around.{Around}
use Rattle.edits.specs.FieldEdits.{field_edits}
use Rattle.edits.specs.FieldEditLaws.{none_listed, fields_cons}
use Rattle.edits.specs.declared.Context.{Context}
use Rattle.edits.specs.declared.Seen.{Seen}
use Rattle.shape.specs.Shape.{line_edits_by}
use Rattle.wham.specs.Kinds.{kind_on}
use Rattle.wham.specs.ListedNumbers.{numbers_for, numbers_of_head, numbers_of_text, numbers_of_line}
use Rattle.wham.specs.Edits.{rows_for, rules_for, around, head_edits, text_edits}
use Rattle.wham.specs.Format.{wham_shape}
use Rattle.wham.specs.declared.kind.Kind.{Kind}
use Rattle.wham.specs.declared.kind.Kind.TheVariants.{Transmitter, Employer, Employee, Deposit, Total, Final, Unknown}

pub listed_head : (edition : Edition) (here : Context) (text : List ℕ) (kind : Kind) → numbers_of (head_edits edition here text kind) ≡ numbers_of_head
listed_head edition here text kind = refl

module _ (a : Around) (text : List ℕ) where
  pub listed_fields : (edition : Edition) (kind : Kind) → numbers_of (field_edits a text (rows_for kind) (rules_for edition kind)) ≡ numbers_for edition kind
  unfolding fields_of_a rules_of_a fields_of_e rules_of_e fields_of_s rules_of_s fields_of_r rules_of_r fields_of_t rules_of_t fields_of_f rules_of_f
  listed_fields Of2024 Transmitter = simp (fields_cons, none_listed)
  listed_fields Of2024 Employer = simp (fields_cons, none_listed)
  listed_fields Of2024 Employee = simp (fields_cons, none_listed)
  listed_fields Of2024 Deposit = simp (fields_cons, none_listed)
  listed_fields Of2024 Total = simp (fields_cons, none_listed)
  listed_fields Of2024 Final = simp (fields_cons, none_listed)
  listed_fields Of2024 Unknown = ap numbers_of (none_listed a text [])

  pub in_order : (edition : Edition) (kind : Kind) → never_falls (field_edits a text (rows_for kind) (rules_for edition kind)) ≡ true
  unfolding fields_of_a rules_of_a fields_of_e rules_of_e fields_of_s rules_of_s fields_of_r rules_of_r fields_of_t rules_of_t fields_of_f rules_of_f
  in_order Of2024 Transmitter = simp (fields_cons, none_listed)
  in_order Of2024 Employer = simp (fields_cons, none_listed)
  in_order Of2024 Employee = simp (fields_cons, none_listed)
  in_order Of2024 Deposit = simp (fields_cons, none_listed)
  in_order Of2024 Total = simp (fields_cons, none_listed)
  in_order Of2024 Final = simp (fields_cons, none_listed)
  in_order Of2024 Unknown = ap never_falls (none_listed a text [])

-- The same of a whole text and of a line, by the record on it.
pub listed_text : (edition : Edition) (here : Context) (seen : Seen) (text : List ℕ) (kind : Kind)
    → numbers_of (text_edits edition here seen text kind) ≡ numbers_of_text edition kind
listed_text edition here seen text kind =
    let fields = field_edits (around here seen kind) text (rows_for kind) (rules_for edition kind) in
    map-append (λ (edit : Edit). edit.number) (head_edits edition here text kind) fields
    ∙ ap (λ (numbers : List ℕ). numbers_of_head ++ numbers) (listed_fields (around here seen kind) text edition kind)

pub listed_line : (edition : Edition) (here : Context) (seen : Seen) (line : Line)
    → numbers_of (line_edits_by (wham_shape edition) here seen line) ≡ numbers_of_line edition (kind_on (capitals line.text))
listed_line edition here seen line =
    ap (λ (numbers : List ℕ). 1 ∷ 2 ∷ numbers) (listed_text edition here seen (capitals line.text) (kind_on (capitals line.text)))
