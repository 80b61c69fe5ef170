-- Laws: two texts that are the same but in ignored columns, with permitted characters there, have the same edits and say the same.
use Rattle.std.specs.Prelude.{ℕ, ◌≤◌, true, false, List, [], ◌++◌, ◌⊎◌, ◌≡◌, T}
use Rattle.std.proofs.lemmas.Bool.{false≢true}
use Rattle.std.proofs.Common.{inl, inr, sym, ap, ◌∙◌}
use Rattle.std.proofs.Math.Path.{refl}
use Rattle.laws.specs.Spelling.{bytes}
use Rattle.laws.specs.Table.{every}
use Rattle.number.specs.LetterLaws.{letters_alike}
use Rattle.number.specs.NumberLaws.{value_alike}
use Rattle.edits.specs.Edit.{Edit}
use Rattle.edits.specs.Looks.{holds_from, row_held}
use Rattle.edits.specs.LooksLaws.{SameIn, agree, rows_alike}
use Rattle.edits.specs.RowTests.{tiles, ignored_in}
use Rattle.edits.specs.RowTestLaws.{ignored_within}
use Rattle.edits.specs.declared.Context.{Context}
use Rattle.edits.specs.declared.Seen.{Seen}
use Rattle.shape.specs.Twins.{Alike, Permits}
use Rattle.shape.specs.TwinLaws.{shown_by, shown_same, permitted_alike}
use Rattle.wham_fields.specs.Fields.{fields_of_a, fields_of_e, fields_of_s, fields_of_r, fields_of_t, fields_of_f}
use Rattle.wham_fields.specs.FieldRules.{rules_of_a, rules_of_e, rules_of_s, rules_of_r, rules_of_t, rules_of_f}
use Rattle.wham_fields.specs.declared.Edition.{Edition}
use Rattle.wham_fields.specs.declared.Edition.TheVariants.{Of2024}
use Rattle.wham.specs.Edits.{rows_for, rules_for, around, head_edits, text_edits, edits_on}
use Rattle.wham.specs.Ignored.{ignores}
use Rattle.wham.specs.Kinds.{kind_of, kind_on, landmarks_of}
use Rattle.wham.specs.Says.{said_by, says}
use Rattle.wham.specs.declared.kind.Kind.{Kind}
use Rattle.wham.specs.declared.kind.Kind.TheVariants.{Transmitter, Employer, Employee, Deposit, Total, Final, Unknown}
use Rattle.field.specs.declared.class.Field.{Field}
use Rattle.edits.specs.FieldRow.{no_row}

-- No edit of a field looks at an ignored column, by one computed test for each record.
looks_elsewhere : (edition : Edition) (kind : Kind)
    → T (every (row_held (shown_by (ignores kind)) (landmarks_of kind) (bytes "WHAM") (rules_for edition kind)) no_row 0 (rows_for kind))
unfolding ignored_in holds_from bytes fields_of_a rules_of_a fields_of_e rules_of_e fields_of_s rules_of_s fields_of_r rules_of_r fields_of_t rules_of_t fields_of_f rules_of_f
looks_elsewhere Of2024 Transmitter = tt
looks_elsewhere Of2024 Employer = tt
looks_elsewhere Of2024 Employee = tt
looks_elsewhere Of2024 Deposit = tt
looks_elsewhere Of2024 Total = tt
looks_elsewhere Of2024 Final = tt
looks_elsewhere Of2024 Unknown = tt

module _ (u v : List ℕ) where
  -- Nor does what a record says stand in one.
  says_same : (kind : Kind) → SameIn (shown_by (ignores kind)) u v → said_by kind u ≡ said_by kind v
  unfolding ignored_in holds_from fields_of_a fields_of_e fields_of_s
  says_same Transmitter same = rw (value_alike u v 2 5 (agree (shown_by (ignores Transmitter)) u v same 2 5 refl))
  says_same Employer same =
      let here = agree (shown_by (ignores Employer)) u v same in
      rw (
        value_alike u v 6 14 (here 6 14 refl),
        value_alike u v 190 190 (here 190 190 refl),
        letters_alike u v 258 263 (here 258 263 refl),
        letters_alike u v 264 268 (here 264 268 refl),
        value_alike u v 2 5 (here 2 5 refl),
        value_alike u v 188 189 (here 188 189 refl),
      )
  says_same Employee same =
      let here = agree (shown_by (ignores Employee)) u v same in
      rw (value_alike u v 203 214 (here 203 214 refl), value_alike u v 191 202 (here 191 202 refl))
  says_same Deposit same = refl
  says_same Total same = refl
  says_same Final same = refl
  says_same Unknown same = refl

  module _ (kind : Kind) (alike : Alike (ignores kind) u v) (ours : Permits (ignores kind) u) (theirs : Permits (ignores kind) v) where
    text_same : (edition : Edition) (here : Context) (seen : Seen) → text_edits edition here seen u kind ≡ text_edits edition here seen v kind
    text_same edition here seen =
        rw (permitted_alike (ignores kind) u v alike ours theirs 275)
        (ap (λ (fields : List Edit). head_edits edition here v kind ++ fields)
        (rows_alike (shown_by (ignores kind)) u v (shown_same (ignores kind) u v alike) (around here seen kind) (rows_for kind) (rules_for edition kind)
        (looks_elsewhere edition kind)))

-- The letter is not ignored.
letter_shown : (kind : Kind) → ignores kind 1 ≡ false
unfolding ignored_in fields_of_a fields_of_e fields_of_s fields_of_r fields_of_t fields_of_f
letter_shown Transmitter = refl
letter_shown Employer = refl
letter_shown Employee = refl
letter_shown Deposit = refl
letter_shown Total = refl
letter_shown Final = refl
letter_shown Unknown = refl

pub letter_told : (u v : List ℕ) → Alike (ignores (kind_on u)) u v → kind_on u ≡ kind_on v
letter_told u v alike = ap kind_of (alike 0 (letter_shown (kind_on u)))

-- The ignored columns are columns of the line.
records_tile : (kind : Kind) → (tiles 275 1 (rows_for kind) ≡ true) ⊎ (rows_for kind ≡ [])
unfolding tiles fields_of_a fields_of_e fields_of_s fields_of_r fields_of_t fields_of_f
records_tile Transmitter = inl refl
records_tile Employer = inl refl
records_tile Employee = inl refl
records_tile Deposit = inl refl
records_tile Total = inl refl
records_tile Final = inl refl
records_tile Unknown = inr refl

none_ignored : (column : ℕ) → ignored_in [] column ≡ false
unfolding ignored_in
none_ignored column = refl

pub ignored_in_text : (kind : Kind) (column : ℕ) → ignores kind column ≡ true → column ≤ 275
ignored_in_text kind column e = elim (records_tile kind) [
  | inl tile ↦ ignored_within 275 1 (rows_for kind) column tile e
  | inr none ↦ absurd (false≢true (sym (ap (λ (rows : List Field). ignored_in rows column) none ∙ none_ignored column) ∙ e))
]

pub ignored_alike : (u v : List ℕ) → Alike (ignores (kind_on u)) u v → Permits (ignores (kind_on u)) u → Permits (ignores (kind_on u)) v
    → (says u ≡ says v) × ((edition : Edition) (here : Context) (seen : Seen) → edits_on edition here seen u ≡ edits_on edition here seen v)
ignored_alike u v alike ours theirs =
    let kind = kind_on u in
    let told = letter_told u v alike in (
      says_same u v kind (shown_same (ignores kind) u v alike) ∙ ap (λ (k : Kind). said_by k v) told,
      λ edition here seen. text_same u v kind alike ours theirs edition here seen ∙ ap (λ (k : Kind). text_edits edition here seen v k) told,
    )
