-- Laws: a record whose columns lie between those of the two: what it reads as, field by field.
use Prim.Native.Nat.{ℕ, zero, suc, ◌+◌, ◌-◌, ◌≤◌, ◌<◌}
use Rattle.std.specs.Prelude.{true, List, ◌≡◌, eqb, take}
use Rattle.std.proofs.Common.{inl, inr, sym, ap, ◌∙◌, arith, eqb-true, eq-eqb, ne_eqb, get_or-take}
use Rattle.std.proofs.Math.ListN.{length, get_or}
use Rattle.laws.specs.Finding.{fine, value}
use Rattle.laws.specs.Spelling.{bytes}
use Rattle.calendar.specs.declared.Quarter.{Quarter}
use Rattle.chars.specs.Agree.{column_alike}
use Rattle.chars.specs.Characters.{capital_of, capitals}
use Rattle.chars.specs.CharacterLaws.{capital_at, capital_below, capital_is}
use Rattle.chars.specs.Columns.{width_of, every_column, allowed_test}
use Rattle.chars.specs.ColumnLaws.{fine_columns, columns_fine, column_blank, column_permitted, names_permitted}
use Rattle.chars.specs.declared.columns.Allowed.TheVariants.{Permitted, Blanks, OfNames}
use Rattle.number.specs.NumberLaws.{good_width, number_in_front, number_capitals}
use Rattle.number.specs.Numbers.{number_in}
use Rattle.text.specs.Text.{has_pattern}
use Rattle.text.specs.TextLaws.{Fixed, columns_pattern}
use Rattle.pfml.specs.Kinds.{kind_on, kind_of}
use Rattle.pfml.specs.Letters.{kind_of_S}
use Rattle.pfml.specs.declared.kind.Kind.TheVariants.{Employee}
use Rattle.plain.specs.Plain.{fits, digits_from}
use Rattle.plain.specs.Sweeps.{side, digits_read}
use Rattle.plain.specs.Templates.{Span, Between, in_span, letter_span, all_span, large_spans, code_spans}

-- A character of ! to z is no blank, in capitals too.
capital_ink : (c : ℕ) → 33 ≤ c → c ≤ 122 → capital_of c ≡ 0x20 → ⊥
capital_ink c low high e =
    elim (side 97 c) [
      | inl below ↦ omega (arith, capital_below c below)
      | inr small ↦
          let letter : eqb (capital_of c) (c - 32) ≡ true = capital_is c (c - 32) (omega arith) (omega arith) ∙ rw (ne_eqb c (c - 32) (λ s. omega arith), eq-eqb c (c - 32 + 32) (omega arith)) in
          omega (arith, eqb-true (capital_of c) (c - 32) letter)
    ]

-- The characters of the code stand for themselves.
code_fixed : Fixed (bytes "PFML")
unfolding bytes
code_fixed zero h = omega arith
code_fixed (suc zero) h = omega arith
code_fixed (suc (suc zero)) h = omega arith
code_fixed (suc (suc (suc zero))) h = omega arith
code_fixed (suc (suc (suc (suc k)))) h = absurd (omega arith)

-- The first 290 characters, as they are read.
abbrev pub text_on : List ℕ → List ℕ
text_on s = capitals (take 290 s)

module _ (fein : ℕ) (filed : Quarter) (fit : fits fein filed ≡ true) (s : List ℕ) (between : Between fein filed s) where
  -- ---- characters
  read_at : (k : ℕ) → k < 290 → get_or (text_on s) k 0 ≡ capital_of (get_or s k 0)
  read_at k h = capital_at (take 290 s) k ∙ ap capital_of (get_or-take 290 s k 0 h)

  -- Where no small letter may stand, a character is read as it stands.
  read_span : (low high first last : ℕ) → last ≤ 290 → high < 97 → Span low high first last → (k : ℕ) → first - 1 ≤ k → k < last
      → (low ≤ get_or (text_on s) k 0) × (get_or (text_on s) k 0 ≤ high)
  read_span low high first last inside large spans k from to =
      let c = in_span fein filed fit s between low high first last inside spans k from to in
      let same = read_at k (omega arith) ∙ capital_below (get_or s k 0) (omega arith) in
      (omega arith, omega arith)

  pub no_end : (k : ℕ) → k < 290 → 13 < get_or s k 0
  no_end k h = omega (arith, in_span fein filed fit s between 32 122 1 290 (omega arith) all_span k (omega arith) h)

  pub ink : (first : ℕ) → 1 ≤ first → first ≤ 290 → Span 33 122 first first → get_or (text_on s) (first - 1) 0 ≡ 0x20 → ⊥
  ink first some inside spans blank =
      let c = in_span fein filed fit s between 33 122 first first inside spans (first - 1) (omega arith) (omega arith) in
      capital_ink (get_or s (first - 1) 0) c.0 c.1 (sym (read_at (first - 1) (omega arith)) ∙ blank)

  -- ---- fields
  pub is_employee_lem : kind_on (text_on s) ≡ Employee
  is_employee_lem =
      let c = read_span 83 83 1 1 (omega arith) (omega arith) letter_span 0 (omega arith) (omega arith) in
      let letter : get_or (text_on s) 0 0 ≡ 83 = omega arith in
      ap kind_of letter ∙ kind_of_S

  pub blank_field : (first last : ℕ) → last ≤ 290 → Span 32 32 first last → every_column Blanks (text_on s) first last ≡ fine
  blank_field first last inside spans =
      columns_fine Blanks (text_on s) first last
      (λ k low high. column_blank (text_on s) k (omega (arith, read_span 32 32 first last inside (omega arith) spans k low high)))

  pub code_field : has_pattern (text_on s) 143 (bytes "PFML") ≡ true
  unfolding bytes
  code_field = columns_pattern (text_on s) 143 (bytes "PFML") code_fixed letters where
    letters : (k : ℕ) → k < length (bytes "PFML") → get_or (text_on s) (143 - 1 + k) 0 ≡ get_or (bytes "PFML") k 0
    letters zero h = omega (arith, read_span 80 80 143 143 (omega arith) (omega arith) code_spans.0 142 (omega arith) (omega arith))
    letters (suc zero) h = omega (arith, read_span 70 70 144 144 (omega arith) (omega arith) code_spans.1 143 (omega arith) (omega arith))
    letters (suc (suc zero)) h = omega (arith, read_span 77 77 145 145 (omega arith) (omega arith) code_spans.2 144 (omega arith) (omega arith))
    letters (suc (suc (suc zero))) h = omega (arith, read_span 76 76 146 146 (omega arith) (omega arith) code_spans.3 145 (omega arith) (omega arith))
    letters (suc (suc (suc (suc k)))) h = absurd (omega arith)

  -- A number is read as it stands,
  pub number_read : (first last v : ℕ) → last ≤ 290 → number_in s first last ≡ value v → number_in (text_on s) first last ≡ value v
  number_read first last v inside reads = number_capitals (take 290 s) first last ∙ number_in_front 290 s first last inside ∙ reads

  -- and columns of digits are one.
  pub digits_number : (first last : ℕ) → first - 1 < last → width_of first last ≤ 19 → last ≤ 290 → Span 48 57 first last
      → number_in s first last ≡ value (digits_from s 0 (first - 1) (width_of first last))
  digits_number first last some wide inside spans =
      good_width s first last some wide
      ∙ digits_read (width_of first last) s 0 (first - 1) (λ k low high. in_span fein filed fit s between 48 57 first last inside spans k low (omega arith))

  -- ---- names, and all characters
  module _ (names : every_column OfNames (capitals s) 11 42 ≡ fine) where
    name_at : (k : ℕ) → 10 ≤ k → k < 42 → allowed_test OfNames (text_on s) k ≡ fine
    name_at k low high =
        let same : get_or (text_on s) k 0 ≡ get_or (capitals s) k 0 = read_at k (omega arith) ∙ sym (capital_at s k) in
        column_alike OfNames (text_on s) (capitals s) k same ∙ fine_columns OfNames (capitals s) 11 42 names k low high

    pub name_field : (first last : ℕ) → 11 ≤ first → last ≤ 42 → every_column OfNames (text_on s) first last ≡ fine
    name_field first last from to = columns_fine OfNames (text_on s) first last (λ k low high. name_at k (omega arith) (omega arith))

    pub all_permitted : every_column Permitted (text_on s) 1 290 ≡ fine
    all_permitted =
        columns_fine Permitted (text_on s) 1 290
        (λ k low high. elim (side 10 k) [
          | inl before ↦
              let c = read_span 32 96 1 10 (omega arith) (omega arith) large_spans.0 k low before in
              column_permitted (text_on s) k c.0 (omega arith)
          | inr from ↦ elim (side 42 k) [
            | inl name ↦ names_permitted (text_on s) k (name_at k from name)
            | inr behind ↦
                let c = read_span 32 96 43 290 (omega arith) (omega arith) large_spans.1 k behind high in
                column_permitted (text_on s) k c.0 (omega arith)
          ]
        ])
