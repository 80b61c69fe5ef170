-- Laws: account_read_back, no_account_reads: the account number that a record was built with is read back; "An empty account number gives ten blanks."
use Rattle.std.specs.Prelude.{ℕ, zero, suc, ◌+◌, ◌-◌, ◌<◌, ◌≤◌, Bool, true, false, List, [], ◌∷◌, map, ◌≡◌, refl, eqb, ltb, length, get_or, take, drop, if◌then◌else◌}
use Rattle.std.proofs.Common.{sym, ap, ◌∙◌, not-suc-le-zero, le_of_suc-le-suc, arith, length-drop, length-take-le, get_or-take, get_or-drop, ext_get_or, ne_eqb, ltb-true, ltb-false}
use Rattle.std.proofs.lemmas.List.{length-replicate, get_or-replicate}
use Rattle.laws.specs.Finding.{Reading, value, refused}
use Rattle.chars.specs.Characters.{is_digit}
use Rattle.chars.specs.CharacterLaws.{digit_range}
use Rattle.chars.specs.Columns.{width_of}
use Rattle.number.specs.Numbers.{number_in}
use Rattle.number.specs.NumberLaws.{wide_width, good_width, number_bad}
use Rattle.text.specs.Put.{blanks}
use Rattle.text.specs.Text.{all_blank}
use Rattle.field.specs.declared.class.Class.TheVariants.{AccountNumber}
use Rattle.edits.specs.FieldRow.{row, first_in, last_in, no_row}
use Rattle.pfml_fields.specs.Rows.{fields_of_E, account_number_of_E}
use Rattle.pfml.specs.Edits.{rows_for}
use Rattle.pfml.specs.Kinds.{kind_of, is_known}
use Rattle.pfml.specs.Letters.{kind_of_E}
use Rattle.pfml.specs.declared.kind.Kind.{Kind}
use Rattle.write.specs.Records.{record_of}
use Rattle.build.specs.Building.{part_of, building}
use Rattle.build.specs.FillLaws.{padded_is}
use Rattle.build.specs.StandLaws.{Stands, each_at, record_stands, blank_columns, none_read}
use Rattle.build.specs.BuiltTextLaws.{only_blanks}
use Rattle.build.specs.Theorems.{amount_only, known_letters, built_slice, built_passes, field_read_back}
use Rattle.build.specs.BuiltRecords.{Built}
use Rattle.build.specs.Values.{amount, none, no_account, form_of, Filled, form_in, fill_rows, fill_record, trimmed, text_in, amount_in, read_by, as_read}
use Rattle.build.specs.declared.form.Form.{Form}
use Rattle.build.specs.declared.form.Form.TheVariants.{Account}
use Rattle.field.specs.declared.class.Field.{Field}

-- ---- the value
-- An account number's value is told by its entry alone.
account_given : (letter : ℕ) (rows : List Field) (values texts : List ℕ) (k : ℕ) → k < length rows → form_in (get_or rows k no_row) ≡ Account
    → get_or (map (λ (field : Filled). field.value) (fill_rows letter rows values texts)) k none
    ≡ (if eqb (get_or values k 0) no_account then none else amount (get_or values k 0))
unfolding fill_rows
account_given letter [] values texts k h is = absurd (not-suc-le-zero h)
account_given letter (head ∷ rows) values texts zero h is = rw is
account_given letter (head ∷ rows) values texts (suc k) h is =
    let place : 1 + k ≡ suc k = omega arith in
    account_given letter rows (drop 1 values) _ k (le_of_suc-le-suc h) is
    ∙ ap (λ (entry : ℕ). if eqb entry no_account then none else amount entry) (rw place at (get_or-drop 1 values k 0))

-- A field that may be left out, and reads as a number, holds it.
only_amount : (blank : Bool) (r : Reading) (v : ℕ) → (if blank then none else amount_in r) ≡ amount v → r ≡ value v
only_amount true r v e = let z : ◌≡◌ {A = ℕ} 0 1 = cc in absurd (omega arith)
only_amount false r v e = amount_only r v e

-- ---- a field of blanks
blank_no_digit : is_digit 0x20 ≡ false
blank_no_digit = by (is_digit 0x20) refl where
  by : (digit : Bool) → is_digit 0x20 ≡ digit → digit ≡ false
  by true e = absurd (omega (arith, (digit_range 0x20 e).0))
  by false e = refl

module _ (line : List ℕ) (first last : ℕ) (from_one : 1 ≤ first) (in_order : first ≤ last) (blank : all_blank line first last ≡ true) where
  -- Its columns are blanks,
  blanks_there : last ≤ length line → take (width_of first last) (drop (first - 1) line) ≡ blanks (width_of first last)
  blanks_there inside =
      let width = width_of first last in
      let columns = take width (drop (first - 1) line) in
      let is_wide : length columns ≡ width = length-take-le width (drop (first - 1) line) (rw length-drop (omega arith)) in
      ext_get_or 0 columns (blanks width) (is_wide ∙ sym (length-replicate {A = ℕ} width 0x20))
      (λ k h. get_or-take width (drop (first - 1) line) k 0 (omega arith)
      ∙ get_or-drop (first - 1) line k 0
      ∙ blank_columns line first last blank (first - 1 + k) (omega arith) (omega arith)
      ∙ sym (get_or-replicate {A = ℕ} width k 0x20 0 (omega arith)))

  -- and it is no number.
  no_number : number_in line first last ≡ refused first 30
  no_number = by (ltb 19 (width_of first last)) refl where
    by : (wide : Bool) → ltb 19 (width_of first last) ≡ wide → number_in line first last ≡ refused first 30
    by true e = wide_width line first last (ltb-true 19 (width_of first last) e)
    by false e =
        let column : first - 1 + 1 ≡ first = omega arith in
        let empty = blank_columns line first last blank (first - 1) (omega arith) (omega arith) in
        good_width line first last (omega arith) (omega (arith, ltb-false 19 (width_of first last) e))
        ∙ number_bad line 0 (first - 1) last 0x20 (sym empty) (omega arith) blank_no_digit
        ∙ ap (λ (c : ℕ). refused c 30) column

-- ---- any record
module _ (letter : ℕ) (values texts out : List ℕ) (known : is_known (kind_of letter) ≡ true) (built : Built letter values texts out)
    (k : ℕ) (has_row : k < length (rows_for (kind_of letter))) (is : form_in (get_or (rows_for (kind_of letter)) k no_row) ≡ Account) where
  abbrev slice : List ℕ
  slice = (building letter values texts out).out

  abbrev first : ℕ
  first = first_in (get_or (rows_for (kind_of letter)) k no_row)

  abbrev last : ℕ
  last = last_in (get_or (rows_for (kind_of letter)) k no_row)

  -- One that is given is read as the number that was given.
  pub account_read_back : (v : ℕ) → get_or values k 0 ≡ v → (v ≡ no_account → ⊥) → number_in slice first last ≡ value v
  account_read_back v entry given =
      let is_amount_lem : get_or (map (λ (field : Filled). field.value) (fill_record letter values texts)) k none ≡ amount v =
      account_given letter (rows_for (kind_of letter)) values texts k has_row is ∙ rw (entry, ne_eqb v no_account given) in
      only_amount (all_blank slice first last) (number_in slice first last) v
      (ap (λ (form : Form). read_by form slice first last) (sym is) ∙ field_read_back letter values texts out known built k has_row ∙ ap as_read is_amount_lem)

  -- One that is left out: its columns are blanks, it is a text of no characters, and no number.
  pub no_account_reads : get_or values k 0 ≡ no_account
      → (take (width_of first last) (drop (first - 1) slice) ≡ blanks (width_of first last)) × (text_in slice first last ≡ []) × (number_in slice first last ≡ refused first 30)
  no_account_reads entry =
      let final = record_of (map part_of (fill_record letter values texts)) in
      let is_none : get_or (map (λ (field : Filled). field.value) (fill_record letter values texts)) k none ≡ none =
      account_given letter (rows_for (kind_of letter)) values texts k has_row is ∙ rw entry in
      let all = record_stands letter values texts known in
      let stands : Stands first last none final = rw is_none at
      (each_at (λ (field : Filled). Stands field.first field.last field.value final) letter (rows_for (kind_of letter)) values texts all k has_row) in
      let blank : all_blank slice first last ≡ true = rw (built_slice letter values texts out built, padded_is (fill_record letter values texts)) (none_read first last final stands) in
      let long = (built_passes letter values texts out known built).0 in
      let empty = blanks_there slice first last stands.from_one stands.in_order blank (omega (arith, stands.to_end)) in
      (empty, ap trimmed empty ∙ only_blanks (width_of first last), no_number slice first last stands.from_one stands.in_order blank)

-- ---- E: its field 14, columns 173 to 182, is the account number
pub account_row : get_or (rows_for (kind_of 69)) 14 no_row ≡ row AccountNumber 173 182
account_row = ap (λ (kind : Kind). get_or (rows_for kind) 14 no_row) kind_of_E ∙ account_number_of_E

pub account_in_E : 14 < length (rows_for (kind_of 69))
account_in_E = rw (kind_of_E, fields_of_E) (omega arith)

pub account_form : form_in (get_or (rows_for (kind_of 69)) 14 no_row) ≡ Account
account_form = ap form_in account_row

module _ (values texts out : List ℕ) (built : Built 69 values texts out) where
  -- "numbers, given and read as numbers"
  pub account_of_E : (v : ℕ) → get_or values 14 0 ≡ v → (v ≡ no_account → ⊥) → number_in (building 69 values texts out).out 173 182 ≡ value v
  account_of_E v entry given =
      rw account_row at (account_read_back 69 values texts out known_letters.1 built 14 account_in_E account_form v entry given)

  -- "An empty account number gives ten blanks."
  pub no_account_of_E : get_or values 14 0 ≡ no_account
      → (take 10 (drop 172 (building 69 values texts out).out) ≡ blanks 10)
      × (text_in (building 69 values texts out).out 173 182 ≡ [])
      × (number_in (building 69 values texts out).out 173 182 ≡ refused 173 30)
  no_account_of_E entry =
      rw account_row at (no_account_reads 69 values texts out known_letters.1 built 14 account_in_E account_form entry)
