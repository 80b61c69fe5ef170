-- Laws: number_told, text_told, account_told, no_account_told: what the exports that read a field say of a record that they built.
use Rattle.std.specs.Prelude.{ℕ, ◌<◌, true, List, map, ◌≡◌, length, get_or}
use Rattle.std.proofs.Common.{sym, ap, ◌∙◌}
use Rattle.laws.specs.Finding.{value, refused}
use Rattle.chars.specs.CharacterLaws.{capitals_again}
use Rattle.chars.specs.Characters.{capitals}
use Rattle.number.specs.Numbers.{number_in}
use Rattle.field.specs.declared.class.Field.{Field}
use Rattle.edits.specs.FieldRow.{first_in, last_in}
use Rattle.pfml.specs.Edits.{rows_for}
use Rattle.pfml.specs.Kinds.{kind_of, is_known}
use Rattle.write.specs.Records.{record_of}
use Rattle.build.specs.Account.{account_read_back, no_account_reads, account_row, account_in_E, account_form}
use Rattle.build.specs.Building.{part_of}
use Rattle.build.specs.FillLaws.{padded_is}
use Rattle.build.specs.Theorems.{known_letters, built_slice, field_read_back, number_read_back}
use Rattle.build.specs.BuiltRecords.{Built}
use Rattle.build.specs.Values.{Value, amount, none, words, no_account, Filled, fill_record, form_in, trimmed, text_in, read_by, as_read}
use Rattle.build.specs.declared.form.Form.{Form}
use Rattle.build.specs.declared.form.Form.TheVariants.{Amount, Account, Words}
use Rattle.wage.specs.Exports.{filled_built, field_row, field_first, field_reading, field_length}

same_words : (a b : List ℕ) → words a ≡ words b → a ≡ b
same_words a b e = cc

module _ (letter : ℕ) (values texts out answer : List ℕ) (known : is_known (kind_of letter) ≡ true) (built : Built letter values texts out) where
  -- The slice that the caller has then, and the value that was given for field k.
  abbrev pub slice : List ℕ
  slice = (filled_built letter values texts out answer).out

  abbrev pub value_at : ℕ → Value
  value_at k = get_or (map (λ (field : Filled). field.value) (fill_record letter values texts)) k none

  -- It is read in capitals, and has no other letters.
  in_capitals : capitals slice ≡ slice
  in_capitals =
      let is : slice ≡ capitals (record_of (map part_of (fill_record letter values texts))) =
      built_slice letter values texts out built ∙ padded_is (fill_record letter values texts) in
      ap capitals is ∙ capitals_again (record_of (map part_of (fill_record letter values texts))) ∙ sym is

  module _ (k : ℕ) (has_row : k < length (rows_for (kind_of letter))) where
    -- What is read in capitals is what stands there.
    number_there : field_reading letter k slice ≡ number_in slice (first_in (field_row letter k)) (last_in (field_row letter k))
    number_there = ap (λ (line : List ℕ). number_in line (first_in (field_row letter k)) (last_in (field_row letter k))) in_capitals

    text_there : text_in (capitals slice) (first_in (field_row letter k)) (last_in (field_row letter k)) ≡ text_in slice (first_in (field_row letter k)) (last_in (field_row letter k))
    text_there = ap (λ (line : List ℕ). text_in line (first_in (field_row letter k)) (last_in (field_row letter k))) in_capitals

    -- "numbers, given and read as numbers"
    pub number_told : form_in (field_row letter k) ≡ Amount → (v : ℕ) → value_at k ≡ amount v → field_reading letter k slice ≡ value v
    number_told is v gives = number_there ∙ number_read_back letter values texts out known built k has_row is v gives

    -- "with capitals for small letters and without trailing blanks": its characters, and how many they are
    pub text_told : form_in (field_row letter k) ≡ Words → (text : List ℕ) → value_at k ≡ words text
        → (text_in (capitals slice) (first_in (field_row letter k)) (last_in (field_row letter k)) ≡ trimmed (capitals text))
        × (field_length letter k slice ≡ length (trimmed (capitals text)))
    text_told is text gives =
        let first = first_in (field_row letter k) in
        let last = last_in (field_row letter k) in
        let same : text_in slice first last ≡ trimmed (capitals text) =
        same_words _ _ (ap (λ (form : Form). read_by form slice first last) (sym is) ∙ field_read_back letter values texts out known built k has_row ∙ ap as_read gives) in
        let told : text_in (capitals slice) first last ≡ trimmed (capitals text) = text_there ∙ same in
        (told, ap length told)

    -- An account number that was given is told as the number.
    pub account_told : form_in (field_row letter k) ≡ Account → (v : ℕ) → get_or values k 0 ≡ v → (v ≡ no_account → ⊥) → field_reading letter k slice ≡ value v
    account_told is v entry given = number_there ∙ account_read_back letter values texts out known built k has_row is v entry given

    -- One that was left out has a text of no characters, and is no number.
    pub no_account_told : form_in (field_row letter k) ≡ Account → get_or values k 0 ≡ no_account
        → (field_length letter k slice ≡ 0) × (field_reading letter k slice ≡ refused (field_first letter k) 30)
    no_account_told is entry =
        let reads = no_account_reads letter values texts out known built k has_row is entry in
        (ap length (text_there ∙ reads.1), number_there ∙ reads.2)

-- The account number of E is field 14, columns 173 to 182.
module _ (values texts out answer : List ℕ) (built : Built 69 values texts out) where
  pub account_of_E_told : (v : ℕ) → get_or values 14 0 ≡ v → (v ≡ no_account → ⊥) → field_reading 69 14 (filled_built 69 values texts out answer).out ≡ value v
  account_of_E_told v entry given = account_told 69 values texts out answer known_letters.1 built 14 account_in_E account_form v entry given

  pub no_account_of_E_told : get_or values 14 0 ≡ no_account
      → (field_length 69 14 (filled_built 69 values texts out answer).out ≡ 0)
      × (field_reading 69 14 (filled_built 69 values texts out answer).out ≡ refused 173 30)
  no_account_of_E_told entry =
      let told = no_account_told 69 values texts out answer known_letters.1 built 14 account_in_E account_form entry in
      (told.0, told.1 ∙ ap (λ (field : Field). refused (first_in field) 30) account_row)
