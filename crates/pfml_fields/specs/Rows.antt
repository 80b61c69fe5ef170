-- Laws: where the rows of each record stand in the list of all fields.
use Rattle.std.specs.Prelude.{ℕ, zero, suc, ◌+◌, ◌-◌, ◌≤◌, ◌<◌, Bool, ◌&&◌, ◌≡◌, refl, T, eqb, leb, length, get_or, take, drop}
use mathlib.Core.List.{List, [], ◌∷◌, ◌++◌}
use Rattle.std.proofs.Common.{sym, ap, ◌∙◌, not-suc-le-zero, zero-add, add_assoc, add-one, arith, get_or-append-add}
use Rattle.std.proofs.Math.ListN.{get_or-append}
use borrow.Author.Tests.{eqb-true, leb-true}
use Rattle.laws.specs.ChoiceLaws.{both_hold}
use Rattle.laws.specs.Table.{every, at}
use Rattle.field.specs.declared.class.Class.TheVariants.{RecordLetter, BlankSpace, Numeric, AccountNumber, PersonName, EntityCode, TaxYear, EmployerFein, IdentityNumber, Period}
use Rattle.edits.specs.FieldRow.{row, no_row}
use Rattle.pfml_fields.specs.Fields.{fields_of_a, fields_of_e, fields_of_s, fields_of_t, fields_of_f, records, rows_of, fields, starts, first_field}
use Rattle.field.specs.declared.class.Field.{Field}

pub five_records : length records ≡ 5
unfolding records
five_records = refl

pub five_starts : length starts ≡ 5
unfolding starts
five_starts = refl

pub all_fields_lem : length fields ≡ 72
unfolding fields fields_of_a fields_of_e fields_of_s fields_of_t fields_of_f
all_fields_lem = refl

-- ---- lists of rows joined to one
abbrev joined : List (List Field) → List Field
joined [] = []
joined (rows ∷ rest) = rows ++ joined rest

-- how many rows stand before those of list `kind`
abbrev ahead : List (List Field) → ℕ → ℕ
ahead [] kind = 0
ahead (rows ∷ rest) zero = 0
ahead (rows ∷ rest) (suc kind) = length rows + ahead rest kind

joined_at : (lists : List (List Field)) (kind i : ℕ) → i < length (get_or lists kind [])
    → get_or (joined lists) (ahead lists kind + i) no_row ≡ get_or (get_or lists kind []) i no_row
joined_at [] kind i h = absurd (not-suc-le-zero h)
joined_at (rows ∷ rest) zero i h = rw zero-add (get_or-append rows (joined rest) no_row i h)
joined_at (rows ∷ rest) (suc kind) i h =
    rw (add_assoc, get_or-append-add rows (joined rest) (ahead rest kind + i) no_row) (joined_at rest kind i h)

-- ---- the five records
is_joined : fields ≡ joined records
unfolding fields records fields_of_a fields_of_e fields_of_s fields_of_t fields_of_f
is_joined = refl

-- a record's first field stands after the records before it, and the next record's after its own fields
in_place : ℕ → List Field → Bool
in_place kind rows = eqb (first_field kind) (ahead records kind) && eqb (first_field (suc kind)) (first_field kind + length rows)

all_in_place : T (every in_place [] 0 records)
unfolding in_place first_field starts records fields_of_a fields_of_e fields_of_s fields_of_t fields_of_f
all_in_place = tt

within_all : ℕ → List Field → Bool
within_all kind rows = leb (first_field (suc kind)) (length fields)

all_within : T (every within_all [] 0 records)
unfolding within_all first_field starts records fields fields_of_a fields_of_e fields_of_s fields_of_t fields_of_f
all_within = tt

module _ (kind : ℕ) (h : kind < 5) where
  in_place_lem : (first_field kind ≡ ahead records kind) × (first_field (suc kind) ≡ first_field kind + length (rows_of kind))
  unfolding in_place
  in_place_lem =
      let both = both_hold _ _ (at in_place [] records all_in_place kind (rw five_records h)) in
      (eqb-true _ _ both.0, eqb-true _ _ both.1)

  -- Every field of the record stands in the list of all.
  pub in_list : (k : ℕ) → k < length (rows_of kind) → first_field kind + k < length fields
  unfolding within_all
  in_list k l =
      let inside = leb-true (first_field (suc kind)) (length fields) (at within_all [] records all_within kind (rw five_records h)) in
      omega (arith, in_place_lem.1, inside)

  module _ (k : ℕ) (low : first_field kind ≤ k) (high : k < first_field (suc kind)) where
    -- A field of the record is a row of its table,
    pub in_record : k - first_field kind < length (rows_of kind)
    in_record = omega (arith, in_place_lem.1)

    -- and stands as far after the record's first field as in the table.
    pub row_of_record : get_or fields k no_row ≡ get_or (rows_of kind) (k - first_field kind) no_row
    row_of_record =
        let here : ahead records kind + (k - first_field kind) ≡ k = omega (arith, in_place_lem.0) in
        rw is_joined (ap (λ (n : ℕ). get_or (joined records) n no_row) (sym here) ∙ joined_at records kind (k - first_field kind) in_record)

-- How many fields a record has, and each of them in the list of all; past the five records there is none.
pub fields_counted : (kind : ℕ) → kind < 5 → first_field (kind + 1) ≡ first_field kind + length (rows_of kind)
fields_counted kind h = rw add-one (in_place_lem kind h).1

pub field_in_all : (kind : ℕ) → kind < 5 → (k : ℕ) → k < length (rows_of kind) → get_or fields (first_field kind + k) no_row ≡ get_or (rows_of kind) k no_row
field_in_all kind h k l =
    let all = first_field kind + k in
    let back : all - first_field kind ≡ k = omega arith in
    let next = (in_place_lem kind h).1 in
    row_of_record kind h all (omega arith) (omega arith)
    ∙ ap (λ (n : ℕ). get_or (rows_of kind) n no_row) back

-- ---- the records one by one
pub rows_in_order : (rows_of 0 ≡ fields_of_a) × (rows_of 1 ≡ fields_of_e) × (rows_of 2 ≡ fields_of_s) × (rows_of 3 ≡ fields_of_t) × (rows_of 4 ≡ fields_of_f) × (rows_of 5 ≡ [])
unfolding records
rows_in_order = (refl, refl, refl, refl, refl, refl)

-- Each begins with its letter.
abbrev pub LetterFirst : List Field → Type 0
LetterFirst rows = (0 < length rows) × (get_or rows 0 no_row ≡ row RecordLetter 1 1)

pub letters_first : LetterFirst fields_of_a × LetterFirst fields_of_e × LetterFirst fields_of_s × LetterFirst fields_of_t × LetterFirst fields_of_f
unfolding fields_of_a fields_of_e fields_of_s fields_of_t fields_of_f
letters_first = ((omega arith, refl), (omega arith, refl), (omega arith, refl), (omega arith, refl), (omega arith, refl))

pub none_behind : (first_field 5 ≡ 72) × (first_field 6 ≡ 72)
unfolding first_field starts
none_behind = (refl, refl)

-- ---- each record's part of the list
pub part_of_A : take 17 (drop 0 fields) ≡ fields_of_a
unfolding fields fields_of_a fields_of_e fields_of_s fields_of_t fields_of_f
part_of_A = refl

pub part_of_E : take 28 (drop 17 fields) ≡ fields_of_e
unfolding fields fields_of_a fields_of_e fields_of_s fields_of_t fields_of_f
part_of_E = refl

pub part_of_S : take 13 (drop 45 fields) ≡ fields_of_s
unfolding fields fields_of_a fields_of_e fields_of_s fields_of_t fields_of_f
part_of_S = refl

pub part_of_T : take 7 (drop 58 fields) ≡ fields_of_t
unfolding fields fields_of_a fields_of_e fields_of_s fields_of_t fields_of_f
part_of_T = refl

pub part_of_F : take 7 (drop 65 fields) ≡ fields_of_f
unfolding fields fields_of_a fields_of_e fields_of_s fields_of_t fields_of_f
part_of_F = refl

-- ---- the rows of year, period, FEIN and identity number
pub year_of_A : get_or fields_of_a 1 no_row ≡ row TaxYear 2 5
unfolding fields_of_a
year_of_A = refl

pub period_of_A : get_or fields_of_a 4 no_row ≡ row Period 19 20
unfolding fields_of_a
period_of_A = refl

pub fein_of_E : get_or fields_of_e 2 no_row ≡ row EmployerFein 6 14
unfolding fields_of_e
fein_of_E = refl

pub account_number_of_E : get_or fields_of_e 14 no_row ≡ row AccountNumber 173 182
unfolding fields_of_e
account_number_of_E = refl

pub identity_of_S : get_or fields_of_s 1 no_row ≡ row IdentityNumber 2 10
unfolding fields_of_s
identity_of_S = refl

pub fields_of_A : length fields_of_a ≡ 17
unfolding fields_of_a
fields_of_A = refl

pub fields_of_E : length fields_of_e ≡ 28
unfolding fields_of_e
fields_of_E = refl

pub fields_of_S : length fields_of_s ≡ 13
unfolding fields_of_s
fields_of_S = refl

-- The rows of S, one by one, where a rule is proved of each.
pub rows_of_S : fields_of_s
    ≡ row RecordLetter 1 1 ∷ row IdentityNumber 2 10 ∷ row PersonName 11 30 ∷ row PersonName 31 42 ∷ row BlankSpace 43 45 ∷ row Period 46 47 ∷ row TaxYear 48 51
    ∷ row BlankSpace 52 63 ∷ row Numeric 64 77 ∷ row BlankSpace 78 142 ∷ row EntityCode 143 146 ∷ row Numeric 147 155 ∷ row BlankSpace 156 290 ∷ []
unfolding fields_of_s
rows_of_S = refl

-- ---- the tables of T and F, row by row
pub rows_of_T : fields_of_t
    ≡ row RecordLetter 1 1 ∷ row Numeric 2 8 ∷ row EntityCode 9 12 ∷ row Numeric 13 21 ∷ row BlankSpace 22 26 ∷
    row Numeric 27 40 ∷ row BlankSpace 41 290 ∷ []
unfolding fields_of_t
rows_of_T = refl

pub rows_of_F : fields_of_f
    ≡ row RecordLetter 1 1 ∷ row Numeric 2 11 ∷ row Numeric 12 21 ∷ row EntityCode 22 25 ∷ row BlankSpace 26 40 ∷
    row Numeric 41 55 ∷ row BlankSpace 56 290 ∷ []
unfolding fields_of_f
rows_of_F = refl
