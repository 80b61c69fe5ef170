-- Laws: a T or an F that is accepted is the written one but in ignored columns, and but for a hyphen before thirteen zeros.
use Rattle.std.specs.Prelude.{ℕ, zero, suc, ◌+◌, ◌-◌, ◌^◌, ◌≤◌, ◌<◌, Bool, true, false, ◌&&◌, ◌||◌, List, [], ◌∷◌, ◌≡◌, leb, length, get_or}
use Rattle.std.proofs.Math.Logic.{inl, inr}
use Rattle.std.proofs.Math.Path.{refl}
use Rattle.std.proofs.Common.{sym, subst, not-suc-le-zero, le_of_suc-le-suc, arith, le-leb}
use Rattle.laws.specs.Finding.{value}
use Rattle.laws.specs.Spelling.{bytes}
use Rattle.number.specs.Numbers.{number_in}
use Rattle.field.specs.declared.class.Class.TheVariants.{Ignored}
use Rattle.edits.specs.FieldRow.{row, no_row, class_in, first_in, last_in}
use Rattle.edits.specs.RowTests.{is_ignored, ignored_in}
use Rattle.edits.specs.declared.Open.{Open}
use Rattle.edits.specs.declared.Totals.{Totals}
use Rattle.wham_fields.specs.Fields.{fields_of_t, fields_of_f, due_of_t}
use Rattle.write.specs.PartEdits.{◌&◌}
use Rattle.write.specs.PartLaws.{Holds, AllOf, AllHold, Shared, all_join, all_split, all_shared, record_length, record_holds, shared_alike}
use Rattle.write.specs.Records.{Part, line_of}
use Rattle.wham_write.specs.Due.{MinusNone}
use Rattle.wham_write.specs.Fitting.{Small, total_tiles, total_fits, final_tiles, final_fits}
use Rattle.wham_write.specs.Others.{is_of, MinusZero, SameTotal, SameFinal}
use Rattle.wham_write.specs.Records.{due_parts, parts_of_t, parts_of_f, total_record, final_record}
use Rattle.wham_write.specs.TotalFields.{TotalHeld, FinalHeld}
use Rattle.wham_write.specs.Zeros.{fourteen_zeros, minus_zeros}
use Rattle.field.specs.declared.class.Field.{Field}

-- ---- the ignored columns
either : (a b : Bool) → b ≡ true → a || b ≡ true
either true b e = refl
either false b e = e

abbrev ignored_at : Field → ℕ → Bool
ignored_at field column = is_ignored (class_in field) && leb (first_in field) column && leb column (last_in field)

-- Those of an ignored row, number i of the list.
ignored_row : (rows : List Field) (i first last column : ℕ) → i < length rows → get_or rows i no_row ≡ row Ignored first last → first ≤ column → column ≤ last
    → ignored_in rows column ≡ true
unfolding ignored_in
ignored_row [] i first last column h is low high = absurd (not-suc-le-zero h)
ignored_row (this ∷ rows) zero first last column h is low high =
    subst (λ (field : Field). ignored_at field column || ignored_in rows column ≡ true) (sym is)
    (rw (le-leb first column low, le-leb column last high))
ignored_row (this ∷ rows) (suc i) first last column h is low high =
    either (ignored_at this column) (ignored_in rows column) (ignored_row rows i first last column (le_of_suc-le-suc h) is low high)

-- The four of T, and the two of F.
module _ (k : ℕ) where
  abbrev Within : ℕ → ℕ → List Field → Type 0
  Within first last rows = first - 1 ≤ k → k < last → ignored_in rows (k + 1) ≡ true

  ignored_of_T : Within 13 111 fields_of_t × Within 137 174 fields_of_t × Within 189 212 fields_of_t × Within 227 275 fields_of_t
  unfolding fields_of_t
  ignored_of_T = (
    λ low high. ignored_row fields_of_t 3 13 111 (k + 1) (omega arith) refl (omega arith) (omega arith),
    λ low high. ignored_row fields_of_t 6 137 174 (k + 1) (omega arith) refl (omega arith) (omega arith),
    λ low high. ignored_row fields_of_t 8 189 212 (k + 1) (omega arith) refl (omega arith) (omega arith),
    λ low high. ignored_row fields_of_t 10 227 275 (k + 1) (omega arith) refl (omega arith) (omega arith),
  )

  ignored_of_F : Within 26 40 fields_of_f × Within 56 275 fields_of_f
  unfolding fields_of_f
  ignored_of_F = (
    λ low high. ignored_row fields_of_f 4 26 40 (k + 1) (omega arith) refl (omega arith) (omega arith),
    λ low high. ignored_row fields_of_f 6 56 275 (k + 1) (omega arith) refl (omega arith) (omega arith),
  )

-- ---- T
-- Where nothing is due zeros are written.
zero_due : (amended payments : ℕ) → payments ≡ amended → (line : List ℕ) → AllHold (due_parts amended payments) line → number_in line 123 136 ≡ value 0
zero_due amended payments paid line holds =
    let stands = rw (le-leb payments amended (omega arith)) at holds in
    let nothing : amended - payments ≡ 0 = omega arith in
    rw nothing at stands.0

free_due_lem : (amended payments : ℕ) → payments ≡ amended → (free : ℕ → Bool) → ((k : ℕ) → 122 ≤ k → k < 136 → free (k + 1) ≡ true)
    → (line written : List ℕ) → AllOf (Shared free line written) (due_parts amended payments)
free_due_lem amended payments paid free all line written = rw (le-leb payments amended (omega arith)) (inr all, tt)

module _ (this : Open) (payments : ℕ) (few : this.count < 10 ^ 7) (small : Small payments this.second this.sum) (line : List ℕ)
    (long : length line ≡ 275) (held : TotalHeld this payments line) where
  abbrev parts : List Part
  parts = parts_of_t this payments this.sum

  abbrev due : List Part
  due = due_parts this.sum payments

  abbrev written : List ℕ
  written = line_of 275 parts

  written_long : length written ≡ 275
  written_long = record_length 275 parts (total_tiles this payments this.sum) (total_fits this payments this.sum few small)

  stand : AllHold parts written
  stand = record_holds 275 parts (total_tiles this payments this.sum) (total_fits this payments this.sum few small)

  due_stands : AllHold due written
  due_stands = (all_split (λ part. Holds part written) due _ stand.1.1.1.1.1).0

  -- Where the ignored columns are free, all parts are shared if those of what is due are.
  module _ (free : ℕ → Bool) (ignored : (column : ℕ) → ignored_in fields_of_t column ≡ true → free column ≡ true)
      (owed : AllOf (Shared free line written) due) where
    shares : AllOf (Shared free line written) parts
    unfolding bytes
    shares =
        let (letter, (count, (code, (space, (paid, more))))) = stand in
        let (space', (original, (space'', (amended, rest)))) = (all_split (λ part. Holds part written) due _ more).1 in
        inl (held.letter, letter) & inl (held.count, count) & inl (held.code, code)
        & inr (λ k low high. ignored (k + 1) ((ignored_of_T k).0 low high))
        & inl (held.paid, paid)
        & all_join (Shared free line written) due _ owed
        (inr (λ k low high. ignored (k + 1) ((ignored_of_T k).1 low high))
        & inl (held.original, original)
        & inr (λ k low high. ignored (k + 1) ((ignored_of_T k).2 low high))
        & inl (held.amended, amended)
        & inr (λ k low high. ignored (k + 1) ((ignored_of_T k).3 low high)) & tt)

    alike : (k : ℕ) → free (k + 1) ≡ false → get_or line k 0 ≡ get_or written k 0
    alike = shared_alike 275 free line written long written_long parts (total_tiles this payments this.sum) shares

  -- Where nothing is due the written zeros' columns are free.
  abbrev free_due : ℕ → Bool
  free_due column = ignored_in fields_of_t column || is_of due_of_t column

  none_due : MinusNone line this.sum payments → MinusZero line written
  none_due none =
      record {
        minus = minus_zeros line long none.hyphen none.zeros;
        plus = fourteen_zeros written written_long (zero_due this.sum payments none.paid written due_stands);
        elsewhere =
            alike free_due (λ column e. rw e)
            (free_due_lem this.sum payments none.paid free_due
            (λ k low high. either (ignored_in fields_of_t (k + 1)) (is_of due_of_t (k + 1)) (rw (le-leb 123 (k + 1) (omega arith), le-leb (k + 1) 136 (omega arith))))
            line written);
      }

  pub same_total : SameTotal line (total_record this payments this.sum)
  unfolding total_record
  same_total = elim held.due [
    | inl stands ↦ inl (alike (ignored_in fields_of_t) (λ column e. e) (all_shared (ignored_in fields_of_t) line written due stands due_stands))
    | inr none ↦ inr (none_due none)
  ]

-- ---- F
module _ (all : Totals) (few : all.count < 10 ^ 10) (some : all.employers < 10 ^ 10) (small : all.sum < 10 ^ 15) (line : List ℕ)
    (long : length line ≡ 275) (held : FinalHeld all line) where
  pub same_final : SameFinal line (final_record all)
  unfolding final_record bytes
  same_final =
      let fits = final_fits all few some small in
      let (letter, (count, (employers, (code, (space, (total, rest)))))) = record_holds 275 (parts_of_f all) (final_tiles all) fits in
      shared_alike 275 (ignored_in fields_of_f) line (line_of 275 (parts_of_f all)) long (record_length 275 (parts_of_f all) (final_tiles all) fits) (parts_of_f all) (final_tiles all)
      (inl (held.letter, letter) & inl (held.count, count) & inl (held.employers, employers) & inl (held.code, code)
      & inr (λ k low high. (ignored_of_F k).0 low high)
      & inl (held.total, total)
      & inr (λ k low high. (ignored_of_F k).1 low high) & tt)
