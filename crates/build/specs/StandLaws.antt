-- Laws: the values in the built record: each stands in its own columns as it was put in, and is read back from there.
use Rattle.std.specs.Prelude.{ℕ, zero, suc, ◌+◌, ◌-◌, ◌^◌, ◌<◌, ◌≤◌, Bool, true, false, ◌⊎◌, ◌≡◌, refl, leb, ltb, length, take}
use Rattle.std.proofs.lemmas.Bool.{false≢true}
use mathlib.Core.List.{List, [], ◌∷◌, ◌++◌, map}
use Rattle.std.proofs.Common.{inl, inr, sym, ◌∙◌, not-suc-le-zero, le_of_suc-le-suc, arith, length-take, length-drop, length-append, length-take-le, take_all, get_or-take, get_or-drop, get_or-append-add, ext_get_or, leb-true, ltb-true, ltb-false}
use Rattle.std.proofs.Math.Path.{ap, subst}
use Rattle.std.proofs.Math.Nat.{min-le_left}
use Rattle.std.proofs.Math.ListN.{get_or, drop, get_or-append}
use Rattle.std.proofs.lemmas.List.{length-replicate, get_or-replicate}
use Rattle.laws.specs.Finding.{Finding, fine, broken, value}
use Rattle.chars.specs.Characters.{capital_of, capitals}
use Rattle.chars.specs.CharacterLaws.{capital_at, capitals_length, capital_below}
use Rattle.chars.specs.Columns.{width_of, every_column, is_fine}
use Rattle.chars.specs.ColumnLaws.{fine_columns, columns_fine, blank_column, column_blank}
use Rattle.chars.specs.declared.columns.Allowed.TheVariants.{Blanks}
use Rattle.number.specs.Numbers.{number_in}
use Rattle.number.specs.NumberLaws.{read_back, number_capitals}
use Rattle.number.specs.NumberColumnLaws.{put_number_elsewhere, number_alike, number_digits}
use Rattle.text.specs.Put.{blanks}
use Rattle.text.specs.PutLaws.{put_text_elsewhere, put_text_at_lem}
use Rattle.text.specs.Text.{all_blank}
use Rattle.text.specs.TextLaws.{all_blank_says}
use Rattle.edits.specs.FieldRow.{class_in, first_in, last_in, no_row}
use Rattle.edits.specs.RowTests.{tiles}
use Rattle.edits.specs.RowTestLaws.{tiles_first, row_within}
use Rattle.pfml.specs.Edits.{rows_for}
use Rattle.pfml.specs.Kinds.{kind_of, is_known}
use Rattle.write.specs.PartLaws.{put_keeps, put_none, put_first}
use Rattle.write.specs.Records.{put, put_all, record_of}
use Rattle.build.specs.Building.{part_by, part_of}
use Rattle.build.specs.RowLaws.{rows_tiled}
use Rattle.build.specs.BuiltTextLaws.{trim_blanks}
use Rattle.build.specs.Values.{Value, amount, none, words, taken_by, form_in, Filled, filled, fill_rows, fill_record, trimmed, text_in}
use Rattle.build.specs.BuiltRecords.{Each}
use Rattle.field.specs.declared.class.Field.{Field}

-- So of field k, counted from 0, with the class and the columns that its row has.
pub each_at : (P : Filled → Type 0) (letter : ℕ) (rows : List Field) (values texts : List ℕ) → Each P (fill_rows letter rows values texts)
    → (k : ℕ) → k < length rows
    → P (record {
      class = class_in (get_or rows k no_row);
      first = first_in (get_or rows k no_row);
      last = last_in (get_or rows k no_row);
      value = get_or (map (λ (field : Filled). field.value) (fill_rows letter rows values texts)) k none;
    })
unfolding fill_rows
each_at P letter [] values texts all k h = absurd (not-suc-le-zero h)
each_at P letter (row ∷ rows) values texts all zero h = all.0
each_at P letter (row ∷ rows) values texts all (suc k) h = each_at P letter rows _ _ all.1 k (le_of_suc-le-suc h)

-- ---- one value
take_short : (n : ℕ) (text : List ℕ) → length (take n text) ≤ n
take_short n text = rw length-take (min-le_left n (length text))

-- A value that is put in leaves the columns before and after its own.
put_elsewhere : (first last : ℕ) (v : Value) → first - 1 ≤ last → (line : List ℕ) (j : ℕ) → (j < first - 1) ⊎ (last ≤ j)
    → get_or (put (part_by first last v) line) j 0 ≡ get_or line j 0
put_elsewhere first last (amount v) h line j side = put_number_elsewhere line first last v h j side
put_elsewhere first last none h line j side = refl
put_elsewhere first last (words t) h line j (inl before) = put_text_elsewhere line first (take (width_of first last) t) j (inl before)
put_elsewhere first last (words t) h line j (inr behind) =
    put_text_elsewhere line first (take (width_of first last) t) j (inr (omega (arith, take_short (width_of first last) t)))

-- A value in its columns: the line when it was put in, blank from there on, and what stands in the columns since.
pub record Stands (first last : ℕ) (v : Value) (final : List ℕ) : Type 0 where
  pub under : List ℕ
  pub long : length under ≡ 290
  pub empty : (k : ℕ) → first - 1 ≤ k → k < 290 → get_or under k 0 ≡ 0x20
  pub same : (k : ℕ) → first - 1 ≤ k → k < last → get_or final k 0 ≡ get_or (put (part_by first last v) under) k 0
  pub from_one : 1 ≤ first
  pub in_order : first ≤ last
  pub to_end : last ≤ 290

-- ---- all values
module _ (letter : ℕ) where
  abbrev puts : List Field → List ℕ → List ℕ → List ℕ → List ℕ
  puts rows values texts line = put_all (map part_of (fill_rows letter rows values texts)) line

  -- Values that are put in from a column on leave what stands before it.
  puts_before : (rows : List Field) (from : ℕ) (values texts line : List ℕ) → tiles 290 from rows ≡ true → (j : ℕ) → j + 1 < from
      → get_or (puts rows values texts line) j 0 ≡ get_or line j 0
  unfolding fill_rows
  puts_before [] from values texts line t j h = ap (λ (l : List ℕ). get_or l j 0) (put_none line)
  puts_before (row ∷ rows) from values texts line t j h =
      let tile = tiles_first 290 from row rows t in
      let field = filled letter row (get_or values 0 0) texts in
      let next = put (part_of field) line in
      ap (λ (l : List ℕ). get_or l j 0) (put_first (part_of field) _ line)
      ∙ puts_before rows (last_in row + 1) _ _ next tile.2 j (omega arith)
      ∙ put_elsewhere (first_in row) (last_in row) field.value (omega arith) line j (inl (omega arith))

  -- Each stands in the line, where it was blank from that column on.
  pub all_stand : (rows : List Field) (from : ℕ) (values texts line : List ℕ) → tiles 290 from rows ≡ true → 1 ≤ from → length line ≡ 290
      → ((k : ℕ) → from - 1 ≤ k → k < 290 → get_or line k 0 ≡ 0x20)
      → Each (λ (field : Filled). Stands field.first field.last field.value (puts rows values texts line)) (fill_rows letter rows values texts)
  unfolding fill_rows
  all_stand [] from values texts line t one long empty = tt
  all_stand (row ∷ rows) from values texts line t one long empty =
      let tile = tiles_first 290 from row rows t in
      let within = row_within 290 from (row ∷ rows) 0 t (omega arith) in
      let field = filled letter row (get_or values 0 0) texts in
      let next = put (part_of field) line in
      let values' = drop 1 values in
      let texts' = drop (taken_by (form_in row) (get_or values 0 0)) texts in
      let rest = all_stand rows (last_in row + 1) values' texts' next tile.2 (omega arith) (put_keeps (part_of field) line ∙ long)
      (λ k low high. put_elsewhere (first_in row) (last_in row) field.value (omega arith) line k (inr (omega arith)) ∙ empty k (omega arith) high) in
      let here : Stands (first_in row) (last_in row) field.value (puts rows values' texts' next) = record {
        under = line;
        long = long;
        empty = λ k low high. empty k (omega arith) high;
        same = λ k low high. puts_before rows (last_in row + 1) values' texts' next tile.2 k (omega arith);
        from_one = omega arith;
        in_order = within.1;
        to_end = within.2;
      } in
      subst (λ (final : List ℕ). Each (λ (f : Filled). Stands f.first f.last f.value final) (field ∷ fill_rows letter rows values' texts'))
      (sym (put_first (part_of field) (map part_of (fill_rows letter rows values' texts')) line)) (here, rest)

-- Each stands in the record that a letter names.
pub record_stands : (letter : ℕ) (values texts : List ℕ) → is_known (kind_of letter) ≡ true
    → Each (λ (field : Filled). Stands field.first field.last field.value (record_of (map part_of (fill_record letter values texts)))) (fill_record letter values texts)
record_stands letter values texts known =
    all_stand letter (rows_for (kind_of letter)) 1 values texts (blanks 290) (rows_tiled (kind_of letter) known) (omega arith) (length-replicate {A = ℕ} 290 0x20)
    (λ k low high. get_or-replicate {A = ℕ} 290 k 0x20 0 high)

-- ---- reading back
is_fine_lem : (found : Finding) → is_fine found ≡ true → found ≡ fine
is_fine_lem fine e = refl
is_fine_lem (broken column number) e = absurd (false≢true e)

-- In a field that is all blank every column is.
pub blank_columns : (line : List ℕ) (first last : ℕ) → all_blank line first last ≡ true → (k : ℕ) → first - 1 ≤ k → k < last → get_or line k 0 ≡ 0x20
blank_columns line first last blank k low high =
    let columns = is_fine_lem (every_column Blanks line first last) (sym (all_blank_says line first last) ∙ blank) in
    blank_column line k (fine_columns Blanks line first last columns k low high)

module _ (first last : ℕ) (final : List ℕ) where
  -- A number,
  pub amount_read : (v : ℕ) → Stands first last (amount v) final → width_of first last ≤ 19 → ltb v (10 ^ width_of first last) ≡ true
      → number_in (capitals final) first last ≡ value v
  amount_read v s short fits =
      number_capitals final first last
      ∙ number_alike final (put (part_by first last (amount v)) s.under) first last (omega (arith, s.in_order)) s.same
      ∙ read_back s.under first last v s.from_one s.in_order (omega (arith, s.long, s.to_end)) short (ltb-true v (10 ^ width_of first last) fits)

  -- which is not all blank,
  pub amount_ink : (v : ℕ) → first - 1 < last → width_of first last ≤ 19 → number_in (capitals final) first last ≡ value v
      → all_blank (capitals final) first last ≡ false
  amount_ink v h short reads = by (all_blank (capitals final) first last) refl where
    by : (blank : Bool) → all_blank (capitals final) first last ≡ blank → blank ≡ false
    by false e = refl
    by true e =
        let empty = blank_columns (capitals final) first last e (first - 1) (omega arith) h in
        let digit = number_digits (capitals final) first last h short v reads (first - 1) (omega arith) h in
        absurd (omega arith)

  -- an account number that is left out,
  pub none_read : Stands first last none final → all_blank (capitals final) first last ≡ true
  none_read s =
      all_blank_says (capitals final) first last
      ∙ ap is_fine (columns_fine Blanks (capitals final) first last
      (λ k low high. column_blank (capitals final) k
      (capital_at final k ∙ ap capital_of (s.same k low high ∙ s.empty k low (omega (arith, s.to_end))) ∙ capital_below 0x20 (omega arith))))

  -- and a text.
  module _ (t : List ℕ) (s : Stands first last (words t) final) (size : length final ≡ 290) (fits : leb (length t) (width_of first last) ≡ true) where
    abbrev width : ℕ
    width = width_of first last

    room : length t ≤ width_of first last
    room = leb-true (length t) (width_of first last) fits

    put_in : (k : ℕ) → first - 1 ≤ k → k < last → get_or (capitals final) k 0 ≡ capital_of (get_or (put (part_by first last (words t)) s.under) k 0)
    put_in k low high = capital_at final k ∙ ap capital_of (s.same k low high)

    whole : take (width_of first last) t ≡ t
    whole = take_all (width_of first last) t room

    -- Each column is the text's, or blank.
    column : (k : ℕ) → k < width → get_or (capitals final) (first - 1 + k) 0 ≡ get_or (capitals t ++ blanks (width - length t)) k 0
    column k h = by (ltb k (length t)) refl where
      there : get_or (capitals final) (first - 1 + k) 0 ≡ capital_of (get_or (put (part_by first last (words t)) s.under) (first - 1 + k) 0)
      there = put_in (first - 1 + k) (omega arith) (omega (arith, s.in_order))

      by : (inside : Bool) → ltb k (length t) ≡ inside → get_or (capitals final) (first - 1 + k) 0 ≡ get_or (capitals t ++ blanks (width - length t)) k 0
      by true e =
          let inside = ltb-true k (length t) e in
          there
          ∙ ap capital_of (rw whole (put_text_at_lem s.under first t (omega (arith, s.long, s.to_end, s.in_order, room)) k inside))
          ∙ sym (capital_at t k)
          ∙ sym (get_or-append (capitals t) (blanks (width - length t)) 0 k (omega (arith, capitals_length t)))
      by false e =
          let outside = ltb-false k (length t) e in
          let place : k ≡ length (capitals t) + (k - length t) = omega (arith, capitals_length t) in
          there
          ∙ ap capital_of (rw whole (put_text_elsewhere s.under first t (first - 1 + k) (inr (omega arith))) ∙ s.empty (first - 1 + k) (omega arith) (omega (arith, s.in_order, s.to_end)))
          ∙ capital_below 0x20 (omega arith)
          ∙ sym (rw place (get_or-append-add (capitals t) (blanks (width - length t)) (k - length t) 0 ∙ get_or-replicate {A = ℕ} (width - length t) (k - length t) 0x20 0 (omega (arith, room))))

    columns_are : take (width_of first last) (drop (first - 1) (capitals final)) ≡ capitals t ++ blanks (width_of first last - length t)
    columns_are =
        let columns = take (width_of first last) (drop (first - 1) (capitals final)) in
        let is_wide : length columns ≡ width_of first last =
        length-take-le (width_of first last) (drop (first - 1) (capitals final)) (rw length-drop (omega (arith, capitals_length final, size, s.to_end))) in
        let as_wide : length (capitals t ++ blanks (width_of first last - length t)) ≡ width_of first last =
        simp (length-append, capitals_length, length-replicate) (omega (arith, room)) in
        ext_get_or 0 columns (capitals t ++ blanks (width_of first last - length t)) (is_wide ∙ sym as_wide)
        (λ k h. get_or-take (width_of first last) (drop (first - 1) (capitals final)) k 0 (omega arith) ∙ get_or-drop (first - 1) (capitals final) k 0 ∙ column k (omega arith))

    pub words_read : text_in (capitals final) first last ≡ trimmed (capitals t)
    words_read = ap trimmed columns_are ∙ trim_blanks (capitals t) (width_of first last - length t)
