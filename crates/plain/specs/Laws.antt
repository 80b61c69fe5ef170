-- Laws: what may be relied on where a record is plain: it passes as an employee of the open employer, and its identity number and its size are small.
use Rattle.std.specs.Prelude.{ℕ, ◌+◌, ◌≤◌, ◌<◌, Bool, true, false, not, ◌&&◌, ◌||◌, List, ◌≡◌, refl, eqb, leb, ltb, length, drop, if◌then◌else◌, Option, None, Some}
use Rattle.std.proofs.lemmas.Bool.{false≢true, eqb-false, not-true}
use Rattle.std.proofs.lemmas.Option.{none-some}
use Rattle.std.proofs.Common.{sym, ap, subst, ◌∙◌, arith, eq-eqb, leb-true}
use Rattle.laws.specs.ChoiceLaws.{both_hold}
use Rattle.laws.specs.Finding.{Finding, fine, broken, value}
use Rattle.lines.specs.MadeLines.{text_before_end, cut_before_end}
use Rattle.lines.specs.Laws.{end_short}
use Rattle.lines.specs.Lines.{Line, first_line}
use Rattle.calendar.specs.Laws.{allowed_filing, allowed_month}
use Rattle.calendar.specs.declared.Quarter.{Quarter}
use Rattle.chars.specs.Characters.{capitals}
use Rattle.chars.specs.Columns.{every_column, is_fine, unless}
use Rattle.chars.specs.declared.columns.Allowed.TheVariants.{Digits, OfNames}
use Rattle.number.specs.NumberColumnLaws.{value_reads}
use Rattle.number.specs.Numbers.{number_in, value_in}
use Rattle.rules.specs.RuleLaws.{period_passes}
use Rattle.rules.specs.Rules.{may_be_filed}
use Rattle.text.specs.TextLaws.{ink_not_blank, ink_not_indented}
use Rattle.pfml_fields.specs.Fields.{fields_of_s}
use Rattle.edits.specs.Edit.{AllFine}
use Rattle.edits.specs.FieldEdits.{field_edits}
use Rattle.edits.specs.declared.Context.{Context}
use Rattle.edits.specs.declared.Phase.TheVariants.{EOpen}
use Rattle.edits.specs.declared.Seen.{Seen}
use Rattle.edits.specs.declared.format.Format.{Format}
use Rattle.edits.specs.declared.format.Format.TheVariants.{Pfml}
use Rattle.pfml.specs.EmployeeEdits.{edits_of_S, place_of_S}
use Rattle.pfml.specs.Edits.{around}
use Rattle.pfml.specs.Format.{pfml_shape}
use Rattle.shape.specs.Limits.{most_employees}
use Rattle.shape.specs.Shape.{passed, seen_by, judge_among_by}
use Rattle.record.specs.Judge.{judge, seen_on, judge_among}
use Rattle.record.specs.Laws.{judge_pfml}
use Rattle.pfml_fields.specs.FieldRules.{rules_of_s}
use Rattle.pfml.specs.Sums.{passes}
use Rattle.pfml.specs.declared.kind.Kind.TheVariants.{Employee}
use Rattle.shape.specs.declared.Said.TheVariants.{OfS}
use Rattle.plain.specs.Passing.{text_on, no_end, ink, is_employee_lem, blank_field, code_field, number_read, digits_number, name_field, all_permitted}
use Rattle.plain.specs.Plain.{lowest, highest, fits, within, id_in, wages_in, end_size, is_whole, is_plain, sight, seen}
use Rattle.plain.specs.Sweeps.{within_at, digits_below}
use Rattle.plain.specs.Templates.{Between, digit_spans, name_spans, blank_spans, quarter_fits, reads_month, reads_year, reads_fein}
use Rattle.plain.specs.declared.Sighted.{Sighted}

-- ---- what is asked of a plain record
fine_of : (found : Finding) → is_fine found ≡ true → found ≡ fine
fine_of fine e = refl
fine_of (broken column number) e = absurd (false≢true e)

record Asked (low high s : List ℕ) : Type 0 where
  long : 292 ≤ length s
  between : within low high s 290 ≡ true
  names : every_column OfNames (capitals s) 11 42 ≡ fine
  ends : 1 ≤ end_size s
  may_be_filed_lem : may_be_filed (id_in s) ≡ true

asked : (low high s : List ℕ) → is_plain low high s ≡ true → Asked low high s
unfolding is_plain
asked low high s e =
    let whole = both_hold (is_whole low high s) _ e in
    let lower = both_hold (leb 290 (length low)) _ whole.0 in
    let long = both_hold (leb 290 (length high)) (leb 292 (length s)) lower.1 in
    let between = both_hold (within low high s 290) _ whole.1 in
    let names = both_hold (is_fine (every_column OfNames (capitals s) 11 42)) _ between.1 in
    let ends = both_hold (not (eqb (end_size s) 0)) (may_be_filed (id_in s)) names.1 in
    record {
      long = leb-true 292 (length s) long.1;
      between = between.0;
      names = fine_of _ names.0;
      ends = let some = eqb-false (end_size s) 0 (not-true _ ends.0) in omega arith;
      may_be_filed_lem = ends.1;
    }

-- What is seen, over the outcome of that.
abbrev seen_if : Bool → List ℕ → Sighted
seen_if plain s = if plain then record { taken = 290 + end_size s; id = id_in s; wages = wages_in s } else record { taken = 0; id = 0; wages = 0 }

abbrev seen_by_test : Bool → List ℕ → Option Sighted
seen_by_test plain s = if plain then Some (record { taken = 290 + end_size s; id = id_in s; wages = wages_in s }) else None

-- Where something is seen, the record is plain.
plain_if : (plain : Bool) (s : List ℕ) → ((seen_if plain s).taken ≡ 0 → ⊥) → plain ≡ true
plain_if true s some = refl
plain_if false s some = absurd (some refl)

plain_seen : (low high s : List ℕ) → ((sight low high s).taken ≡ 0 → ⊥) → is_plain low high s ≡ true
plain_seen low high s some = plain_if (is_plain low high s) s some

-- ---- sizes
module _ (low high s : List ℕ) where
  pub long_enough : ((sight low high s).taken ≡ 0 → ⊥) → 292 ≤ length s
  long_enough some = (asked low high s (plain_seen low high s some)).long

  pub taken_within : (sight low high s).taken ≤ length s
  taken_within = by (is_plain low high s) refl where
    by : (plain : Bool) → is_plain low high s ≡ plain → (seen_if plain s).taken ≤ length s
    by true e = omega (arith, (asked low high s e).long, end_short (drop 290 s))
    by false e = omega arith

  pub id_below : (sight low high s).id < 4294967296
  id_below = by (is_plain low high s) where
    by : (plain : Bool) → (seen_if plain s).id < 4294967296
    by true = omega (arith, digits_below 9 s 0 1 0 (omega arith))
    by false = omega arith

-- Where nothing is seen no bytes are; and what is seen has bytes.
module _ (low high s : List ℕ) where
  pub none_seen : seen low high s ≡ None → (sight low high s).taken ≡ 0
  none_seen none = by (is_plain low high s) none where
    by : (plain : Bool) → seen_by_test plain s ≡ None → (seen_if plain s).taken ≡ 0
    by true e = search
    by false e = refl

  pub nothing_seen : seen low high s ≡ None → sight low high s ≡ record { taken = 0; id = 0; wages = 0 }
  nothing_seen none = by (is_plain low high s) none where
    by : (plain : Bool) → seen_by_test plain s ≡ None → seen_if plain s ≡ record { taken = 0; id = 0; wages = 0 }
    by true e = search
    by false e = refl

  pub some_seen : (v : Sighted) → seen low high s ≡ Some v → (v ≡ sight low high s) × (v.taken ≡ 0 → ⊥)
  some_seen v some = by (is_plain low high s) some where
    by : (plain : Bool) → seen_by_test plain s ≡ Some v → (v ≡ seen_if plain s) × (v.taken ≡ 0 → ⊥)
    by true e =
        let same : seen_if true s ≡ v = cc in
        let taken = ap (λ (w : Sighted). w.taken) same in
        (sym same, λ none. omega arith)
    by false e = absurd (none-some v e)

-- ---- its edits
-- A number that is new where there is room: it was not seen, and there is room.
new_parts : (none full seen : Bool) → none || (not full && not seen) ≡ true → (none || not seen ≡ true) × (none || not full ≡ true)
new_parts true full seen e = (refl, refl)
new_parts false true seen e = absurd (false≢true e)
new_parts false false true e = absurd (false≢true e)
new_parts false false false e = (refl, refl)

holds : (t : Bool) (first number : ℕ) → t ≡ true → unless t first number ≡ fine
holds t first number e = rw e

infixr 4 ◌&◌
◌&◌ : {A B : Type 0} → A → B → A × B
a & b = (a, b)

module _ (here : Context) (fit : fits here.open.fein here.filed ≡ true) (s : List ℕ)
    (all : Asked (lowest here.open.fein here.filed) (highest here.open.fein here.filed) s) where
  abbrev fein : ℕ
  fein = here.open.fein

  abbrev filed : Quarter
  filed = here.filed

  between : Between fein filed s
  between = within_at (lowest fein filed) (highest fein filed) s 290 all.between

  -- The numbers, with their digits.
  id_reads : (every_column Digits (text_on s) 2 10 ≡ fine) × (value_in (text_on s) 2 10 ≡ id_in s)
  id_reads =
      value_reads (text_on s) 2 10 (omega arith) (omega arith) (id_in s)
      (number_read fein filed fit s between 2 10 (id_in s) (omega arith)
      (digits_number fein filed fit s between 2 10 (omega arith) (omega arith) (omega arith) digit_spans.0))

  wages_read : (every_column Digits (text_on s) 64 77 ≡ fine) × (value_in (text_on s) 64 77 ≡ wages_in s)
  wages_read =
      value_reads (text_on s) 64 77 (omega arith) (omega arith) (wages_in s)
      (number_read fein filed fit s between 64 77 (wages_in s) (omega arith)
      (digits_number fein filed fit s between 64 77 (omega arith) (omega arith) (omega arith) digit_spans.1))

  month_reads : number_in (text_on s) 46 47 ≡ value filed.month
  month_reads = number_read fein filed fit s between 46 47 filed.month (omega arith) (reads_month fein filed fit s between)

  year_reads : (every_column Digits (text_on s) 48 51 ≡ fine) × (value_in (text_on s) 48 51 ≡ filed.year)
  year_reads =
      value_reads (text_on s) 48 51 (omega arith) (omega arith) filed.year
      (number_read fein filed fit s between 48 51 filed.year (omega arith) (reads_year fein filed fit s between))

  fein_reads : (every_column Digits (text_on s) 147 155 ≡ fine) × (value_in (text_on s) 147 155 ≡ fein)
  fein_reads =
      value_reads (text_on s) 147 155 (omega arith) (omega arith) fein
      (number_read fein filed fit s between 147 155 fein (omega arith) (reads_fein fein filed fit s between))

  -- No edit of its fields is broken.
  fields_fine : (seen : Seen) → eqb (id_in s) 0 || (not here.ids_full && not seen.id) ≡ true
      → AllFine (field_edits (around here seen Employee) (text_on s) fields_of_s rules_of_s)
  fields_fine seen new =
      let text = text_on s in
      let fresh = new_parts (eqb (id_in s) 0) here.ids_full seen.id new in
      let blank = blank_field fein filed fit s between in
      let last_ink = ink fein filed fit s between 11 (omega arith) (omega arith) name_spans.0 in
      let first_ink = ink fein filed fit s between 31 (omega arith) (omega arith) name_spans.1 in
      let name = name_field fein filed fit s between all.names in
      let month = (value_reads text 46 47 (omega arith) (omega arith) filed.month month_reads).1 in
      let allowed = quarter_fits fein filed fit in
      rw (edits_of_S (around here seen Employee) text)
      (id_reads.0 & rw (id_reads.1, all.may_be_filed_lem) refl
      & rw id_reads.1 (holds _ 2 53 fresh.0) & rw id_reads.1 (holds _ 2 62 fresh.1)
      & rw (ink_not_blank text 11 30 last_ink (omega arith)) refl & rw (ink_not_indented text 11 30 last_ink) refl & name 11 30 (omega arith) (omega arith)
      & rw (ink_not_blank text 31 42 first_ink (omega arith)) refl & rw (ink_not_indented text 31 42 first_ink) refl & name 31 42 (omega arith) (omega arith)
      & blank 43 45 (omega arith) blank_spans.0
      & period_passes text 46 47 filed.month month_reads (allowed_month filed allowed) & holds _ 46 43 (eq-eqb (value_in text 46 47) filed.month month)
      & year_reads.0 & rw (year_reads.1, allowed_filing filed allowed) refl & holds _ 48 42 (eq-eqb (value_in text 48 51) filed.year year_reads.1)
      & blank 52 63 (omega arith) blank_spans.1
      & wages_read.0
      & blank 78 142 (omega arith) blank_spans.2
      & holds _ 143 34 (code_field fein filed fit s between)
      & fein_reads.0 & holds _ 147 46 (eq-eqb (value_in text 147 155) fein fein_reads.1)
      & blank 156 290 (omega arith) blank_spans.3 & tt)

-- In a file of PFML a line is judged by PFML.
among_pfml : (here : Context) (earlier under : ℕ → Bool) (line : Line) → here.held.format ≡ Pfml
    → judge_among here earlier under line ≡ judge_among_by pfml_shape here earlier under line
among_pfml here earlier under line pfml =
    ap (λ (format : Format). judge here (seen_on format earlier under (capitals line.text)) line) pfml
    ∙ judge_pfml here (seen_by pfml_shape earlier under (capitals line.text)) line pfml

-- It passes: the bytes taken are its 290 characters and its end, and it says its identity number and its wages.
pub plain_passes : (here : Context) (earlier under : ℕ → Bool) (s : List ℕ) → here.held.format ≡ Pfml → here.phase ≡ EOpen → here.open.follow ≡ true
    → fits here.open.fein here.filed ≡ true → ltb here.all.count most_employees ≡ true
    → ((sight (lowest here.open.fein here.filed) (highest here.open.fein here.filed) s).taken ≡ 0 → ⊥)
    → (eqb (sight (lowest here.open.fein here.filed) (highest here.open.fein here.filed) s).id 0
    || (not here.ids_full && not (under (sight (lowest here.open.fein here.filed) (highest here.open.fein here.filed) s).id))) ≡ true
    → judge_among here earlier under (first_line s)
    ≡ passed (sight (lowest here.open.fein here.filed) (highest here.open.fein here.filed) s).taken
    (OfS (record {
      id = (sight (lowest here.open.fein here.filed) (highest here.open.fein here.filed) s).id;
      wages = (sight (lowest here.open.fein here.filed) (highest here.open.fein here.filed) s).wages;
      second = 0;
    }))
plain_passes here earlier under s pfml phase follow fit few some new =
    let fein = here.open.fein in
    let filed = here.filed in
    let plain = plain_seen (lowest fein filed) (highest fein filed) s some in
    let all = asked (lowest fein filed) (highest fein filed) s plain in
    let text = text_on s in
    let among = between here fit s all in
    let no_ends = no_end fein filed fit s among in
    let read : capitals (first_line s).text ≡ text = ap capitals (text_before_end 290 s no_ends all.ends) in
    let named = is_employee_lem fein filed fit s among in
    let id = (id_reads here fit s all).1 in
    let seen = seen_by pfml_shape earlier under (capitals (first_line s).text) in
    let asks : seen.id ≡ under (id_in s) = rw (read, named, id) in
    let fresh : eqb (id_in s) 0 || (not here.ids_full && not seen.id) ≡ true =
    subst (λ (b : Bool). eqb (id_in s) 0 || (not here.ids_full && not b) ≡ true) (sym asks) (rw plain at new) in
    rw plain
    (among_pfml here earlier under (first_line s) pfml
    ∙ passes here seen (first_line s) text read Employee named (290 + end_size s)
    (cut_before_end 290 s (omega (arith, all.long)) no_ends all.ends) (all_permitted fein filed fit s among all.names) refl
    (place_of_S here phase follow few) (fields_fine here fit s all _ fresh)
    ∙ rw (id, (wages_read here fit s all).1))
