-- Laws: what holds where a record passes: of the context, of the size of what the record says, and of the clauses of 72 after it.
use Rattle.std.specs.Prelude.{ℕ, Bool, true, false, not, ◌&&◌, ◌||◌, List, [], ◌∷◌, ◌⊎◌, ◌≡◌, refl, eqb, leb, ltb, length, get_or}
use Rattle.std.proofs.Math.Bool.{or-false}
use Rattle.std.proofs.lemmas.Bool.{false≢true}
use Rattle.std.proofs.Common.{inl, inr, sym, ap, ap₂, ◌∙◌, arith, eqb-true, leb-true, leb-false, le-ltb}
use Rattle.laws.specs.ChoiceLaws.{not_holds}
use Rattle.laws.specs.Finding.{fine}
use Rattle.calendar.specs.Quarters.{is_quarter_month, is_after}
use Rattle.calendar.specs.declared.Quarter.{Quarter}
use Rattle.chars.specs.ColumnLaws.{unless_fine}
use Rattle.number.specs.Numbers.{value_in}
use Rattle.number.specs.NumberLaws.{value_below}
use Rattle.rules.specs.RuleLaws.{period_fine}
use Rattle.field.specs.declared.class.Class.TheVariants.{Numeric, Period}
use Rattle.edits.specs.FieldRow.{row, no_row}
use Rattle.wham_fields.specs.Fields.{fields_of_a, fields_of_e}
use Rattle.wham_fields.specs.FieldRules.{rules_of_a, rules_of_e}
use Rattle.edits.specs.EditLaws.{all_fine, all_append, not_broken}
use Rattle.edits.specs.Edit.{AllFine}
use Rattle.edits.specs.declared.Around.{Around}
use Rattle.edits.specs.Formats.{quarter_held}
use Rattle.edits.specs.FieldEditLaws.{at_row}
use Rattle.edits.specs.FieldEdits.{field_edits}
use Rattle.edits.specs.Further.{further_edits, is_first_e}
use Rattle.edits.specs.declared.Context.{Context}
use Rattle.edits.specs.declared.Opening.{Opening}
use Rattle.edits.specs.declared.Phase.{Phase}
use Rattle.edits.specs.declared.Phase.TheVariants.{BeforeA, AfterA, EOpen, AfterT, AfterF}
use Rattle.edits.specs.declared.Rule.TheVariants.{YearOfA, More}
use Rattle.edits.specs.declared.FurtherRule.TheVariants.{YearHeld, ListRoom, QuarterOfE}
use Rattle.edits.specs.declared.Seen.{Seen}
use Rattle.shape.specs.After.{phase_after, filed_after}
use Rattle.shape.specs.Fits.{EndsE, Fits, Bounded}
use Rattle.shape.specs.Limits.{most_employees}
use Rattle.wham_fields.specs.declared.Edition.{Edition}
use Rattle.wham_fields.specs.declared.Edition.TheVariants.{Of2024}
use Rattle.wham.specs.Edits.{rows_for, rules_for, around, head_edits, text_edits}
use Rattle.wham.specs.Fitness.{no_quarter, quarter_unfit}
use Rattle.wham.specs.Format.{wham_shape}
use Rattle.wham.specs.Kinds.{landmarks_of}
use Rattle.wham.specs.Place.{most_deposits, place_edits, count_edit}
use Rattle.wham.specs.PlaceTables.{place_test, place_parts}
use Rattle.wham.specs.Says.{said_by}
use Rattle.wham.specs.declared.kind.Kind.{Kind}
use Rattle.wham.specs.declared.kind.Kind.TheVariants.{Transmitter, Employer, Employee, Deposit, Total, Final, Unknown}
use Rattle.edits.specs.declared.Rule.TheVariants.{Nothing}

-- The sizes of what a record says.
pub bounded_by : (edition : Edition) (kind : Kind) (text : List ℕ) → Bounded (wham_shape edition) (said_by kind text)
bounded_by edition Transmitter text = tt
bounded_by edition Employer text = value_below text 6 14
bounded_by edition Employee text = (omega arith, let w = value_below text 203 214 in omega arith)
bounded_by edition Deposit text = tt
bounded_by edition Total text = tt
bounded_by edition Final text = tt
bounded_by edition Unknown text = tt

-- ---- the place: where the rules leave a record of each kind
place_of_A : (edition : Edition) (phase : Phase) (follow : Bool) → place_test edition phase follow Transmitter ≡ fine → phase ≡ BeforeA
place_of_A edition BeforeA follow e = refl
place_of_A edition AfterA follow e = absurd (not_broken _ _ (sym e))
place_of_A edition EOpen true e = absurd (not_broken _ _ (sym e))
place_of_A Of2024 EOpen false e = absurd (not_broken _ _ (sym e))
place_of_A edition AfterT follow e = absurd (not_broken _ _ (sym e))
place_of_A edition AfterF follow e = absurd (not_broken _ _ (sym e))

place_of_E : (edition : Edition) (phase : Phase) (follow : Bool) → place_test edition phase follow Employer ≡ fine → (phase ≡ AfterA) ⊎ EndsE phase follow
place_of_E edition BeforeA follow e = absurd (not_broken _ _ (sym e))
place_of_E edition AfterA follow e = inl refl
place_of_E edition EOpen true e = absurd (not_broken _ _ (sym e))
place_of_E edition EOpen false e = inr (inr (refl, refl))
place_of_E edition AfterT follow e = inr (inl refl)
place_of_E edition AfterF follow e = absurd (not_broken _ _ (sym e))

place_of_S : (edition : Edition) (phase : Phase) (follow : Bool) → place_test edition phase follow Employee ≡ fine → (phase ≡ EOpen) × (follow ≡ true)
place_of_S edition BeforeA follow e = absurd (not_broken _ _ (sym e))
place_of_S edition AfterA follow e = absurd (not_broken _ _ (sym e))
place_of_S edition EOpen true e = (refl, refl)
place_of_S Of2024 EOpen false e = absurd (not_broken _ _ (sym e))
place_of_S edition AfterT follow e = absurd (not_broken _ _ (sym e))
place_of_S edition AfterF follow e = absurd (not_broken _ _ (sym e))

place_of_R : (edition : Edition) (phase : Phase) (follow : Bool) → place_test edition phase follow Deposit ≡ fine → phase ≡ EOpen
place_of_R edition BeforeA follow e = absurd (not_broken _ _ (sym e))
place_of_R edition AfterA follow e = absurd (not_broken _ _ (sym e))
place_of_R edition EOpen follow e = refl
place_of_R edition AfterT follow e = absurd (not_broken _ _ (sym e))
place_of_R edition AfterF follow e = absurd (not_broken _ _ (sym e))

place_of_T : (edition : Edition) (phase : Phase) (follow : Bool) → place_test edition phase follow Total ≡ fine → phase ≡ EOpen
place_of_T edition BeforeA follow e = absurd (not_broken _ _ (sym e))
place_of_T edition AfterA follow e = absurd (not_broken _ _ (sym e))
place_of_T edition EOpen follow e = refl
place_of_T edition AfterT follow e = absurd (not_broken _ _ (sym e))
place_of_T edition AfterF follow e = absurd (not_broken _ _ (sym e))

place_of_F : (edition : Edition) (phase : Phase) (follow : Bool) → place_test edition phase follow Final ≡ fine → EndsE phase follow
place_of_F edition BeforeA follow e = absurd (not_broken _ _ (sym e))
place_of_F edition AfterA follow e = absurd (not_broken _ _ (sym e))
place_of_F edition EOpen true e = absurd (not_broken _ _ (sym e))
place_of_F edition EOpen false e = inr (refl, refl)
place_of_F edition AfterT follow e = inl refl
place_of_F edition AfterF follow e = absurd (not_broken _ _ (sym e))

-- ---- the fields
year_of_A : (get_or fields_of_a 1 no_row ≡ row Numeric 2 5) × (get_or rules_of_a 1 Nothing ≡ More YearHeld) × (length fields_of_a ≡ 16)
unfolding fields_of_a rules_of_a
year_of_A = (refl, refl, refl)

fields_of_E : length fields_of_e ≡ 24
unfolding fields_of_e
fields_of_E = refl

year_of_E : (edition : Edition) → (get_or fields_of_e 1 no_row ≡ row Numeric 2 5) × (get_or (rules_of_e edition) 1 Nothing ≡ YearOfA)
unfolding fields_of_e rules_of_e
year_of_E Of2024 = (refl, refl)

fein_of_E : (edition : Edition) → (get_or fields_of_e 2 no_row ≡ row Numeric 6 14) × (get_or (rules_of_e edition) 2 Nothing ≡ More ListRoom)
unfolding fields_of_e rules_of_e
fein_of_E Of2024 = (refl, refl)

period_of_E : (edition : Edition) → (get_or fields_of_e 15 no_row ≡ row Period 188 189) × (get_or (rules_of_e edition) 15 Nothing ≡ More QuarterOfE)
unfolding fields_of_e rules_of_e
period_of_E Of2024 = (refl, refl)

-- The quarter of an E: the first E's is not after the last closed quarter, a later one's is the file's.
module _ (edition : Edition) (here : Context) (seen : Seen) (text : List ℕ) (all : AllFine (field_edits (around here seen Employer) text fields_of_e (rules_of_e edition))) where
  abbrev a : Around
  a = around here seen Employer

  room_for_E : here.list_full ≡ false
  room_for_E =
      let fein = at_row a text fields_of_e (rules_of_e edition) 2 Numeric (More ListRoom) 6 14 all (rw fields_of_E (omega arith)) (fein_of_E edition).0 (fein_of_E edition).1 in
      not_holds _ (unless_fine _ 6 63 fein.1.0)

  year_is : value_in text 2 5 ≡ here.filed.year
  year_is =
      let year = at_row a text fields_of_e (rules_of_e edition) 1 Numeric YearOfA 2 5 all (rw fields_of_E (omega arith)) (year_of_E edition).0 (year_of_E edition).1 in
      eqb-true _ _ (unless_fine _ 2 42 year.1.0)

  month_fine : is_quarter_month (value_in text 188 189) ≡ true
  month_fine =
      let period = at_row a text fields_of_e (rules_of_e edition) 15 Period (More QuarterOfE) 188 189 all (rw fields_of_E (omega arith)) (period_of_E edition).0 (period_of_E edition).1 in
      period_fine text 188 189 period.0.0

  period : AllFine (further_edits QuarterOfE (landmarks_of Employer).further here text 188 (value_in text 188 189))
  period =
      (at_row a text fields_of_e (rules_of_e edition) 15 Period (More QuarterOfE) 188 189 all (rw fields_of_E (omega arith)) (period_of_E edition).0 (period_of_E edition).1).1

  abbrev quarter : Quarter
  quarter = record { year = value_in text 2 5; month = value_in text 188 189 }

  first_in_time : here.phase ≡ AfterA → is_after quarter (quarter_held here.held) ≡ false
  first_in_time first =
      let test : not (is_first_e here.phase && is_after (record { year = here.filed.year; month = value_in text 188 189 }) (quarter_held here.held)) ≡ true =
      unless_fine _ 188 41 period.0 in
      rw year_is (not_holds _ (rw first at test))

  later_same : is_first_e here.phase ≡ false → value_in text 188 189 ≡ here.filed.month
  later_same later =
      let test : is_first_e here.phase || eqb (value_in text 188 189) here.filed.month ≡ true = unless_fine _ 188 43 period.1.0 in
      eqb-true _ _ (rw later at test)

  -- A later E has the file's quarter.
  quarter_same : is_first_e here.phase ≡ false → quarter ≡ here.filed
  quarter_same later = ap₂ (λ (y m : ℕ). record { year = y; month = m }) year_is (later_same later)

-- ---- the record
-- No quarter is unfit that an E tells: a first one is in time, a later one is the file's.
quarter_told : (held : Opening) (told : Quarter) → is_quarter_month told.month ≡ true → is_after told (quarter_held held) ≡ false → no_quarter held told ≡ false
quarter_told held told month e = rw (month, e)

-- In any phase after the first E the clause is the same.
after_E : (phase : Phase) (held : Opening) (filed : Quarter) → (phase ≡ EOpen) ⊎ (phase ≡ AfterT) → quarter_unfit phase held filed ≡ false → no_quarter held filed ≡ false
after_E phase held filed (inl p) e = rw p at e
after_E phase held filed (inr p) e = rw p at e

ended : (phase : Phase) (follow : Bool) → EndsE phase follow → (phase ≡ EOpen) ⊎ (phase ≡ AfterT)
ended phase follow (inl t) = inr t
ended phase follow (inr o) = inl o.0

later : (phase : Phase) → (phase ≡ EOpen) ⊎ (phase ≡ AfterT) → is_first_e phase ≡ false
later phase (inl p) = rw p
later phase (inr p) = rw p

module _ (edition : Edition) (here : Context) (seen : Seen) where
  -- The parts of a text's edits: place, count, fields.
  split : (text : List ℕ) (kind : Kind) → AllFine (text_edits edition here seen text kind)
      → (place_test edition here.phase here.open.follow kind ≡ fine) × ((count_edit kind here.all.count here.all.others).finds ≡ fine)
      × AllFine (field_edits (around here seen kind) text (rows_for kind) (rules_for edition kind))
  split text kind all =
      let place = place_edits edition here.phase here.open.follow kind in
      let parts = all_append (head_edits edition here text kind) (field_edits (around here seen kind) text (rows_for kind) (rules_for edition kind)) all in
      let placed = all_append place (count_edit kind here.all.count here.all.others ∷ []) parts.0.1.1 in
      (sym (place_parts edition here.phase here.open.follow kind) ∙ all_fine place placed.0, placed.1.0, parts.1)

  pub fits_by : (kind : Kind) (text : List ℕ) → AllFine (text_edits edition here seen text kind) → Fits (wham_shape edition) here (said_by kind text)
  fits_by Transmitter text all = place_of_A edition here.phase here.open.follow (split text Transmitter all).0
  fits_by Employer text all =
      let part = split text Employer all in
      (place_of_E edition here.phase here.open.follow part.0, room_for_E edition here seen text part.2)
  fits_by Employee text all =
      let part = split text Employee all in
      let place = place_of_S edition here.phase here.open.follow part.0 in
      let test : not (leb most_employees here.all.count || false) ≡ true = unless_fine _ 1 61 part.1 in
      let count = leb-false most_employees here.all.count (not_holds _ (rw or-false at test)) in
      (place.0, place.1, count, inl refl)
  fits_by Deposit text all =
      let part = split text Deposit all in
      let count = leb-false most_deposits here.all.others (not_holds _ (unless_fine _ 1 61 part.1)) in
      (place_of_R edition here.phase here.open.follow part.0, count)
  fits_by Total text all = place_of_T edition here.phase here.open.follow (split text Total all).0
  fits_by Final text all = place_of_F edition here.phase here.open.follow (split text Final all).0
  fits_by Unknown text all = absurd (false≢true (unless_fine false 1 4 all.1.0))

  -- ---- 72: the quarter after a record that passes
  year_in_time : (text : List ℕ) → AllFine (field_edits (around here seen Transmitter) text fields_of_a rules_of_a) → ltb here.held.year (value_in text 2 5) ≡ false
  year_in_time text all =
      let year = at_row (around here seen Transmitter) text fields_of_a rules_of_a 1 Numeric (More YearHeld) 2 5 all (rw year_of_A.2 (omega arith)) year_of_A.0 year_of_A.1 in
      le-ltb here.held.year (value_in text 2 5) (leb-true _ _ (unless_fine _ 2 39 year.1.0))

  quarter_of_E : (text : List ℕ) → AllFine (field_edits (around here seen Employer) text fields_of_e (rules_of_e edition))
      → (here.phase ≡ AfterA) ⊎ EndsE here.phase here.open.follow → quarter_unfit here.phase here.held here.filed ≡ false
      → no_quarter here.held (record { year = value_in text 2 5; month = value_in text 188 189 }) ≡ false
  quarter_of_E text all (inl first) e =
      quarter_told here.held _ (month_fine edition here seen text all) (first_in_time edition here seen text all first)
  quarter_of_E text all (inr ends) e =
      let where_E = ended here.phase here.open.follow ends in
      ap (no_quarter here.held) (quarter_same edition here seen text all (later here.phase where_E)) ∙ after_E here.phase here.held here.filed where_E e

  pub quarter_by_lem : (kind : Kind) (text : List ℕ) → AllFine (text_edits edition here seen text kind) → quarter_unfit here.phase here.held here.filed ≡ false
      → quarter_unfit (phase_after (said_by kind text) here.phase) here.held (filed_after (said_by kind text) here.filed) ≡ false
  quarter_by_lem Transmitter text all e = year_in_time text (split text Transmitter all).2
  quarter_by_lem Employer text all e = quarter_of_E text (split text Employer all).2 (fits_by Employer text all).0 e
  quarter_by_lem Employee text all e = rw (fits_by Employee text all).0 at e
  quarter_by_lem Deposit text all e = e
  quarter_by_lem Total text all e = rw (fits_by Total text all) at e
  quarter_by_lem Final text all e =
      after_E here.phase here.held here.filed (ended here.phase here.open.follow (fits_by Final text all)) e
  quarter_by_lem Unknown text all e = e
