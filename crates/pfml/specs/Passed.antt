-- Laws: what holds where a record passes: of the context, of the size of what the record says, and of the clauses of 72 after it.
use Rattle.std.specs.Prelude.{ℕ, ◌+◌, ◌≤◌, Bool, true, false, not, ◌||◌, List, [], ◌∷◌, ◌⊎◌, ◌≡◌, refl, eqb, leb, ltb, get_or, if◌then◌else◌}
use Rattle.std.proofs.lemmas.Bool.{false≢true, eqb-false}
use Rattle.std.proofs.Common.{inl, inr, sym, ◌∙◌, arith, eqb-true, leb-false, ltb-false, le-ltb}
use Rattle.laws.specs.ChoiceLaws.{not_holds}
use Rattle.laws.specs.Finding.{fine}
use Rattle.calendar.specs.Quarters.{is_reportable}
use Rattle.calendar.specs.Laws.{reportable}
use Rattle.chars.specs.ColumnLaws.{unless_fine}
use Rattle.number.specs.Numbers.{value_in}
use Rattle.number.specs.NumberLaws.{value_below}
use Rattle.rules.specs.RuleLaws.{period_fine}
use Rattle.field.specs.declared.class.Class.TheVariants.{Period, TaxYear, EmployerFein, IdentityNumber}
use Rattle.pfml_fields.specs.Fields.{fields_of_a, fields_of_e, fields_of_s}
use Rattle.pfml_fields.specs.Rows.{year_of_A, period_of_A, fein_of_E, identity_of_S, fields_of_A, fields_of_E, fields_of_S}
use Rattle.pfml_fields.specs.FieldRules.{rules_of_a, rules_of_e, rules_of_s}
use Rattle.edits.specs.EditLaws.{all_fine, all_append, not_broken}
use Rattle.edits.specs.Edit.{AllFine}
use Rattle.edits.specs.Formats.{quarter_held}
use Rattle.edits.specs.FieldEditLaws.{at_row}
use Rattle.edits.specs.FieldEdits.{field_edits}
use Rattle.edits.specs.declared.Context.{Context}
use Rattle.edits.specs.declared.Phase.{Phase}
use Rattle.edits.specs.declared.Phase.TheVariants.{BeforeA, AfterA, EOpen, AfterT, AfterF}
use Rattle.edits.specs.declared.Rule.TheVariants.{YearInTime, QuarterInTime, FeinNew, IdentityNew}
use Rattle.edits.specs.declared.Seen.{Seen}
use Rattle.shape.specs.After.{phase_after, filed_after, used_after}
use Rattle.shape.specs.Fits.{EndsE, Fits, Bounded}
use Rattle.shape.specs.Limits.{most_employees}
use Rattle.shape.specs.Phases.{stands}
use Rattle.pfml.specs.Edits.{rows_for, rules_for, around, head_edits, text_edits}
use Rattle.pfml.specs.Fitness.{ids_unfit, quarter_unfit}
use Rattle.pfml.specs.Format.{pfml_shape}
use Rattle.pfml.specs.Place.{place_edits, count_edit}
use Rattle.pfml.specs.PlaceTables.{place_test, place_parts}
use Rattle.pfml.specs.Says.{said_by}
use Rattle.pfml.specs.declared.kind.Kind.{Kind}
use Rattle.pfml.specs.declared.kind.Kind.TheVariants.{Transmitter, Employer, Employee, Total, Final, Unknown}
use Rattle.edits.specs.declared.Rule.TheVariants.{Nothing}

-- The sizes of what a record says.
pub bounded_by : (kind : Kind) (text : List ℕ) → Bounded pfml_shape (said_by kind text)
bounded_by Transmitter text = tt
bounded_by Employer text = value_below text 6 14
bounded_by Employee text = (value_below text 2 10, let w = value_below text 64 77 in omega arith)
bounded_by Total text = tt
bounded_by Final text = tt
bounded_by Unknown text = tt

-- ---- the place: where the rules leave a record of each kind
place_of_A : (phase : Phase) (follow : Bool) → place_test phase follow Transmitter ≡ fine → phase ≡ BeforeA
place_of_A BeforeA follow e = refl
place_of_A AfterA follow e = absurd (not_broken _ _ (sym e))
place_of_A EOpen follow e = absurd (not_broken _ _ (sym e))
place_of_A AfterT follow e = absurd (not_broken _ _ (sym e))
place_of_A AfterF follow e = absurd (not_broken _ _ (sym e))

place_of_E : (phase : Phase) (follow : Bool) → place_test phase follow Employer ≡ fine → (phase ≡ AfterA) ⊎ (phase ≡ AfterT)
place_of_E BeforeA follow e = absurd (not_broken _ _ (sym e))
place_of_E AfterA follow e = inl refl
place_of_E EOpen follow e = absurd (not_broken _ _ (sym e))
place_of_E AfterT follow e = inr refl
place_of_E AfterF follow e = absurd (not_broken _ _ (sym e))

-- An E has ended with its T, whatever it says.
by_its_T : (phase : Phase) (follow : Bool) → (phase ≡ AfterA) ⊎ (phase ≡ AfterT) → (phase ≡ AfterA) ⊎ EndsE phase follow
by_its_T phase follow (inl a) = inl a
by_its_T phase follow (inr t) = inr (inl t)

place_of_S : (phase : Phase) (follow : Bool) → place_test phase follow Employee ≡ fine → (phase ≡ EOpen) × (follow ≡ true)
place_of_S BeforeA follow e = absurd (not_broken _ _ (sym e))
place_of_S AfterA follow e = absurd (not_broken _ _ (sym e))
place_of_S EOpen true e = (refl, refl)
place_of_S EOpen false e = absurd (not_broken _ _ (sym e))
place_of_S AfterT follow e = absurd (not_broken _ _ (sym e))
place_of_S AfterF follow e = absurd (not_broken _ _ (sym e))

place_of_T : (phase : Phase) (follow : Bool) → place_test phase follow Total ≡ fine → phase ≡ EOpen
place_of_T BeforeA follow e = absurd (not_broken _ _ (sym e))
place_of_T AfterA follow e = absurd (not_broken _ _ (sym e))
place_of_T EOpen follow e = refl
place_of_T AfterT follow e = absurd (not_broken _ _ (sym e))
place_of_T AfterF follow e = absurd (not_broken _ _ (sym e))

place_of_F : (phase : Phase) (follow : Bool) → place_test phase follow Final ≡ fine → phase ≡ AfterT
place_of_F BeforeA follow e = absurd (not_broken _ _ (sym e))
place_of_F AfterA follow e = absurd (not_broken _ _ (sym e))
place_of_F EOpen follow e = absurd (not_broken _ _ (sym e))
place_of_F AfterT follow e = refl
place_of_F AfterF follow e = absurd (not_broken _ _ (sym e))

-- ---- the fields
year_rule : get_or rules_of_a 1 Nothing ≡ YearInTime
unfolding rules_of_a
year_rule = refl

period_rule : get_or rules_of_a 4 Nothing ≡ QuarterInTime
unfolding rules_of_a
period_rule = refl

fein_rule : get_or rules_of_e 2 Nothing ≡ FeinNew
unfolding rules_of_e
fein_rule = refl

identity_rule : get_or rules_of_s 1 Nothing ≡ IdentityNew
unfolding rules_of_s
identity_rule = refl

-- An identity number is that of an applicant, or there is room for it.
none_or : (none full : Bool) → none || not full ≡ true → (none ≡ true) ⊎ (full ≡ false)
none_or true full e = inl refl
none_or false full e = inr (not_holds full e)

-- One id more, where there is room for it.
one_more : (ids used id : ℕ) (none : Bool) → eqb id 0 ≡ none → used ≤ ids → (id ≡ 0) ⊎ (leb ids used ≡ false) → ltb ids (if none then used else used + 1) ≡ false
one_more ids used id true e fit room = le-ltb ids used fit
one_more ids used id false e fit (inl zero_id) = absurd (eqb-false id 0 e zero_id)
one_more ids used id false e fit (inr free) = let less = leb-false ids used free in le-ltb ids (used + 1) (omega arith)

ids_none : (ids : ℕ) (is_open : Bool) → ids_unfit ids 0 is_open ≡ false
ids_none ids true = le-ltb ids 0 (omega arith)
ids_none ids false = refl

module _ (here : Context) (seen : Seen) (text : List ℕ) where
  quarter_in_time_lem : AllFine (field_edits (around here seen Transmitter) text fields_of_a rules_of_a)
      → is_reportable (quarter_held here.held) (record { year = value_in text 2 5; month = value_in text 19 20 }) ≡ true
  quarter_in_time_lem all =
      let a = around here seen Transmitter in
      let year = at_row a text fields_of_a rules_of_a 1 TaxYear YearInTime 2 5 all (rw fields_of_A (omega arith)) year_of_A year_rule in
      let period = at_row a text fields_of_a rules_of_a 4 Period QuarterInTime 19 20 all (rw fields_of_A (omega arith)) period_of_A period_rule in
      reportable (quarter_held here.held) (record { year = value_in text 2 5; month = value_in text 19 20 })
      (unless_fine _ 2 38 year.0.1.0) (period_fine text 19 20 period.0.0) (unless_fine _ 19 41 period.1.0)

  room_for_E : AllFine (field_edits (around here seen Employer) text fields_of_e rules_of_e) → here.list_full ≡ false
  room_for_E all =
      let a = around here seen Employer in
      let fein = at_row a text fields_of_e rules_of_e 2 EmployerFein FeinNew 6 14 all (rw fields_of_E (omega arith)) fein_of_E fein_rule in
      not_holds _ (unless_fine _ 6 63 fein.1.1.0)

  room_for_S : AllFine (field_edits (around here seen Employee) text fields_of_s rules_of_s) → (value_in text 2 10 ≡ 0) ⊎ (here.ids_full ≡ false)
  room_for_S all =
      let a = around here seen Employee in
      let id = at_row a text fields_of_s rules_of_s 1 IdentityNumber IdentityNew 2 10 all (rw fields_of_S (omega arith)) identity_of_S identity_rule in
      elim (none_or (eqb (value_in text 2 10) 0) here.ids_full (unless_fine _ 2 62 id.1.1.0)) [
        | inl none ↦ inl (eqb-true _ _ none)
        | inr free ↦ inr free
      ]

-- ---- the record
module _ (here : Context) (seen : Seen) where
  -- The parts of a text's edits: place, count, fields.
  split : (text : List ℕ) (kind : Kind) → AllFine (text_edits here seen text kind)
      → (place_test here.phase here.open.follow kind ≡ fine) × ((count_edit kind here.all.count).finds ≡ fine)
      × AllFine (field_edits (around here seen kind) text (rows_for kind) (rules_for kind))
  split text kind all =
      let place = place_edits here.phase here.open.follow kind in
      let parts = all_append (head_edits here text kind) (field_edits (around here seen kind) text (rows_for kind) (rules_for kind)) all in
      let placed = all_append place (count_edit kind here.all.count ∷ []) parts.0.1.1 in
      (sym (place_parts here.phase here.open.follow kind) ∙ all_fine place placed.0, placed.1.0, parts.1)

  pub fits_by : (kind : Kind) (text : List ℕ) → AllFine (text_edits here seen text kind) → Fits pfml_shape here (said_by kind text)
  fits_by Transmitter text all = place_of_A here.phase here.open.follow (split text Transmitter all).0
  fits_by Employer text all =
      let part = split text Employer all in
      (by_its_T _ _ (place_of_E here.phase here.open.follow part.0), room_for_E here seen text part.2)
  fits_by Employee text all =
      let part = split text Employee all in
      let place = place_of_S here.phase here.open.follow part.0 in
      let count = leb-false most_employees here.all.count (not_holds _ (unless_fine _ 1 61 part.1)) in
      (place.0, place.1, count, room_for_S here seen text part.2)
  fits_by Total text all = place_of_T here.phase here.open.follow (split text Total all).0
  fits_by Final text all = inl (place_of_F here.phase here.open.follow (split text Final all).0)
  fits_by Unknown text all = absurd (false≢true (unless_fine false 1 4 all.1.0))

  -- F stands after a T.
  pub final_place : (text : List ℕ) → AllFine (text_edits here seen text Final) → here.phase ≡ AfterT
  final_place text all = place_of_F here.phase here.open.follow (split text Final all).0

  -- ---- 72: the quarter, and the ids in use, after a record that passes
  pub quarter_by_lem : (kind : Kind) (text : List ℕ) → AllFine (text_edits here seen text kind) → quarter_unfit here.phase here.held here.filed ≡ false
      → quarter_unfit (phase_after (said_by kind text) here.phase) here.held (filed_after (said_by kind text) here.filed) ≡ false
  quarter_by_lem Transmitter text all e = rw (quarter_in_time_lem here seen text (split text Transmitter all).2)
  quarter_by_lem Employer text all e = elim (place_of_E here.phase here.open.follow (split text Employer all).0) [
    | inl a ↦ rw a at e
    | inr t ↦ rw t at e
  ]
  quarter_by_lem Employee text all e = rw (fits_by Employee text all).0 at e
  quarter_by_lem Total text all e = rw (fits_by Total text all) at e
  quarter_by_lem Final text all e = rw (place_of_F here.phase here.open.follow (split text Final all).0) at e
  quarter_by_lem Unknown text all e = e

  pub ids_by : (kind : Kind) (text : List ℕ) (ids used : ℕ) → here.ids_full ≡ leb ids used → AllFine (text_edits here seen text kind)
      → ids_unfit ids used (stands EOpen here.phase) ≡ false → ids_unfit ids (used_after (said_by kind text) used) (stands EOpen (phase_after (said_by kind text) here.phase)) ≡ false
  ids_by Transmitter text ids used full all e = refl
  ids_by Employer text ids used full all e = le-ltb ids 0 (omega arith)
  ids_by Employee text ids used full all e =
      let place = fits_by Employee text all in
      let fit : used ≤ ids = ltb-false ids used (rw place.0 at e) in
      one_more ids used (value_in text 2 10) (eqb (value_in text 2 10) 0) refl fit (rw full at place.3)
  ids_by Total text ids used full all e = refl
  ids_by Final text ids used full all e = refl
  ids_by Unknown text ids used full all e = ids_none ids (stands EOpen here.phase)
