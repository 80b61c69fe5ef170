-- Laws: the edits of fields in two lines that are the same in the columns that these edits look at, and in two contexts that are the same but for the sums.
use Prim.Native.Nat.{ℕ, zero, suc, ◌+◌, ◌-◌, ◌<◌, ◌≤◌}
use Rattle.std.specs.Prelude.{Bool, ◌&&◌, List, ◌∷◌, ◌++◌, ◌≡◌, T, length, get_or, if◌then◌else◌}
use Rattle.std.proofs.Math.Bool.{true, false}
use Rattle.std.proofs.lemmas.Bool.{false≢true}
use Rattle.std.proofs.Math.Path.{refl, ap}
use Rattle.std.proofs.Common.{sym, ap₂, ◌∙◌, arith}
use Rattle.std.proofs.Math.Dec.{eqb}
use borrow.Author.Tests.{eqb-true, eqb-false}
use Rattle.laws.specs.ChoiceLaws.{both_hold}
use Rattle.laws.specs.Table.{every, at}
use Rattle.chars.specs.Agree.{Agree, every_alike}
use Rattle.chars.specs.Columns.{width_of}
use Rattle.chars.specs.declared.columns.Allowed.TheVariants.{Blanks, Digits, OfNames}
use Rattle.number.specs.LetterLaws.{letters_alike}
use Rattle.number.specs.NumberLaws.{number_alike, value_alike}
use Rattle.number.specs.Numbers.{value_in}
use Rattle.rules.specs.RuleLaws.{period_alike, flag_alike}
use Rattle.text.specs.TextLaws.{pattern_alike, blank_alike, indented_alike, region_alike, zip_alike, extension_alike}
use Rattle.text.specs.Address.{region_in}
use Rattle.field.specs.declared.class.Class.{Class}
use Rattle.field.specs.declared.class.Class.TheVariants.{Ignored, RecordLetter, BlankSpace, Numeric, AccountNumber, Flag, ThirdQuarterFlag, Period, RequiredText, OptionalText, PersonName, EntityCode, StateCode, ZipCode, ZipExtension, TaxYear, EmployerFein, IdentityNumber, CeaseDate, More}
use Rattle.field.specs.declared.class.Further.{Further}
use Rattle.field.specs.declared.class.Further.TheVariants.{SocialSecurity, MaineCode, Licence, Difference}
use Rattle.edits.specs.Counted.{without_sums}
use Rattle.edits.specs.Edit.{Edit, first_broken}
use Rattle.edits.specs.EditLaws.{first_append}
use Rattle.edits.specs.FieldEdits.{edits_of, field_edits}
use Rattle.edits.specs.FieldEditLaws.{fields_cons, rows_same}
use Rattle.edits.specs.FieldRow.{row, no_row, class_in, first_in, last_in}
use Rattle.edits.specs.Further.{further_own, further_edits, is_negative, digits_from}
use Rattle.edits.specs.Looks.{holds_from, holds, holds_some, further_held, own_held, further_rule_held, rule_held, row_held, further_no_sum, reads_no_sum}
use Rattle.edits.specs.Own.{own}
use Rattle.edits.specs.declared.Around.{Around}
use Rattle.edits.specs.WithContext.{rule_edits, with_context}
use Rattle.edits.specs.declared.Context.{Context}
use Rattle.edits.specs.declared.FurtherLandmarks.{FurtherLandmarks}
use Rattle.edits.specs.declared.FurtherRule.{FurtherRule}
use Rattle.edits.specs.declared.FurtherRule.TheVariants.{YearHeld, QuarterOfE, ListRoom, AccountOfE, QuarterEnd, SecondOfS}
use Rattle.edits.specs.declared.Landmarks.{Landmarks}
use Rattle.edits.specs.declared.Rule.{Rule}
use Rattle.edits.specs.declared.Rule.TheVariants.{Nothing, YearInTime, QuarterInTime, YearOfA, PeriodOfA, FeinNew, FeinOfE, DateInQuarter, IdentityNew, CountOfS, WagesOfS, FileCountOfS, FileCountOfE, FileWagesOfS, FinalIfCurrent, More as MoreRules}
use Rattle.edits.specs.declared.Seen.{Seen}
use Rattle.field.specs.declared.class.Field.{Field}

-- The same characters in every column that is shown.
abbrev pub SameIn : (ℕ → Bool) → List ℕ → List ℕ → Type 0
SameIn shown u v = (at : ℕ) → shown (at + 1) ≡ true → get_or u at 0 ≡ get_or v at 0

module _ (shown : ℕ → Bool) where
  held_at : (n from k : ℕ) → holds_from shown from n ≡ true → from ≤ k → k < from + n → shown (k + 1) ≡ true
  unfolding holds_from
  held_at zero from k e low high = absurd (omega arith)
  held_at (suc n) from k e low high =
      let both = both_hold (shown (from + 1)) (holds_from shown (from + 1) n) e in
      by (eqb k from) refl both.0 (λ later. held_at n (from + 1) k both.1 later (omega arith)) where
        by : (here : Bool) → eqb k from ≡ here → shown (from + 1) ≡ true → (from + 1 ≤ k → shown (k + 1) ≡ true) → shown (k + 1) ≡ true
        by true p first later = ap (λ (c : ℕ). shown (c + 1)) (eqb-true k from p) ∙ first
        by false p first later = later (let not_here = eqb-false k from p in omega arith)

module _ (shown : ℕ → Bool) (u v : List ℕ) (same : SameIn shown u v) where
  pub agree : (first last : ℕ) → holds shown first last ≡ true → Agree u v first last
  agree first last e k low high = same k (held_at shown (width_of first last) (first - 1) k e low (omega arith))

  first_same : (first : ℕ) → holds_some shown first 1 ≡ true → get_or u (first - 1) 0 ≡ get_or v (first - 1) 0
  first_same first e = agree first (first - 1 + 1) e (first - 1) (omega arith) (omega arith)

  -- ---- the own edits of a class
  -- A field without its sign.
  behind_sign : (negative : Bool) (first last : ℕ) → Agree u v first last → Agree u v (if negative then first + 1 else first) last
  behind_sign true first last here k low high = here k (omega arith) high
  behind_sign false first last here k low high = here k low high

  further_alike : (marks : FurtherLandmarks) (class : Further) (first last : ℕ) → further_held shown marks class first last ≡ true
      → further_own marks class u first last ≡ further_own marks class v first last
  further_alike marks SocialSecurity first last e =
      rw (every_alike Digits u v first last (agree first last e), value_alike u v first last (agree first last e))
  further_alike marks MaineCode first last e =
      rw (every_alike Digits u v first last (agree first last e), value_alike u v first last (agree first last e))
  further_alike marks Licence first last e =
      let named = both_hold _ _ e in
      let text = both_hold _ _ named.1 in
      rw (value_alike u v marks.licensed_first marks.licensed_last (agree _ _ named.0), blank_alike u v first last (agree first last text.0), indented_alike u v first (agree _ _ text.1))
  further_alike marks Difference first last e =
      let parts = both_hold _ _ e in
      let here = both_hold _ _ parts.0 in
      let others = both_hold _ _ parts.1 in
      let sign : is_negative u first last ≡ is_negative v first last = rw (first_same first here.1) in
      let digits = behind_sign (is_negative v first last) first last (agree first last here.0) in
      let from = digits_from v first last in
      rw (sign, every_alike Digits u v from last digits, value_alike u v from last digits, number_alike u v marks.whole_first marks.whole_last (agree _ _ others.0), value_alike u v marks.part_first marks.part_last (agree _ _ others.1))

  pub own_alike : (landmarks : Landmarks) (code : List ℕ) (class : Class) (first last : ℕ) → own_held shown landmarks code class first last ≡ true
      → own landmarks code class u first last ≡ own landmarks code class v first last
  own_alike landmarks code Ignored first last e = refl
  own_alike landmarks code RecordLetter first last e = refl
  own_alike landmarks code BlankSpace first last e = rw (every_alike Blanks u v first last (agree first last e))
  own_alike landmarks code Numeric first last e = rw (every_alike Digits u v first last (agree first last e))
  own_alike landmarks code AccountNumber first last e =
      rw (blank_alike u v first last (agree first last e), every_alike Digits u v first last (agree first last e))
  own_alike landmarks code Flag first last e = rw (flag_alike u v first (agree first first e))
  own_alike landmarks code ThirdQuarterFlag first last e =
      let both = both_hold _ _ e in
      rw (value_alike u v landmarks.period_first landmarks.period_last (agree _ _ both.0), flag_alike u v first (agree first first both.1))
  own_alike landmarks code Period first last e = rw (period_alike u v first last (agree first last e))
  own_alike landmarks code RequiredText first last e =
      let both = both_hold _ _ e in
      rw (blank_alike u v first last (agree first last both.0), indented_alike u v first (agree _ _ both.1))
  own_alike landmarks code OptionalText first last e =
      let both = both_hold _ _ e in
      rw (blank_alike u v first last (agree first last both.0), indented_alike u v first (agree _ _ both.1))
  own_alike landmarks code PersonName first last e =
      let both = both_hold _ _ e in
      rw (blank_alike u v first last (agree first last both.0), indented_alike u v first (agree _ _ both.1), every_alike OfNames u v first last (agree first last both.0))
  own_alike landmarks code EntityCode first last e = rw (pattern_alike code u v first (agree _ _ e))
  own_alike landmarks code StateCode first last e = rw (region_alike u v first (agree _ _ e))
  own_alike landmarks code ZipCode first last e =
      let both = both_hold _ _ e in
      rw (region_alike u v landmarks.state (agree _ _ both.0), zip_alike (region_in v landmarks.state) u v first (agree _ _ both.1))
  own_alike landmarks code ZipExtension first last e =
      let both = both_hold _ _ e in
      rw (region_alike u v landmarks.state (agree _ _ both.0), extension_alike (region_in v landmarks.state) u v first (agree _ _ both.1))
  own_alike landmarks code TaxYear first last e =
      rw (every_alike Digits u v first last (agree first last e), value_alike u v first last (agree first last e))
  own_alike landmarks code EmployerFein first last e =
      rw (every_alike Digits u v first last (agree first last e), value_alike u v first last (agree first last e))
  own_alike landmarks code IdentityNumber first last e =
      rw (every_alike Digits u v first last (agree first last e), value_alike u v first last (agree first last e))
  own_alike landmarks code CeaseDate first last e =
      let both = both_hold _ _ e in
      rw (value_alike u v landmarks.final_flag landmarks.final_flag (agree _ _ both.0), every_alike Digits u v first last (agree first last both.1), value_alike u v first last (agree first last both.1))
  own_alike landmarks code (More class) first last e = further_alike landmarks.further class first last e

  -- ---- the edits of a rule
  module _ (here : Context) (seen : Seen) where
    further_rule_alike : (marks : FurtherLandmarks) (which : FurtherRule) (first last : ℕ) → further_rule_held shown marks which first last ≡ true
        → further_edits which marks here u first (value_in u first last) ≡ further_edits which marks here v first (value_in v first last)
    further_rule_alike marks YearHeld first last e = rw (value_alike u v first last (agree first last e))
    further_rule_alike marks QuarterOfE first last e = rw (value_alike u v first last (agree first last e))
    further_rule_alike marks ListRoom first last e = refl
    further_rule_alike marks AccountOfE first last e =
        let both = both_hold _ _ e in
        rw (letters_alike u v first marks.head_last (agree _ _ both.0), letters_alike u v marks.tail_first marks.tail_last (agree _ _ both.1))
    further_rule_alike marks QuarterEnd first last e = rw (value_alike u v first last (agree first last e))
    further_rule_alike marks SecondOfS first last e = rw (value_alike u v first last (agree first last e))

    pub rule_alike : (landmarks : Landmarks) (which : Rule) (first last : ℕ) → rule_held shown landmarks which first last ≡ true
        → with_context which landmarks here seen u first last ≡ with_context which landmarks here seen v first last
    rule_alike landmarks Nothing first last e = refl
    rule_alike landmarks YearInTime first last e = rw (value_alike u v first last (agree first last e))
    rule_alike landmarks QuarterInTime first last e =
        let both = both_hold _ _ e in
        rw (value_alike u v landmarks.year_first landmarks.year_last (agree _ _ both.0), value_alike u v landmarks.period_first landmarks.period_last (agree _ _ both.1))
    rule_alike landmarks YearOfA first last e = rw (value_alike u v first last (agree first last e))
    rule_alike landmarks PeriodOfA first last e = rw (value_alike u v first last (agree first last e))
    rule_alike landmarks FeinNew first last e = refl
    rule_alike landmarks FeinOfE first last e = rw (value_alike u v first last (agree first last e))
    rule_alike landmarks DateInQuarter first last e =
        let both = both_hold _ _ e in
        rw (value_alike u v landmarks.final_flag landmarks.final_flag (agree _ _ both.0), value_alike u v first last (agree first last both.1))
    rule_alike landmarks IdentityNew first last e = rw (value_alike u v first last (agree first last e))
    rule_alike landmarks CountOfS first last e = rw (value_alike u v first last (agree first last e))
    rule_alike landmarks WagesOfS first last e = rw (value_alike u v first last (agree first last e))
    rule_alike landmarks FileCountOfS first last e = rw (value_alike u v first last (agree first last e))
    rule_alike landmarks FileCountOfE first last e = rw (value_alike u v first last (agree first last e))
    rule_alike landmarks FileWagesOfS first last e = rw (value_alike u v first last (agree first last e))
    rule_alike landmarks FinalIfCurrent first last e = rw (value_alike u v first last (agree first last e))
    rule_alike landmarks (MoreRules which) first last e = further_rule_alike landmarks.further which first last e

  -- ---- the fields of a record, by one computed test
  pub rows_alike : (a : Around) (rows : List Field) (rules : List Rule) → T (every (row_held shown a.landmarks a.code rules) no_row 0 rows)
      → field_edits a u rows rules ≡ field_edits a v rows rules
  rows_alike a rows rules test = rows_same a a u v rows rules each where
    each : (k : ℕ) → k < length rows → edits_of a u (get_or rows k no_row) (get_or rules k Nothing) ≡ edits_of a v (get_or rows k no_row) (get_or rules k Nothing)
    each k h =
        let row = get_or rows k no_row in
        let held : row_held shown a.landmarks a.code rules k row ≡ true = at (row_held shown a.landmarks a.code rules) no_row rows test k h in
        let both = both_hold _ _ held in
        ap₂ ◌++◌ (own_alike a.landmarks a.code (class_in row) (first_in row) (last_in row) both.0)
        (rule_alike a.here a.seen a.landmarks (get_or rules k Nothing) (first_in row) (last_in row) both.1)

-- ---- a rule in two contexts
further_rule_context : (which : FurtherRule) → further_no_sum which ≡ true → (here : Context) (marks : FurtherLandmarks) (text : List ℕ) (first v : ℕ)
    → further_edits which marks here text first v ≡ further_edits which marks (without_sums here) text first v
further_rule_context YearHeld e here marks text first v = refl
further_rule_context QuarterOfE e here marks text first v = refl
further_rule_context ListRoom e here marks text first v = refl
further_rule_context AccountOfE e here marks text first v = refl
further_rule_context QuarterEnd e here marks text first v = refl
further_rule_context SecondOfS e here marks text first v = absurd (false≢true e)

-- A rule that reads no sum says the same where the sums are left out, and asks nothing of the employer list.
no_sum_read : (which : Rule) → reads_no_sum which ≡ true → (here : Context) (seen : Seen) (landmarks : Landmarks) (text : List ℕ) (first v : ℕ)
    → rule_edits which landmarks here seen text first v ≡ rule_edits which landmarks (without_sums here) (record { fein = false; id = seen.id }) text first v
no_sum_read Nothing e here seen landmarks text first v = refl
no_sum_read YearInTime e here seen landmarks text first v = refl
no_sum_read QuarterInTime e here seen landmarks text first v = refl
no_sum_read YearOfA e here seen landmarks text first v = refl
no_sum_read PeriodOfA e here seen landmarks text first v = refl
no_sum_read FeinNew e here seen landmarks text first v = absurd (false≢true e)
no_sum_read FeinOfE e here seen landmarks text first v = refl
no_sum_read DateInQuarter e here seen landmarks text first v = refl
no_sum_read IdentityNew e here seen landmarks text first v = refl
no_sum_read CountOfS e here seen landmarks text first v = refl
no_sum_read WagesOfS e here seen landmarks text first v = absurd (false≢true e)
no_sum_read FileCountOfS e here seen landmarks text first v = refl
no_sum_read FileCountOfE e here seen landmarks text first v = refl
no_sum_read FileWagesOfS e here seen landmarks text first v = absurd (false≢true e)
no_sum_read FinalIfCurrent e here seen landmarks text first v = refl
no_sum_read (MoreRules which) e here seen landmarks text first v = further_rule_context which e here landmarks.further text first v

pub rule_in_contexts : (which : Rule) → reads_no_sum which ≡ true → (here here' : Context) (seen seen' : Seen) → without_sums here ≡ without_sums here' → seen.id ≡ seen'.id
    → (landmarks : Landmarks) (text : List ℕ) (first v : ℕ)
    → rule_edits which landmarks here seen text first v ≡ rule_edits which landmarks here' seen' text first v
rule_in_contexts which e here here' seen seen' same asked landmarks text first v =
    no_sum_read which e here seen landmarks text first v
    ∙ ap₂ (λ (c : Context) (id : Bool). rule_edits which landmarks c (record { fein = false; id = id }) text first v) same asked
    ∙ sym (no_sum_read which e here' seen' landmarks text first v)

-- The fields of a record, none of whose rules reads a sum.
abbrev pub row_no_sum : List Rule → ℕ → Field → Bool
row_no_sum rules k row = reads_no_sum (get_or rules k Nothing)

module _ (landmarks : Landmarks) (code : List ℕ) (here here' : Context) (same : without_sums here ≡ without_sums here') (seen seen' : Seen) (asked : seen.id ≡ seen'.id) where
  abbrev one : Around
  one = record { landmarks = landmarks; code = code; here = here; seen = seen }

  abbrev other : Around
  other = record { landmarks = landmarks; code = code; here = here'; seen = seen' }

  pub rows_in_contexts : (text : List ℕ) (rows : List Field) (rules : List Rule) → T (every (row_no_sum rules) no_row 0 rows)
      → field_edits one text rows rules ≡ field_edits other text rows rules
  rows_in_contexts text rows rules test = rows_same one other text text rows rules (λ k h.
      let row = get_or rows k no_row in
      ap (λ (context : List Edit). own landmarks code (class_in row) text (first_in row) (last_in row) ++ context)
      (rule_in_contexts (get_or rules k Nothing) (at (row_no_sum rules) no_row rows test k h) here here' seen seen' same asked landmarks text (first_in row) (value_in text (first_in row) (last_in row))))

  -- ---- two records that are the same in the columns that are shown, field after field
  module _ (u v : List ℕ) where
    -- A field whose edits find the same in both,
    pub next_alike : (class : Class) (which : Rule) (first last : ℕ) (rows : List Field) (rules : List Rule)
        → first_broken (own landmarks code class u first last) ≡ first_broken (own landmarks code class v first last)
        → first_broken (with_context which landmarks here seen u first last) ≡ first_broken (with_context which landmarks here' seen' v first last)
        → first_broken (field_edits one u rows rules) ≡ first_broken (field_edits other v rows rules)
        → first_broken (field_edits one u (row class first last ∷ rows) (which ∷ rules))
        ≡ first_broken (field_edits other v (row class first last ∷ rows) (which ∷ rules))
    next_alike class which first last rows rules p q rest = simp (fields_cons, first_append, p, q, rest)

    -- and one whose edits look at columns that are shown, by a computed test.
    pub next_shown : (shown : ℕ → Bool) → SameIn shown u v → (class : Class) (which : Rule) (first last : ℕ) (rows : List Field) (rules : List Rule)
        → own_held shown landmarks code class first last && (rule_held shown landmarks which first last && reads_no_sum which) ≡ true
        → first_broken (field_edits one u rows rules) ≡ first_broken (field_edits other v rows rules)
        → first_broken (field_edits one u (row class first last ∷ rows) (which ∷ rules))
        ≡ first_broken (field_edits other v (row class first last ∷ rows) (which ∷ rules))
    next_shown shown shows class which first last rows rules e =
        let own_held = both_hold _ _ e in
        let held = both_hold _ _ own_held.1 in
        let ruled =
        rule_alike shown u v shows here seen landmarks which first last held.0
        ∙ rule_in_contexts which held.1 here here' seen seen' same asked landmarks v first (value_in v first last) in
        next_alike class which first last rows rules (ap first_broken (own_alike shown u v shows landmarks code class first last own_held.0)) (ap first_broken ruled)
