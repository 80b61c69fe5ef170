use mathlib.Core.Path.{◌≡◌, refl, sym, ◌∙◌}
use borrow.Author.Rules.{rules}
use Rattle.std.specs.Prelude.{Result, Ok, Err, ⊤}
use Rattle.std.specs.Result.{MatchResult, IsErrAnd}
use Rattle.laws.specs.Finding.{fine, broken}
use Rattle.reason.specs.ReasonNumbers.{finding_of, notice, notice_of, number_of}
use Rattle.reason.specs.declared.Broken.{Broken}
use Rattle.reason.specs.declared.Refusal.{Refusal}
use Rattle.build.specs.FillLaws.{padded_is}
use Rattle.build.specs.BuildLaws.{wrong_length, turned_away_lem, built}
use Rattle.build.proofs.build.Goals as goal

-- What is found is answered as it is, in no line.
abbrev IsRefusal : Broken → Refusal → Type 0
IsRefusal it refusal = notice_of refusal ≡ notice (number_of it.1) 0 it.0

abbrev Told : Result ⊤ Broken → Result ⊤ Refusal → Type 0
Told found answer = MatchResult found (λ x. answer ≡ Ok x) (λ it. IsErrAnd answer (IsRefusal it))

turned : (found : Result ⊤ Broken) (refusal : Refusal) → Told found (Err refusal)
    → (it : Broken) × (finding_of found ≡ broken it.0 (number_of it.1)) × IsRefusal it refusal
turned (Ok _) refusal told = absurd (cc)
turned (Err it) refusal told = (it, refl, told)

passed : (found : Result ⊤ Broken) → Told found (Ok tt) → finding_of found ≡ fine
passed (Ok _) told = refl
passed (Err it) told = absurd told

pub returns-then-out-ne-SIZE : goal.returns-then-out-ne-SIZE
returns-then-out-ne-SIZE c =
    let a = c.args in
    wrong_length a.letter a.values.now a.texts.now a.out.now (Err c.refusal_of.result) c.if-out-ne-SIZE.true c.refusal_of.ensures

pub returns-in_err-map_err : goal.returns-in_err-map_err
returns-in_err-map_err c =
    let a = c.args in
    let is = turned c.first_broken.result _ c.in_err-map_err.ensures.cases in
    turned_away_lem a.letter a.values.now a.texts.now a.out.now c.if-out-ne-SIZE.false _ (c.put_fields.ensures ∙ sym (padded_is _)) _ c.first_broken.ensures
    _ _ _ is.1 (search (rules, is.2))

pub returns : goal.returns
returns c =
    let a = c.args in
    built a.letter a.values.now a.texts.now a.out.now c.if-out-ne-SIZE.false _ (c.put_fields.ensures ∙ sym (padded_is _)) _ c.first_broken.ensures
    _ (passed c.first_broken.result c.in_ok-map_err.ensures.cases) c.put_text.ensures
