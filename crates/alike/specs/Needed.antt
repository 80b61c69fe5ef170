-- Laws: each hypothesis of demand 3 is needed: two files that meet all the others, but not it, can mean different things.
-- A computed example has to open the definitions that it computes with, those of crates below it too. Nothing rests on it.
use Rattle.std.specs.Prelude.{ℕ, true, List, [], ◌∷◌, ◌≡◌, refl}
use Rattle.std.proofs.Common.{sym, ◌∙◌, arith}
use Rattle.reason.specs.ReasonNumbers.{Notice, notice}
use Rattle.lines.specs.Lines.{joined}
use Rattle.edits.specs.Edit.{first_broken}
use Rattle.shape.specs.Hidden.{blot_from}
use Rattle.meaning.specs.Meaning.{refused, meaning}
use Rattle.cases.specs.CaseTables.{room, held, computed, passes}
use Rattle.cases.specs.Example.{reads, example_with}
use Rattle.alike.specs.Employee.{meaning_alike}
use Rattle.alike.specs.Hypotheses.{Hypothesis, EqualBytes, OwnRules, ZeroAlike, RepeatAlike, WagesAlike, others, Needed}
use Rattle.alike.specs.HypothesisTests.{together, is_met, are_met, all_met_by}

-- ---- the files
-- A file that is accepted, another that is not, and its refusal.
pub record TwoFiles : Type 0 where
  pub one : List ℕ
  pub other : List ℕ
  pub refusal : Notice

abbrev files : List ℕ → List ℕ → Notice → TwoFiles
files one other refusal = record { one = one; other = other; refusal = refusal }

abbrev example : List ℕ
example = example_with []

-- A refusal is told as its number, line and column; a change as its line, its column and the text there.
abbrev pub without : Hypothesis → TwoFiles
-- They differ elsewhere too: in E's FEIN.
without EqualBytes = files example (example_with (reads 2 6 "690000000" ∷ [])) (notice 44 2 6)
-- An identity number breaks its own rule.
without OwnRules = files example (example_with (reads 3 2 "666000001" ∷ [])) (notice 52 3 2)
-- The second identity number repeats the first in both, but as zero in one and as another number in the other.
without ZeroAlike =
    files (example_with (reads 3 2 "000000000" ∷ reads 4 2 "000000000" ∷ [])) (example_with (reads 4 2 "123456789" ∷ [])) (notice 53 4 2)
-- It repeats the first in one alone.
without RepeatAlike = files example (example_with (reads 4 2 "123456789" ∷ [])) (notice 53 4 2)
-- The wages come to a cent more.
without WagesAlike = files example (example_with (reads 3 64 "00000000123457" ∷ [])) (notice 57 5 27)

-- ---- what is computed of them
others_pass : (left : Hypothesis) → are_met (others left) (without left).one (without left).other ≡ true
unfolding computed is_met joined first_broken blot_from
others_pass EqualBytes = refl
others_pass OwnRules = refl
others_pass ZeroAlike = refl
others_pass RepeatAlike = refl
others_pass WagesAlike = refl

example_accepted : meaning room held example ≡ passes 12345678
unfolding computed
example_accepted = refl

zeros_accepted : meaning room held (without ZeroAlike).one ≡ passes 12345678
unfolding computed
zeros_accepted = refl

one_accepted : (left : Hypothesis) → meaning room held (without left).one ≡ passes 12345678
one_accepted EqualBytes = example_accepted
one_accepted OwnRules = example_accepted
one_accepted ZeroAlike = zeros_accepted
one_accepted RepeatAlike = example_accepted
one_accepted WagesAlike = example_accepted

other_refused : (left : Hypothesis) → meaning room held (without left).other ≡ refused (without left).refusal
unfolding computed
other_refused EqualBytes = refl
other_refused OwnRules = refl
other_refused ZeroAlike = refl
other_refused RepeatAlike = refl
other_refused WagesAlike = refl

-- ---- so each is needed
accepted_not_refused : (refusal : Notice) → passes 12345678 ≡ refused refusal → ⊥
accepted_not_refused refusal e = let z : ◌≡◌ {A = ℕ} 0 1 = cc in omega arith

means_another : (left : Hypothesis) → meaning room held (without left).one ≡ meaning room held (without left).other → ⊥
means_another left same = accepted_not_refused (without left).refusal (sym (one_accepted left) ∙ same ∙ other_refused left)

-- Two files that met this hypothesis too would mean the same, by the theorem.
pub needed : (left : Hypothesis) → Needed left
needed left =
    let one = (without left).one in
    let other = (without left).other in
    let met = all_met_by (others left) one other (others_pass left) in
    record {
      one = one;
      other = other;
      others_met = met;
      not_met = λ this. means_another left (meaning_alike held one other (together one other left this met) room);
      differs = means_another left;
    }
