-- Definitions: the hypotheses of demand 3 one by one, for the paid leave file, and what it means that one is needed.
use Rattle.std.specs.Prelude.{ℕ, List, [], ◌∷◌, map, ◌≡◌}
use Rattle.lines.specs.Lines.{lines_of}
use Rattle.pfml.specs.Format.{pfml_shape}
use Rattle.meaning.specs.Meaning.{meaning}
use Rattle.cases.specs.CaseTables.{room, held}
use Rattle.alike.specs.Alike.{blotted, employees, employers, AllMeet, is_zero, repeats, wages_of}

-- "hold only permitted characters" is none of them: fields that meet their own rules do (`meets_own`).
pub data Hypothesis : Type 0 where
  EqualBytes OwnRules ZeroAlike RepeatAlike WagesAlike : Hypothesis

abbrev pub Met : Hypothesis → List ℕ → List ℕ → Type 0
Met EqualBytes one other = blotted pfml_shape one ≡ blotted pfml_shape other
Met OwnRules one other = AllMeet pfml_shape (employees pfml_shape (lines_of one)) × AllMeet pfml_shape (employees pfml_shape (lines_of other))
Met ZeroAlike one other = map (is_zero pfml_shape) (employees pfml_shape (lines_of one)) ≡ map (is_zero pfml_shape) (employees pfml_shape (lines_of other))
Met RepeatAlike one other = map (repeats pfml_shape) (employers pfml_shape (lines_of one)) ≡ map (repeats pfml_shape) (employers pfml_shape (lines_of other))
Met WagesAlike one other = map (wages_of pfml_shape) (employers pfml_shape (lines_of one)) ≡ map (wages_of pfml_shape) (employers pfml_shape (lines_of other))

abbrev pub AllMet : List Hypothesis → List ℕ → List ℕ → Type 0
AllMet [] one other = Unit {0}
AllMet (h ∷ hs) one other = Met h one other × AllMet hs one other

-- All but one.
abbrev pub others : Hypothesis → List Hypothesis
others EqualBytes = OwnRules ∷ ZeroAlike ∷ RepeatAlike ∷ WagesAlike ∷ []
others OwnRules = EqualBytes ∷ ZeroAlike ∷ RepeatAlike ∷ WagesAlike ∷ []
others ZeroAlike = EqualBytes ∷ OwnRules ∷ RepeatAlike ∷ WagesAlike ∷ []
others RepeatAlike = EqualBytes ∷ OwnRules ∷ ZeroAlike ∷ WagesAlike ∷ []
others WagesAlike = EqualBytes ∷ OwnRules ∷ ZeroAlike ∷ RepeatAlike ∷ []

-- This one is needed: two files meet all the others, but not it, and mean different things.
pub record Needed (left : Hypothesis) : Type 0 where
  pub one : List ℕ
  pub other : List ℕ
  pub others_met : AllMet (others left) one other
  pub not_met : Met left one other → ⊥
  pub differs : meaning room held one ≡ meaning room held other → ⊥
