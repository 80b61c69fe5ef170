-- Laws: that the second file holds permitted characters in the employee's columns is needed: with a line end there it is cut into other lines.
-- A computed example has to open the definitions that it computes with, those of crates below it too. Nothing rests on it.
use Rattle.std.specs.Prelude.{ℕ, zero, suc, true, false, List, ◌∷◌, ◌≡◌, refl, get_or, replicate}
use Rattle.std.proofs.lemmas.Bool.{false≢true}
use Rattle.std.proofs.Common.{sym, ap, ◌∙◌, arith}
use Rattle.lines.specs.HiddenPlaces.{hidden_in, hidden, EqualBut}
use Rattle.lines.specs.Lines.{is_end, text_of, end_of, lines_from, joined}
use Rattle.chars.specs.Characters.{capital_of, capitals}
use Rattle.shape.specs.Hidden.{is_of_employee, blot_from}
use Rattle.pfml.specs.Format.{pfml_shape}
use Rattle.pfml.specs.Kinds.{kind_of}
use Rattle.alike.specs.Alike.{blotted}

-- An S record, with a letter or with LF in column 2.
abbrev starts_with : ℕ → List ℕ
starts_with c = 83 ∷ c ∷ replicate 288 65

abbrev pub one : List ℕ
one = starts_with 65

abbrev pub other : List ℕ
other = starts_with 10

-- Column 2 is the employee's.
hidden_there : hidden (is_of_employee pfml_shape) one 1 ≡ true
unfolding hidden_in lines_from text_of end_of is_end kind_of capitals capital_of
hidden_there = refl

-- They are equal elsewhere,
pub equal_elsewhere : EqualBut (is_of_employee pfml_shape) (λ (c : ℕ). true) one other
equal_elsewhere = record { long = refl; elsewhere = at_each; there = λ at e. refl } where
  at_each : (at : ℕ) → hidden (is_of_employee pfml_shape) one at ≡ false → get_or one at 0 ≡ get_or other at 0
  at_each zero e = refl
  at_each (suc zero) e = absurd (false≢true (sym e ∙ hidden_there))
  at_each (suc (suc at)) e = refl

-- and not blotted: the other has no S record, so that its third byte is left.
pub blotted_differs : blotted pfml_shape one ≡ blotted pfml_shape other → ⊥
unfolding lines_from text_of end_of is_end joined blot_from kind_of capitals capital_of
blotted_differs same = let z : ◌≡◌ {A = ℕ} 32 65 = ap (λ (file : List ℕ). get_or file 2 0) same in omega arith
