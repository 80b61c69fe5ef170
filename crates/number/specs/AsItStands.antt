-- Laws: a number read from the characters as they stand: nothing becomes a digit in capitals, and no digit changes.
use Rattle.std.specs.Prelude.{ℕ, ◌+◌, ◌-◌, ◌*◌, ◌<◌, ◌≤◌, ◌≡◌, refl, Bool, true, false, List, length, get_or}
use Rattle.std.proofs.Common.{sym, ◌∙◌, arith}
use Rattle.std.proofs.Math.ListN.{get_or-eq_default}
use Rattle.laws.specs.Finding.{refused}
use Rattle.chars.specs.Characters.{capital_of, capitals, is_digit}
use Rattle.chars.specs.CharacterLaws.{capital_at, digit_range, capital_is_digit, capital_of_digit}
use Rattle.number.specs.Numbers.{number_from}
use Rattle.number.specs.NumberLaws.{number_bad, number_more}

module _ (line : List ℕ) (v at end : ℕ) (h : at < end) where
  pub stands_bad : is_digit (get_or line at 0) ≡ false → number_from (capitals line) v at (end - at) ≡ refused (at + 1) 30
  stands_bad d = number_bad (capitals line) v at end (capital_of (get_or line at 0)) (sym (capital_at line at)) h (capital_is_digit (get_or line at 0) ∙ d)

  pub stands_more : is_digit (get_or line at 0) ≡ true
      → number_from (capitals line) v at (end - at) ≡ number_from (capitals line) (v * 10 + (get_or line at 0 - 48)) (at + 1) (end - (at + 1))
  stands_more d = number_more (capitals line) v at end (get_or line at 0) (sym (capital_at line at ∙ capital_of_digit (get_or line at 0) d)) h d

  -- After the line's end there is no digit.
  pub none_stands : length line ≤ at → number_from (capitals line) v at (end - at) ≡ refused (at + 1) 30
  none_stands past = stands_bad (rw (get_or-eq_default line 0 past) (by (is_digit 0) refl))
    where
      by : (digit : Bool) → is_digit 0 ≡ digit → digit ≡ false
      by true e = let range = digit_range 0 e in absurd (omega arith)
      by false e = refl
