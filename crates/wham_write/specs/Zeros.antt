-- Laws: a field that reads as 0 has a zero in each column; so a hyphen before thirteen zeros, and fourteen zeros, stand in T 123-136.
use Prim.Native.Nat.{ℕ, zero, suc, ◌+◌, ◌-◌, ◌≤◌, ◌<◌}
use Rattle.std.specs.Prelude.{List, ◌∷◌, ◌≡◌, refl, length, take, drop}
use Rattle.std.proofs.Math.Path.{sym}
use Rattle.std.proofs.Common.{◌∙◌, arith, length-drop, length-take-le, get_or-take, get_or-drop, ext_get_or}
use Rattle.std.proofs.Math.ListN.{get_or, replicate}
use Rattle.std.proofs.lemmas.List.{get_or-replicate}
use Rattle.laws.specs.Finding.{value}
use Rattle.laws.specs.Spelling.{bytes}
use Rattle.chars.specs.Characters.{is_digit}
use Rattle.chars.specs.Columns.{width_of}
use Rattle.number.specs.NumberColumnLaws.{same_digits}
use Rattle.number.specs.Numbers.{number_from, number_in}
use Rattle.wham_fields.specs.Fields.{due_of_t}
use Rattle.write.specs.PartLaws.{Holds}
use Rattle.write.specs.Records.{text}
use Rattle.wham_write.specs.Others.{stands_in}

-- Zeros read as 0, in the fourteen columns and in the last thirteen of them.
abbrev zeros : List ℕ
zeros = replicate 136 48

all_zeros : (number_in zeros 123 136 ≡ value 0) × (number_in zeros 124 136 ≡ value 0)
unfolding number_in number_from is_digit
all_zeros = (refl, refl)

module _ (line : List ℕ) (first : ℕ) (h : first - 1 < 136) (w : width_of first 136 ≤ 19) where
  -- Nothing else reads so.
  zero_at : number_in zeros first 136 ≡ value 0 → number_in line first 136 ≡ value 0 → (k : ℕ) → first - 1 ≤ k → k < 136 → get_or line k 0 ≡ 48
  zero_at model e k low high = same_digits line zeros first 136 h w 0 e model k low high ∙ get_or-replicate {A = ℕ} 136 k 48 0 high

-- The text that stands in a line's columns.
text_is : (line : List ℕ) (first : ℕ) (t : List ℕ) → first - 1 + length t ≤ length line → Holds (text first t) line → take (length t) (drop (first - 1) line) ≡ t
text_is line first t room holds =
    let long : length (take (length t) (drop (first - 1) line)) ≡ length t =
    length-take-le (length t) (drop (first - 1) line) (omega (arith, length-drop (first - 1) line)) in
    ext_get_or 0 (take (length t) (drop (first - 1) line)) t long
    (λ i h. get_or-take (length t) (drop (first - 1) line) i 0 (omega arith) ∙ get_or-drop (first - 1) line i 0 ∙ holds i (omega arith))

module _ (line : List ℕ) (long : length line ≡ 275) where
  pub fourteen_zeros : number_in line 123 136 ≡ value 0 → stands_in due_of_t line ≡ bytes "00000000000000"
  unfolding bytes
  fourteen_zeros e =
      text_is line 123 (bytes "00000000000000") (omega arith)
      (λ k h. zero_at line 123 (omega arith) (omega arith) all_zeros.0 e (122 + k) (omega arith) (omega arith) ∙ sym (get_or-replicate {A = ℕ} 14 k 48 0 h))

  pub minus_zeros : get_or line 122 0 ≡ 45 → number_in line 124 136 ≡ value 0 → stands_in due_of_t line ≡ bytes "-0000000000000"
  unfolding bytes
  minus_zeros hyphen e = text_is line 123 (bytes "-0000000000000") (omega arith) at where
    at : (k : ℕ) → k < 14 → get_or line (122 + k) 0 ≡ get_or (45 ∷ replicate 13 48) k 0
    at zero h = hyphen
    at (suc k) h =
        zero_at line 124 (omega arith) (omega arith) all_zeros.1 e (122 + suc k) (omega arith) (omega arith) ∙ sym (get_or-replicate {A = ℕ} 13 k 48 0 (omega arith))
