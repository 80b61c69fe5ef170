-- Laws: what is due, T 123-136: its edits are not broken exactly if its parts stand in the line, or a hyphen before thirteen zeros.
use Rattle.std.specs.Prelude.{ℕ, ◌+◌, ◌-◌, Bool, ◌⊎◌, ◌≡◌, if◌then◌else◌}
use Rattle.std.proofs.Math.Bool.{true, false}
use mathlib.Core.List.{List, [], ◌∷◌}
use Rattle.std.proofs.Math.Logic.{inl, inr}
use Rattle.std.proofs.Math.Path.{refl}
use native.Mathlib.Omega.{arith}
use Rattle.std.proofs.Math.Dec.{eqb, leb}
use Rattle.std.proofs.Math.ListN.{get_or}
use borrow.Author.Tests.{eqb-true, eqb-false, eq-eqb, ne_eqb, leb-true, leb-false, le-leb, lt-leb}
use Rattle.laws.specs.Finding.{fine, value}
use Rattle.laws.specs.Spelling.{bytes}
use Rattle.chars.specs.ColumnLaws.{unless_fine}
use Rattle.chars.specs.Columns.{every_column, unless}
use Rattle.chars.specs.declared.columns.Allowed.TheVariants.{Digits}
use Rattle.number.specs.NumberColumnLaws.{reads_value, value_reads, number_digits}
use Rattle.number.specs.Numbers.{number_in, value_in}
use Rattle.edits.specs.Further.{is_negative, digits_from, is_difference}
use Rattle.wham.specs.Sums.{is_due_of_t}
use Rattle.wham_fields.specs.Fields.{due_of_t}
use Rattle.write.specs.PartLaws.{AllHold, Holds}
use Rattle.write.specs.Records.{text, number, text_at, number_at}
use Rattle.wham_write.specs.Records.{due_parts}

-- The two edits of the field.
abbrev pub DueFine : List ℕ → Type 0
DueFine line = (every_column Digits line (digits_from line 123 136) 136 ≡ fine) × (unless (is_due_of_t line) 123 57 ≡ fine)

-- A hyphen before thirteen zeros, where nothing is due.
pub record MinusNone (line : List ℕ) (amended payments : ℕ) : Type 0 where
  pub hyphen : get_or line 122 0 ≡ 45
  pub zeros : number_in line 124 136 ≡ value 0
  pub paid : payments ≡ amended

-- With the amended total and the payments that the line has in its other columns.
module _ (line : List ℕ) (amended payments : ℕ) (whole : number_in line 213 226 ≡ value amended) (part : value_in line 112 122 ≡ payments) where
  -- What is due by the sign and the amount that stand there.
  sign_known : (negative : Bool) → is_negative line 123 136 ≡ negative
      → is_due_of_t line ≡ is_difference negative (value_in line (if negative then 124 else 123) 136) amended payments
  sign_known negative e = rw (e, whole, part)

  pub due_fine : AllHold (due_parts amended payments) line → DueFine line
  unfolding bytes
  due_fine = at (leb payments amended) refl where
    at : (covered : Bool) → leb payments amended ≡ covered
        → AllHold (if covered then number_at due_of_t (amended - payments) ∷ [] else text_at due_of_t (bytes "-") ∷ number 124 136 (payments - amended) ∷ []) line → DueFine line
    at true e (holds, end) =
        let less = leb-true payments amended e in
        let reads = value_reads line 123 136 (omega arith) (omega arith) (amended - payments) holds in
        let digit = number_digits line 123 136 (omega arith) (omega arith) (amended - payments) holds 122 (omega arith) (omega arith) in
        let plus : is_negative line 123 136 ≡ false = ne_eqb (get_or line 122 0) 45 (λ same. omega arith) in
        (rw plus reads.0, rw (sign_known false plus, eq-eqb (payments + value_in line 123 136) amended (omega (arith, reads.1))))
    at false e (hyphen, (holds, end)) =
        let more = leb-false payments amended e in
        let reads = value_reads line 124 136 (omega arith) (omega arith) (payments - amended) holds in
        let minus : is_negative line 123 136 ≡ true = eq-eqb (get_or line 122 0) 45 (hyphen 0 (omega arith)) in
        (rw minus reads.0, rw (sign_known true minus, eq-eqb (amended + value_in line 124 136) payments (omega (arith, reads.1))))

  pub fine_due : DueFine line → AllHold (due_parts amended payments) line ⊎ MinusNone line amended payments
  unfolding bytes
  fine_due (digits, due) = at (is_negative line 123 136) refl where
    minus : get_or line 122 0 ≡ 45 → every_column Digits line 124 136 ≡ fine → (none : Bool) → eqb (value_in line 124 136) 0 ≡ none
        → amended + value_in line 124 136 ≡ payments → AllHold (due_parts amended payments) line ⊎ MinusNone line amended payments
    minus hyphen columns true none sum =
        let zero = eqb-true (value_in line 124 136) 0 none in
        inr (record { hyphen = hyphen; zeros = reads_value line 124 136 (omega arith) (omega arith) 0 columns zero; paid = omega arith })
    minus hyphen columns false some sum =
        let more = eqb-false (value_in line 124 136) 0 some in
        let front : Holds (text 123 (bytes "-")) line = λ k h. let here : k ≡ 0 = omega arith in rw here hyphen in
        inl (rw (lt-leb payments amended (omega arith))
        (front, (reads_value line 124 136 (omega arith) (omega arith) (payments - amended) columns (omega arith), tt)))

    at : (negative : Bool) → is_negative line 123 136 ≡ negative → AllHold (due_parts amended payments) line ⊎ MinusNone line amended payments
    at true e =
        minus (eqb-true (get_or line 122 0) 45 e) (rw e at digits) (eqb (value_in line 124 136) 0) refl
        (eqb-true (amended + value_in line 124 136) payments (rw (sign_known true e) at (unless_fine (is_due_of_t line) 123 57 due)))
    at false e =
        let sum = eqb-true (payments + value_in line 123 136) amended (rw (sign_known false e) at (unless_fine (is_due_of_t line) 123 57 due)) in
        inl (rw (le-leb payments amended (omega arith))
        (reads_value line 123 136 (omega arith) (omega arith) (amended - payments) (rw e at digits) (omega arith), tt))
