-- Laws: two files that differ and are alike: more than a file and itself meets the hypotheses of demand 3.
-- A computed example has to open the definitions that it computes with, those of crates below it too. Nothing rests on it.
use Rattle.std.specs.Prelude.{ℕ, List, [], ◌∷◌, ◌++◌, ◌≡◌, refl, get_or, take, drop}
use Prim.Native.String.{String}
use Rattle.std.proofs.Common.{ap, arith}
use Rattle.laws.specs.Spelling.{bytes}
use Rattle.lines.specs.Lines.{joined}
use Rattle.edits.specs.Edit.{first_broken}
use Rattle.calendar.specs.declared.Quarter.{Quarter}
use Rattle.edits.specs.Formats.{opening_with}
use Rattle.edits.specs.declared.format.Format.TheVariants.{Pfml}
use Rattle.pfml.specs.Format.{pfml_shape}
use Rattle.pfml.specs.PfmlLawful.{pfml_lawful}
use Rattle.shape.specs.Hidden.{blot_from}
use Rattle.tables.specs.Room.{Room}
use Rattle.meaning.specs.Meaning.{accepted, meaning}
use Rattle.cases.specs.CaseTables.{room, held, computed}
use Rattle.cases.specs.Example.{Change, reads, changed, file_of, example_lines}
use Rattle.alike.specs.Alike.{Alike}
use Rattle.alike.specs.Employee.{meaning_alike}
use Rattle.alike.specs.Hypotheses.{EqualBytes, others}
use Rattle.alike.specs.HypothesisTests.{together, is_met, met_by, all_met_by}
use Rattle.alike.specs.Ordered.{AsOrdered}
use Rattle.alike.specs.OrderedLaws.{alike_ordered, as_ordered}

-- The example with its E, S, S and T a second time, then of another employer. The first return is amended, the second final.
abbrev of_another : List Change
of_another =
    reads 2 187 "1" ∷ reads 6 282 "1" ∷ reads 6 283 "03312026" ∷ reads 6 6 "700000000" ∷ reads 7 147 "700000000" ∷ reads 8 147 "700000000" ∷ reads 9 13 "700000000" ∷
    -- F: four S records, two E records, and the wages of both
    reads 10 2 "00000000040000000002" ∷ reads 10 41 "000000000247000" ∷ []

abbrev with_employees : List Change → List ℕ
with_employees employees = file_of (changed (of_another ++ employees) (take 5 example_lines ++ drop 1 example_lines))

-- What an S record says of the employee: identity number, last name, first name and wages.
abbrev employee : ℕ → String → String → String → String → List Change
employee line id last first wages = reads line 2 id ∷ reads line 11 last ∷ reads line 31 first ∷ reads line 64 wages ∷ []

-- Jane Doe works for both employers; John Roe has applied for a number.
abbrev pub one : List ℕ
one =
    with_employees
    (employee 3 "123456789" "DOE       " "JANE" "00000000123456" ++ employee 4 "000000000" "ROE       " "JOHN" "00000000000044"
    ++ employee 7 "123456789" "DOE       " "JANE" "00000000023500" ++ employee 8 "000000000" "ROE       " "JOHN" "00000000100000")

-- Nobody works for both; the wages of each employer come to the same.
abbrev pub other : List ℕ
other =
    with_employees
    (employee 3 "345678901" "O'NEIL-ROY" "Anne" "00000000061750" ++ employee 4 "000000000" "LEE       " "KIM " "00000000061750"
    ++ employee 7 "456789012" "SMITH     " "ANN " "00000000000000" ++ employee 8 "000000000" "LEE       " "KIM " "00000000123500")

-- The first is accepted.
pub pair_accepted : meaning room held one ≡ accepted
    (record { fein = 12345678; count = 2; cents = 123500; amended = 1; final_return = 0; cease_date = 0 }
    ∷ record { fein = 700000000; count = 2; cents = 123500; amended = 0; final_return = 1; cease_date = 3312026 } ∷ [])
    (record { count = 4; employers = 2; sum = 247000; second = 0; others = 0; notes = 0 })
unfolding computed
pair_accepted = refl

-- They meet the hypotheses,
pub pair_alike : Alike pfml_shape one other
unfolding computed is_met joined first_broken blot_from
pair_alike = together one other EqualBytes (met_by EqualBytes one other refl) (all_met_by (others EqualBytes) one other refl)

-- as the order says them too,
pub pair_ordered : AsOrdered one other
pair_ordered = as_ordered one other (alike_ordered pfml_shape pfml_lawful one other pair_alike)

-- and differ: line 3 begins at byte 582, and its column 2 holds 1 in the one file and 3 in the other.
pub pair_differs : one ≡ other → ⊥
unfolding bytes
pair_differs same = let z : ◌≡◌ {A = ℕ} 49 51 = ap (λ (file : List ℕ). get_or file 583 0) same in omega arith

-- So they mean the same, and the second is accepted with the same totals: cited, not computed.
pub pair_means : (room : Room) (quarter : Quarter) → meaning room (opening_with Pfml quarter) one ≡ meaning room (opening_with Pfml quarter) other
pair_means room quarter = meaning_alike (opening_with Pfml quarter) one other pair_alike room
