-- Laws: nothing is refused exactly if no reason to refuse is there, and the slice is the record exactly then.
use Rattle.std.specs.Prelude.{ℕ, Bool, true, false, List, ◌≡◌, refl, eqb, length, Result, Ok, Err, ⊤}
use Rattle.std.proofs.Common.{sym, ap, ◌∙◌, arith, eqb-true, eq-eqb, ne_eqb}
use Rattle.reason.specs.ReasonNumbers.{Notice, notice}
use Rattle.reason.specs.Once.{never_zero}
use Rattle.reason.specs.declared.Refusal.{Refusal}
use Rattle.tables.specs.Room.{Room}
use Rattle.state.specs.Unfit.{unfit}
use Rattle.state.specs.UnfitLaws.{fit_without}
use Rattle.state.specs.Walks.{Walk}
use Rattle.step.specs.Moves.{all_well}
use Rattle.write.specs.Writing.{no_tables, refusal_of, writing, notice_in, written_by}

-- No reason to refuse is there.
pub record Free (unfitness long next none large : Bool) : Type 0 where
  pub fit : unfitness ≡ false
  pub is_long : long ≡ true
  pub in_place : next ≡ true
  pub some : none ≡ false
  pub small : large ≡ false

-- 72 comes first of all.
pub unfit_first : (long next none large : Bool) → refusal_of true long next none large ≡ 72
unfolding refusal_of
unfit_first long next none large = refl

pub not_refused : (unfitness long next none large : Bool) → refusal_of unfitness long next none large ≡ 0 → Free unfitness long next none large
unfolding refusal_of
not_refused true long next none large e = absurd (omega arith)
not_refused false false next none large e = absurd (omega arith)
not_refused false true false none large e = absurd (omega arith)
not_refused false true true true large e = absurd (omega arith)
not_refused false true true false true e = absurd (omega arith)
not_refused false true true false false e = record { fit = refl; is_long = refl; in_place = refl; some = refl; small = refl }

pub free_written : (unfitness long next none large : Bool) → Free unfitness long next none large → refusal_of unfitness long next none large ≡ 0
unfolding refusal_of
free_written unfitness long next none large free = rw (free.fit, free.is_long, free.in_place, free.some, free.small)

-- The number of the answer is 0 where the record is written, and only there.
module _ (number : ℕ) (wrote : Result ⊤ Refusal) (says : notice_in wrote ≡ notice number 0 0) where
  written_zero : wrote ≡ Ok tt → number ≡ 0
  written_zero e = sym (ap (λ (n : Notice). n.number) (ap notice_in (sym e) ∙ says))

  refused_number : (why : Refusal) → wrote ≡ Err why → number ≡ 0 → ⊥
  refused_number why e zero = never_zero why.reason (ap (λ (n : Notice). n.number) (ap notice_in (sym e) ∙ says) ∙ zero)

  -- So the slice is the record there, and as it was elsewhere.
  module _ (line out : List ℕ) where
    pub writes : wrote ≡ Ok tt → written_by wrote line ≡ writing number line out
    writes e = rw (says, written_zero e)

    pub leaves : (why : Refusal) → wrote ≡ Err why → written_by wrote out ≡ writing number line out
    leaves why e = rw (says, ne_eqb number 0 (refused_number why e))

-- A slice that is written has the record's length.
pub written_length : (n : ℕ) (unfitness : Bool) (size : ℕ) (next none large : Bool) (wrote : Result ⊤ Refusal)
    → notice_in wrote ≡ notice (refusal_of unfitness (eqb size n) next none large) 0 0 → wrote ≡ Ok tt → size ≡ n
written_length n unfitness size next none large wrote says e =
    let long = eqb size n in
    eqb-true size n (not_refused unfitness long next none large (written_zero (refusal_of unfitness long next none large) wrote says e)).is_long

-- What is not refused is written.
pub written_is : (number : ℕ) (line out : List ℕ) → notice number 0 0 ≡ all_well → writing number line out ≡ record { says = all_well; out = line }
written_is number line out says = let zero : number ≡ 0 = ap (λ (n : Notice). n.number) says in rw zero

-- Nor is a writing into a slice of its length, where the walk is fit and the record may be written.
pub allowed : (n : ℕ) (walk : Walk) (room : Room) → unfit room walk ≡ false → (next none large : Bool) → next ≡ true → none ≡ false → large ≡ false
    → (out : List ℕ) → length out ≡ n → notice (refusal_of (unfit (no_tables walk) walk) (eqb (length out) n) next none large) 0 0 ≡ all_well
allowed n walk room fit next none large in_place some small out long =
    ap (λ (number : ℕ). notice number 0 0)
    (free_written (unfit (no_tables walk) walk) (eqb (length out) n) next none large
    (record { fit = fit_without room walk fit; is_long = eq-eqb (length out) n long; in_place = in_place; some = some; small = small }))
