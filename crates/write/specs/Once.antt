-- Laws: the paper's numbers lose nothing of an answer: no second answer, and no second content of the slice, fits a promise.
use Rattle.std.specs.Prelude.{ℕ, List, ◌≡◌, refl, Result, Ok, Err, ⊤}
use Rattle.std.proofs.Common.{sym, ap}
use Rattle.reason.specs.ReasonNumbers.{Notice}
use Rattle.reason.specs.Once.{never_zero, same_notice}
use Rattle.write.specs.Writing.{Writing, notice_in, written_by}
use Rattle.reason.specs.declared.Refusal.{Refusal}

same_answer : (a b : Result ⊤ Refusal) → notice_in a ≡ notice_in b → a ≡ b
same_answer (Ok _) (Ok _) e = refl
same_answer (Ok _) (Err s) e = absurd (never_zero s.reason (sym (ap (λ (n : Notice). n.number) e)))
same_answer (Err r) (Ok _) e = absurd (never_zero r.reason (ap (λ (n : Notice). n.number) e))
same_answer (Err r) (Err s) e = ap Err (same_notice r s e)

pub same_wrote : (a b : Result ⊤ Refusal) (out other : List ℕ) → written_by a out ≡ written_by b other → (a ≡ b) × (out ≡ other)
same_wrote a b out other e = (same_answer a b (ap (λ (w : Writing). w.says) e), ap (λ (w : Writing). w.out) e)
