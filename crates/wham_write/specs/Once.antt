-- Laws: the promises of `write_t` and `write_f` fix answer and slice: no second answer, and no second content, fits one of them.
use Rattle.std.specs.Prelude.{List, ◌≡◌, ℕ, Result, ⊤}
use Rattle.std.proofs.Common.{sym, ◌∙◌}
use Rattle.write.specs.Once.{same_wrote}
use Rattle.write.specs.Writing.{Writing, written_by}
use Rattle.reason.specs.declared.Refusal.{Refusal}

pub written_once : (promised : Writing) (a b : Result ⊤ Refusal) (out other : List ℕ) → written_by a out ≡ promised → written_by b other ≡ promised → (a ≡ b) × (out ≡ other)
written_once promised a b out other ours theirs = same_wrote a b out other (ours ∙ sym theirs)
