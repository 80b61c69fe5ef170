-- Laws: the paper's numbers lose nothing of an answer and of what a call writes: no second one fits a promise.
use Rattle.std.specs.Prelude.{◌≡◌, Result, Ok, Err, ℕ}
use Rattle.std.proofs.Common.{sym, ap}
use Rattle.reason.specs.ReasonNumbers.{Notice}
use Rattle.reason.specs.Once.{never_zero, same_notice}
use Rattle.tables.specs.Room.{Tables}
use Rattle.state.specs.Once.{same_walk}
use Rattle.state.specs.Walks.{walk_of}
use Rattle.state.specs.declared.State.{State}
use Rattle.step.specs.Moves.{Moved, notice_in, taken_in, moved_by}
use Rattle.step.specs.Steps.{Out, out_of}
use Rattle.step.specs.declared.Answer.{Answer}
use Rattle.step.specs.declared.Change.{Change}
use Rattle.step.specs.declared.Move.{Move}
use Rattle.reason.specs.declared.Refusal.{Refusal}

same_reply : (a b : Result ℕ Refusal) → notice_in a ≡ notice_in b → taken_in a ≡ taken_in b → a ≡ b
same_reply (Ok m) (Ok n) says taken = ap Ok taken
same_reply (Ok m) (Err s) says taken = absurd (never_zero s.reason (sym (ap (λ (n : Notice). n.number) says)))
same_reply (Err r) (Ok n) says taken = absurd (never_zero r.reason (ap (λ (n : Notice). n.number) says))
same_reply (Err r) (Err s) says taken = ap Err (same_notice r s says)

abbrev answer : State → Result ℕ Refusal → Answer
answer state reply = record { state = state; reply = reply }

same_answers : (s t : State) (p q : Result ℕ Refusal) → s ≡ t → p ≡ q → answer s p ≡ answer t q
same_answers s t p q state reply = rw (state, reply)

told : (a b : Answer) → notice_in a.reply ≡ notice_in b.reply → taken_in a.reply ≡ taken_in b.reply → walk_of a.state ≡ walk_of b.state → a ≡ b
told a b says taken walk =
    same_answers a.state b.state a.reply b.reply (same_walk a.state b.state walk) (same_reply a.reply b.reply says taken)

pub same_answer : (a b : Answer) (t u : Tables) → out_of a t ≡ out_of b u → a ≡ b
same_answer a b t u e = told a b (ap (λ (o : Out). o.says) e) (ap (λ (o : Out). o.taken) e) (ap (λ (o : Out). o.walk) e)

abbrev move : Answer → Change → Move
move answer change = record { answer = answer; change = change }

same_moves : (a b : Answer) (c d : Change) → a ≡ b → c ≡ d → move a c ≡ move b d
same_moves a b c d answer change = rw (answer, change)

pub same_move : (a b : Move) → moved_by a ≡ moved_by b → a ≡ b
same_move a b e =
    same_moves a.answer b.answer a.change b.change
    (told a.answer b.answer (ap (λ (m : Moved). m.says) e) (ap (λ (m : Moved). m.taken) e) (ap (λ (m : Moved). m.walk) e))
    (ap (λ (m : Moved). m.change) e)
