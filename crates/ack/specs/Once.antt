-- Laws: no second answer of a turn fits its promise.
use Rattle.std.specs.Prelude.{ℕ, ◌≤◌, List, ◌≡◌, refl, length, drop}
use Rattle.std.proofs.Common.{sym, ap, arith, length-drop}
use Rattle.tables.specs.Room.{Tables}
use Rattle.state.specs.Once.{same_walk}
use Rattle.state.specs.Walks.{Walk, walk_of}
use Rattle.ack.specs.Answers.{progress_of, turned_by}
use Rattle.ack.specs.Turns.{Turn, waiting, walking, finished}
use Rattle.ack.specs.declared.Progress.{Progress}
use Rattle.ack.specs.declared.Progress.TheVariants.{Waiting, Walking, Finished}
use Rattle.ack.specs.declared.Turned.{Turned}

waiting_walking : (walk : Walk) → waiting ≡ walking walk → ⊥
waiting_walking walk e = let z : ◌≡◌ {A = ℕ} 0 1 = cc in omega arith

waiting_finished : (walk : Walk) → waiting ≡ finished walk → ⊥
waiting_finished walk e = let z : ◌≡◌ {A = ℕ} 0 1 = cc in omega arith

walking_finished : (walk last : Walk) → walking walk ≡ finished last → ⊥
walking_finished walk last e = let z : ◌≡◌ {A = ℕ} 0 1 = cc in omega arith

same_progress : (a b : Progress) → progress_of a ≡ progress_of b → a ≡ b
same_progress Waiting Waiting e = refl
same_progress Waiting (Walking t) e = absurd (waiting_walking (walk_of t) e)
same_progress Waiting (Finished t) e = absurd (waiting_finished (walk_of t) e)
same_progress (Walking s) Waiting e = absurd (waiting_walking (walk_of s) (sym e))
same_progress (Walking s) (Walking t) e = let same : walk_of s ≡ walk_of t = cc in ap Walking (same_walk s t same)
same_progress (Walking s) (Finished t) e = absurd (walking_finished (walk_of s) (walk_of t) e)
same_progress (Finished s) Waiting e = absurd (waiting_finished (walk_of s) (sym e))
same_progress (Finished s) (Walking t) e = absurd (walking_finished (walk_of t) (walk_of s) (sym e))
same_progress (Finished s) (Finished t) e = let same : walk_of s ≡ walk_of t = cc in ap Finished (same_walk s t same)

-- What is left over tells how much was taken.
same_taken : (m n : ℕ) (held : List ℕ) → m ≤ length held → n ≤ length held → drop m held ≡ drop n held → m ≡ n
same_taken m n held hm hn e =
    let lengths : length (drop m held) ≡ length (drop n held) = ap length e in
    omega (arith, length-drop m held, length-drop n held, lengths)

abbrev turned : Progress → ℕ → Turned
turned progress taken = record { progress = progress; taken = taken }

same_parts : (p q : Progress) (m n : ℕ) → p ≡ q → m ≡ n → turned p m ≡ turned q n
same_parts p q m n progress taken = rw (progress, taken)

pub same_turned : (a b : Turned) (held : List ℕ) (t u : Tables) → a.taken ≤ length held → b.taken ≤ length held → turned_by a held t ≡ turned_by b held u → a ≡ b
same_turned a b held t u within within' e =
    same_parts a.progress b.progress a.taken b.taken
    (same_progress a.progress b.progress (ap (λ (o : Turn). o.progress) e))
    (same_taken a.taken b.taken held within within' (ap (λ (o : Turn). o.left) e))
