-- Laws: the paper's numbers lose nothing of a state: no second state fits a promise.
use Rattle.std.specs.Prelude.{ℕ, ◌≡◌, refl}
use Rattle.std.proofs.Common.{sym, ap, arith}
use Rattle.reason.specs.ReasonNumbers.{Notice, notice_of}
use Rattle.reason.specs.Once.{same_notice}
use Rattle.calendar.specs.declared.Quarter.{Quarter}
use Rattle.edits.specs.declared.Open.{Open}
use Rattle.edits.specs.declared.Opening.{Opening}
use Rattle.edits.specs.declared.Phase.{Phase}
use Rattle.edits.specs.declared.Totals.{Totals}
use Rattle.state.specs.Walks.{reading, accepted, refused, Walk, standing_of, walk_of}
use Rattle.state.specs.declared.Stage.{Stage}
use Rattle.state.specs.declared.Stage.TheVariants.{Reading, Accepted, Refused}
use Rattle.state.specs.declared.State.{State}

reading_accepted : (phase : Phase) → reading phase ≡ accepted → ⊥
reading_accepted phase e = let z : ◌≡◌ {A = ℕ} 0 1 = cc in omega arith

reading_refused : (phase : Phase) (n : Notice) → reading phase ≡ refused n → ⊥
reading_refused phase n e = let z : ◌≡◌ {A = ℕ} 0 1 = cc in omega arith

accepted_refused : (n : Notice) → accepted ≡ refused n → ⊥
accepted_refused n e = let z : ◌≡◌ {A = ℕ} 0 1 = cc in omega arith

same_standing : (a b : Stage) → standing_of a ≡ standing_of b → a ≡ b
same_standing (Reading p) (Reading q) e = let same : p ≡ q = cc in ap Reading same
same_standing (Reading p) Accepted e = absurd (reading_accepted p e)
same_standing (Reading p) (Refused r) e = absurd (reading_refused p (notice_of r) e)
same_standing Accepted (Reading p) e = absurd (reading_accepted p (sym e))
same_standing Accepted Accepted e = refl
same_standing Accepted (Refused r) e = absurd (accepted_refused (notice_of r) e)
same_standing (Refused r) (Reading p) e = absurd (reading_refused p (notice_of r) (sym e))
same_standing (Refused r) Accepted e = absurd (accepted_refused (notice_of r) (sym e))
same_standing (Refused r) (Refused s) e = let same : notice_of r ≡ notice_of s = cc in ap Refused (same_notice r s same)

abbrev state : Stage → ℕ → Opening → Quarter → Open → Totals → ℕ → State
state stage lines held filed this all used =
    record { stage = stage; lines = lines; held = held; filed = filed; «open» = this; all = all; used = used }

same_parts : (s t : Stage) (l m : ℕ) (h i : Opening) (f g : Quarter) (o p : Open) (a b : Totals) (u v : ℕ) → s ≡ t → l ≡ m → h ≡ i → f ≡ g → o ≡ p → a ≡ b → u ≡ v
    → state s l h f o a u ≡ state t m i g p b v
same_parts s t l m h i f g o p a b u v e1 e2 e3 e4 e5 e6 e7 = rw (e1, e2, e3, e4, e5, e6, e7)

pub same_walk : (a b : State) → walk_of a ≡ walk_of b → a ≡ b
same_walk a b e =
    same_parts a.stage b.stage a.lines b.lines a.held b.held a.filed b.filed a.open b.open a.all b.all a.used b.used
    (same_standing a.stage b.stage (ap (λ (w : Walk). w.standing) e))
    (ap (λ (w : Walk). w.lines) e) (ap (λ (w : Walk). w.held) e) (ap (λ (w : Walk). w.filed) e)
    (ap (λ (w : Walk). w.open) e) (ap (λ (w : Walk). w.all) e) (ap (λ (w : Walk). w.used) e)
