-- A call in a walk, of any function whose `ensures` states a fact.
--     Brings           of an argument, what its type owns is in the context (`held`), or it is had for nothing, as of plain data (`made`)
--     brought          the entries of a context that are so held
--     left_of          the entries that a call leaves: of each `&mut` that was passed, what says its last value, beside the borrow that comes back with it
--     asks, asks_last  the call, and one that is the last statement of its part. The tokens of the callee's lifetimes and what is held of the arguments stand first; afterwards the tokens and what is left do, and what the callee's `ensures` states is in hand
-- Each step takes `Logic`, the rules of the kit's logic, and that the table of calls is monotone under a frame.
use mathlib.Core.Path.{◌≡◌, sym, ap, subst}
use Prim.Native.Nat.{ℕ}
use mathlib.Core.List.{List, [], ◌∷◌, ◌++◌}
use seplogic.Ra.Ura.{Ura}
use mir.Syntax.{Callee as Name, Place, Opd as Operand, Body, seq, call}
use mir.Val.{Val}
use base.Logic.{SProp, ent, sep, emp, id⊢, via, mono∗, mono_l, mono_r, emp∗, comm∗, snd∗, both⊢}
use prog.Wp.{Env, Calls, Loops, eval_opds}
use types.Logic.{Logic, sem}
use contract.Conj.{top}
use contract.Monad.{fact, fact_i}
use contract.Lifetimes.{Lfts, toks}
use sound.WpLaws.{FmC}
use types.Kit.{Item, ‵, raw, some, later, ◌⊛◌, ⋆, push, pop, ++⊢, ⊢++, aim, Goal, Soaks, Post, runs, lands, settles, Seq, ◌$◌, use1, move, split, pick, await, cut}
use types.Run.{Opds}
use denote.RattleType.{RattleType, Denots, Valss, owns, flat}
use denote.Laws.{Is, Tells, shows}
use denote.Exit.{Exit, unchanged, leaves, Last, left}
use denote.Signature.{Slot, type_at, types_at}
use denote.Steps.{only, heard, facts}
use denote.Triple.Entry.{Args, Res, on_entry}
use denote.Triple.End.{Kepts, Fins, lasts_of}
use denote.Triple.Clauses.{Ended, Clauses, Lasts, at_exit, lasts, ensured, closing}
use denote.Triple.Spec.{triple_of}
use denote.Triple.Statement.{Contract, Triple}
use Rattle.by_hand.proofs.Walk.Locals.{front, back, apart}
use Rattle.by_hand.proofs.Walk.Whole.{tokens, tokens_in, tokens_out}

-- ---- what is passed
module _ {M : Type 1} {𝓤 : Ura M} (𝓛 : Logic 𝓤) where
  pub data Brings (R : RattleType) (x : R.Denot) (vs : List Val) : Type 1 where
    held : Brings R x vs
    made : ent 𝓤 (emp 𝓤) (sem 𝓛 (R.own_val x vs)) → Brings R x vs

  abbrev pub Brought : (Ts : List RattleType) → Denots Ts → Valss Ts → Type 1
  Brought [] a vss = Unit {1}
  Brought (T ∷ Ts) a vss = Brings T a.0 vss.0 × Brought Ts a.1 vss.1

  abbrev bring : {R : RattleType} {x : R.Denot} {vs : List Val} → Brings R x vs → List (Item 𝓤) → List (Item 𝓤)
  bring {R} {x} {vs} held Γ = ‵ (R.own_val x vs) ∷ Γ
  bring (made h) Γ = Γ

  abbrev pub brought : (Ts : List RattleType) (a : Denots Ts) (vss : Valss Ts) → Brought Ts a vss → List (Item 𝓤)
  brought [] a vss bs = []
  brought (T ∷ Ts) a vss bs = bring bs.0 (brought Ts a.1 vss.1 bs.1)

  brings_one : {R : RattleType} {x : R.Denot} {vs : List Val} (b : Brings R x vs) (Γ : List (Item 𝓤)) (Q : SProp 𝓤) → ent 𝓤 (⋆ 𝓛 Γ) Q → ent 𝓤 (⋆ 𝓛 (bring b Γ)) (sep 𝓤 (sem 𝓛 (R.own_val x vs)) Q)
  brings_one {R} {x} {vs} held Γ Q h = via 𝓤 (sep 𝓤 (sem 𝓛 (R.own_val x vs)) (⋆ 𝓛 Γ)) (pop 𝓛 (‵ (R.own_val x vs)) Γ) (mono_r 𝓤 (sem 𝓛 (R.own_val x vs)) h)
  brings_one (made p) Γ Q h = via 𝓤 Q h (via 𝓤 (sep 𝓤 (emp 𝓤) Q) (emp∗ 𝓤 Q) (mono_l 𝓤 Q p))

  brings_all : (Ts : List RattleType) (a : Denots Ts) (vss : Valss Ts) (bs : Brought Ts a vss) → ent 𝓤 (⋆ 𝓛 (brought Ts a vss bs)) (sem 𝓛 (owns Ts a vss))
  brings_all [] a vss bs = id⊢ 𝓤 (emp 𝓤)
  brings_all (T ∷ Ts) a vss bs = brings_one bs.0 (brought Ts a.1 vss.1 bs.1) (sem 𝓛 (owns Ts a.1 vss.1)) (brings_all Ts a.1 vss.1 bs.1)

-- ---- what is left
module _ {M : Type 1} {𝓤 : Ura M} where
  abbrev left_at : {D : Type 0} (e : Exit D) (x : D) → Last e x → List (Item 𝓤) → List (Item 𝓤)
  left_at unchanged x w Γ = Γ
  left_at (leaves L l S s r₀) x w Γ = ‵ (l x w) ∷ Γ

  abbrev pub left_of : {n : ℕ} (κs : Lfts n) (ss : List (Slot n)) (ks : Kepts ss) (a : Denots (types_at ss κs)) → Fins κs ss ks a → List (Item 𝓤)
  left_of κs [] ks a ws = []
  left_of κs (s ∷ ss) ks a ws = left_at ((s.row κs).exit ks.0) a.0 ws.0 (left_of κs ss ks.1 a.1 ws.1)

module _ {M : Type 1} {𝓤 : Ura M} (𝓛 : Logic 𝓤) where
  left_one : {D : Type 0} (e : Exit D) (x : D) (w : Last e x) (Γ : List (Item 𝓤)) (Q : SProp 𝓤) → ent 𝓤 Q (⋆ 𝓛 Γ) → ent 𝓤 (sep 𝓤 (sem 𝓛 (left e x w)) Q) (⋆ 𝓛 (left_at e x w Γ))
  left_one unchanged x w Γ Q h = via 𝓤 Q (snd∗ 𝓤 (emp 𝓤) Q) h
  left_one (leaves L l S s r₀) x w Γ Q h = via 𝓤 (sep 𝓤 (sem 𝓛 (l x w)) (⋆ 𝓛 Γ)) (mono_r 𝓤 (sem 𝓛 (l x w)) h) (push 𝓛 (‵ (l x w)) Γ)

  left_all : {n : ℕ} (κs : Lfts n) (ss : List (Slot n)) (ks : Kepts ss) (a : Denots (types_at ss κs)) (ws : Fins κs ss ks a) → ent 𝓤 (sem 𝓛 (lasts_of κs ss ks a ws)) (⋆ 𝓛 (left_of κs ss ks a ws))
  left_all κs [] ks a ws = id⊢ 𝓤 (emp 𝓤)
  left_all κs (s ∷ ss) ks a ws = left_one ((s.row κs).exit ks.0) a.0 ws.0 (left_of κs ss ks.1 a.1 ws.1) (sem 𝓛 (lasts_of κs ss ks.1 a.1 ws.1)) (left_all κs ss ks.1 a.1 ws.1)

-- ---- the call
-- what a walk knows of a function that it calls: its contract, of which `Asks` is what the `requires` states and `Says` what the `ensures` does, and how its result is spelled as a machine value
pub record Callee {M : Type 1} {𝓤 : Ura M} (𝓛 : Logic 𝓤) : Type 2 where
  pub ended : Ended
  pub clauses : Clauses 𝓤 ended
  pub Asks : (κs : Lfts ended.signature.lifetimes) (a : Args ended.signature κs) → (clauses κs a).ghost → Type 0
  pub asks : (κs : Lfts ended.signature.lifetimes) (a : Args ended.signature κs) (g : (clauses κs a).ghost) → Asks κs a g → ent 𝓤 (emp 𝓤) ((clauses κs a).requires g)
  pub Says : (κs : Lfts ended.signature.lifetimes) (a : Args ended.signature κs) → (clauses κs a).ghost → Res ended.signature κs → Lasts ended κs a → Type 0
  pub says : (κs : Lfts ended.signature.lifetimes) (a : Args ended.signature κs) (g : (clauses κs a).ghost) (r : Res ended.signature κs) (ws : Lasts ended κs a) → (clauses κs a).ensures g r (at_exit ended κs a ws) ≡ fact 𝓤 (Says κs a g r ws)
  pub val : (κs : Lfts ended.signature.lifetimes) → Res ended.signature κs → Val
  pub tells : (κs : Lfts ended.signature.lifetimes) → Tells (type_at ended.signature.result κs) (Is (type_at ended.signature.result κs)) (λ r. val κs r ∷ [])

-- one with no `requires`
abbrev pub total : {M : Type 1} {𝓤 : Ura M} (𝓛 : Logic 𝓤) (T : Ended) (c : Clauses 𝓤 T) → ((κs : Lfts T.signature.lifetimes) (a : Args T.signature κs) (g : (c κs a).ghost) → ent 𝓤 (emp 𝓤) ((c κs a).requires g))
    → (φ : (κs : Lfts T.signature.lifetimes) (a : Args T.signature κs) → (c κs a).ghost → Res T.signature κs → Lasts T κs a → Type 0)
    → ((κs : Lfts T.signature.lifetimes) (a : Args T.signature κs) (g : (c κs a).ghost) (r : Res T.signature κs) (ws : Lasts T κs a) → (c κs a).ensures g r (at_exit T κs a ws) ≡ fact 𝓤 (φ κs a g r ws))
    → (val : (κs : Lfts T.signature.lifetimes) → Res T.signature κs → Val) → ((κs : Lfts T.signature.lifetimes) → Tells (type_at T.signature.result κs) (Is (type_at T.signature.result κs)) (λ r. val κs r ∷ [])) → Callee 𝓛
total 𝓛 T c free φ is val tell = record { ended = T; clauses = c; Asks = λ κs a g. Unit {0}; asks = λ κs a g _. free κs a g; Says = φ; says = is; val = val; tells = tell }

-- a contract with no `ensures` states what is true anyway
pub unsaid : {M : Type 1} (𝓤 : Ura M) → emp 𝓤 ≡ fact 𝓤 (Unit {0})
unsaid 𝓤 = both⊢ 𝓤 (fact_i 𝓤 (Unit {0}) (emp 𝓤) tt) (top 𝓤 (fact 𝓤 (Unit {0})))

abbrev pub Asked : {M : Type 1} {𝓤 : Ura M} {𝓛 : Logic 𝓤} → Callee 𝓛 → Contract 𝓤
Asked {𝓤 = 𝓤} {𝓛 = 𝓛} c = triple_of 𝓛 c.ended.signature (closing 𝓛 c.ended c.clauses)

module _ {M : Type 1} {𝓤 : Ura M} {𝓛 : Logic 𝓤} (c : Callee 𝓛) (y : (Asked c).Ghost) where
  open 𝓛 use {H}

  abbrev T : Ended
  T = c.ended

  abbrev κs : Lfts T.signature.lifetimes
  κs = y.0.0

  abbrev a : Args T.signature κs
  a = y.0.3

  abbrev Types : List RattleType
  Types = types_at T.signature.params κs

  abbrev Toks : List (Item 𝓤)
  Toks = tokens T.signature.lifetimes κs y.0.1

  abbrev Says : Res T.signature κs → Lasts T κs a → Type 0
  Says = c.Says κs a y.1

  abbrev Before : Brought 𝓛 Types a y.0.4 → List (Item 𝓤)
  Before bs = Toks ++ brought 𝓛 Types a y.0.4 bs

  abbrev After : Lasts T κs a → List (Item 𝓤)
  After ws = Toks ++ left_of κs T.signature.params T.kept a ws

  passes : (bs : Brought 𝓛 Types a y.0.4) → c.Asks κs a y.1 → ent 𝓤 (⋆ 𝓛 (Before bs)) ((Asked c).pre y)
  passes bs asked =
      let Γ₁ : List (Item 𝓤) = brought 𝓛 Types a y.0.4 bs in
      let P : SProp 𝓤 = on_entry 𝓛 T.signature κs y.0.1 a y.0.4 in
      let Q : SProp 𝓤 = (c.clauses κs a).requires y.1 in
      via 𝓤 (sep 𝓤 (⋆ 𝓛 Toks) (⋆ 𝓛 Γ₁)) (⊢++ 𝓛 Toks Γ₁)
      (via 𝓤 P (mono∗ 𝓤 (tokens_in 𝓛 T.signature.lifetimes κs y.0.1) (brings_all 𝓛 Types a y.0.4 bs))
      (via 𝓤 (sep 𝓤 Q P) (via 𝓤 (sep 𝓤 (emp 𝓤) P) (emp∗ 𝓤 P) (mono_l 𝓤 P (c.asks κs a y.1 asked))) (comm∗ 𝓤 Q P)))

  -- the rest of a walk, with the result written out
  abbrev Then : Type 0 → List (Item 𝓤) → (Val → Goal 𝓤 H) → Type 1
  Then K Γ after = (r : Res T.signature κs) (ws : Lasts T κs a) → Says r ws → Is (type_at T.signature.result κs) r (c.val κs r ∷ []) → Seq K 𝓛 (After ws ++ Γ) (after (c.val κs r))

  hears : {K : Type 0} → K → (Γ : List (Item 𝓤)) (after : Val → Goal 𝓤 H) → ((v : Val) → Soaks (after v)) → Then K Γ after → (v : Val) → Seq K 𝓛 (raw ((Asked c).post y v) ∷ Γ) (after v)
  hears {K} t Γ after z k v =
      let R : RattleType = type_at T.signature.result κs in
      let Lefts : Lasts T κs a → List (Item 𝓤) = left_of κs T.signature.params T.kept a in
      let Said : Res T.signature κs → Lasts T κs a → SProp 𝓤 = λ r ws. (c.clauses κs a).ensures y.1 r (at_exit T κs a ws) in
      use1 𝓛 (later (some (λ (r : Res T.signature κs). (raw (toks 𝓛 T.signature.lifetimes κs y.0.1) ⊛ ‵ (R.own_val r (v ∷ []))) ⊛ raw (ensured 𝓛 T c.clauses κs a y.1 r)))) (id⊢ 𝓤 ((Asked c).post y v)) $ await t (z v) $ pick t (λ r.
      split t $ split t $ move t (1 ∷ []) $ facts t R (Is R) (shows 𝓛 R) r (v ∷ []) (λ is. move t (1 ∷ []) $
      use1 𝓛 (some (λ (ws : Lasts T κs a). ‵ (lasts T κs a ws) ⊛ raw (Said r ws))) (id⊢ 𝓤 (ensured 𝓛 T c.clauses κs a y.1 r)) $ pick t (λ ws. split t $ move t (1 ∷ []) $
      use1 𝓛 (raw (fact 𝓤 (Says r ws))) (subst (λ (P : SProp 𝓤). ent 𝓤 (Said r ws) P) (c.says κs a y.1 r ws) (id⊢ 𝓤 (Said r ws))) $ heard t (Says r ws) (λ said. move t (1 ∷ 0 ∷ []) $
      cut (raw (toks 𝓛 T.signature.lifetimes κs y.0.1) ∷ ‵ (lasts T κs a ws) ∷ []) (After ws) Γ
      (via 𝓤 (sep 𝓤 (⋆ 𝓛 Toks) (⋆ 𝓛 (Lefts ws))) (mono∗ 𝓤 (tokens_out 𝓛 T.signature.lifetimes κs y.0.1) (left_all 𝓛 κs T.signature.params T.kept a ws)) (++⊢ 𝓛 Toks (Lefts ws))) $
      let tell : v ∷ [] ≡ c.val κs r ∷ [] = c.tells κs r (v ∷ []) is in
      subst (λ (u : Val). Seq K 𝓛 (After ws ++ Γ) (after u)) (sym (ap only tell)) (k r ws said (subst (Is R r) tell is))))))

-- the first n entries are what the callee is given
module _ {M : Type 1} {𝓤 : Ura M} {𝓛 : Logic 𝓤} {K : Type 0} {Γ : List (Item 𝓤)} where
  open 𝓛 use {H}

  called : K → (E : Env 𝓤 H) (C : Calls 𝓤 H) (f : Name) (xs : List Operand) (c : Callee 𝓛) → Triple 𝓤 (C f) (Asked c) → FmC 𝓤 H 𝓛.laws C → (y : (Asked c).Ghost) → c.Asks y.0.0 y.0.3 y.1
      → (n : ℕ) (bs : Brought 𝓛 (Types c y) y.0.3 y.0.4) → front n Γ ≡ Before c y bs → Opds K 𝓛 Γ E xs (flat (Types c y) y.0.4)
      → (after : Val → Goal 𝓤 H) → ((v : Val) → Soaks (after v)) → Then c y K (back n Γ) after → ent 𝓤 (⋆ 𝓛 Γ) (H.⇛ (eval_opds 𝓤 H E xs (λ us. C f us (λ v. aim 𝓤 H (after v)))))
  called t E C f xs c known fm y asked n bs e os after z k =
      let vs : List Val = flat (Types c y) y.0.4 in
      let P : SProp 𝓤 = (Asked c).pre y in
      let Q : Val → SProp 𝓤 = (Asked c).post y in
      let B : SProp 𝓤 = ⋆ 𝓛 (back n Γ) in
      via 𝓤 (eval_opds 𝓤 H E xs (λ us. C f us (λ v. aim 𝓤 H (after v))))
      (os.go (λ us. C f us (λ v. aim 𝓤 H (after v)))
      (via 𝓤 (sep 𝓤 (⋆ 𝓛 (front n Γ)) B) (apart 𝓛 n Γ)
      (via 𝓤 (sep 𝓤 (C f vs Q) B) (mono_l 𝓤 B (via 𝓤 P (subst (λ (Δ : List (Item 𝓤)). ent 𝓤 (⋆ 𝓛 Δ) P) (sym e) (passes c y bs asked)) (known y)))
      (fm f vs Q (λ v. aim 𝓤 H (after v)) B (λ v. via 𝓤 (⋆ 𝓛 (raw (Q v) ∷ back n Γ)) (push 𝓛 (raw (Q v)) (back n Γ)) (hears c y t (back n Γ) after z k v).prf)))))
      (𝓛.laws.⇛_intro _)

  module _ {E : Env 𝓤 H} {C : Calls 𝓤 H} {Λ : Loops 𝓤 H} {q : Post 𝓤 H} {f : Name} {xs : List Operand} {d : Place} where
    pub asks : K → {rest : Body} (c : Callee 𝓛) → Triple 𝓤 (C f) (Asked c) → FmC 𝓤 H 𝓛.laws C → (y : (Asked c).Ghost) → c.Asks y.0.0 y.0.3 y.1
        → (n : ℕ) (bs : Brought 𝓛 (Types c y) y.0.3 y.0.4) → front n Γ ≡ Before c y bs → Opds K 𝓛 Γ E xs (flat (Types c y) y.0.4)
        → Then c y K (back n Γ) (λ v. lands C Λ E d v rest q) → Seq K 𝓛 Γ (runs C Λ E (seq (call f xs d) rest) q)
    asks t {rest} c known fm y asked n bs e os k = record { prf = called t E C f xs c known fm y asked n bs e os (λ v. lands C Λ E d v rest q) (λ v. tt) k }

    pub asks_last : K → (c : Callee 𝓛) → Triple 𝓤 (C f) (Asked c) → FmC 𝓤 H 𝓛.laws C → (y : (Asked c).Ghost) → c.Asks y.0.0 y.0.3 y.1
        → (n : ℕ) (bs : Brought 𝓛 (Types c y) y.0.3 y.0.4) → front n Γ ≡ Before c y bs → Opds K 𝓛 Γ E xs (flat (Types c y) y.0.4)
        → Then c y K (back n Γ) (λ v. settles E d v q) → Seq K 𝓛 Γ (runs C Λ E (call f xs d) q)
    asks_last t c known fm y asked n bs e os k = record { prf = called t E C f xs c known fm y asked n bs e os (λ v. settles E d v q) (λ v. tt) k }
