-- A walk as a whole: what it has where the function is entered, what it is to have where the function returns, and how it comes to the function's statement.
--     End, Ends        what a walk is to have of a parameter where it ends: nothing, of what no clause speaks of (`gone`), or what a `Stay` says (`had`)
--     kept_slice, given_slice      of a `&mut [T]`: it is still owned, or it was given up for good
--     tokens, owned_of, had_of     the entries of a context: a token for each lifetime, what each parameter owns, and what is to be had of each
--     finishes         the walk ends: the tokens and what is to be had are there, and the result, as the `ensures` says it
--     proves, proves_given     the statement, from a walk of the body for each choice of what the signature binds: with no `requires`, and with one that states a fact
-- Each step takes `Logic`, the rules of the kit's logic.
use mathlib.Core.Path.{◌≡◌, sym, subst}
use Prim.Native.Nat.{ℕ, zero, suc}
use mathlib.Core.List.{List, [], ◌∷◌, ◌++◌}
use mathlib.Core.Option.{none}
use seplogic.Ra.Ura.{Ura}
use mir.Syntax.{Fn}
use mir.Val.{Val}
use base.Logic.{SProp, ent, sep, emp, id⊢, via, mono∗, mono_r, emp∗}
use base.Fml.{ftrue, flft}
use prog.Model.{Model}
use prog.Routine.{Callee, Env}
use prog.Wp.{WpFn, Tables, Closed}
use types.Logic.{Logic, sem}
use contract.Monad.{fact, fact_i}
use contract.Lifetimes.{Lfts, Shares, AllOutlive, toks}
use contract.Running.{Running, tables, tables_of}
use types.Kit.{Item, ‵, raw, runs, at_ret, ⋆, push, pop, ++⊢, ⊢++, Sq, ◌$◌, ◌∵◌, !, qed, move, use0, use1, done}
use denote.RattleType.{RattleType, Denots, Valss, owns, flat}
use denote.Laws.{Are, Ises, Spells, Tellss, valss}
use denote.Exit.{Kept, yes, Last, left}
use denote.Signature.{Slot, AllWithin, mut_slice_of, type_at, types_at}
use denote.Triple.Entry.{Args, Res, on_entry}
use denote.Triple.End.{Kepts, Fins}
use denote.Triple.Clauses.{Ended, Clauses, Lasts, at_exit, closing}
use denote.Triple.Spec.{triple_of}
use denote.Triple.Statement.{Contract, Triple}
use denote.Triple.Table.{entered}
use denote.Triple.Walked.{Stay, Stays, stay_dropped, stay_slice, gave_slice, has_of, Goes, Goes-dropped, Goes-slice, Goes-gave_slice, AllGo, Fit, says, needs, on_exit, Ending, ends_at, walk_of, walked, walk_Meets}
use sound.WpLaws.{WpFn-mono}
use Rattle.by_hand.proofs.Walk.Locals.{locals, Places, env_of, full, Arrives, begins}

-- ---- the entries of a context
module _ {M : Type 1} {𝓤 : Ura M} where
  abbrev pub tokens : (m : ℕ) → Lfts m → Shares m → List (Item 𝓤)
  tokens zero κs qs = []
  tokens (suc m) κs qs = ‵ (flft κs.0 qs.0) ∷ tokens m κs.1 qs.1

  abbrev pub owned_of : (Ts : List RattleType) → Denots Ts → Valss Ts → List (Item 𝓤)
  owned_of [] a vss = []
  owned_of (T ∷ Ts) a vss = ‵ (T.own_val a.0 vss.0) ∷ owned_of Ts a.1 vss.1

module _ {M : Type 1} {𝓤 : Ura M} (𝓛 : Logic 𝓤) where
  open 𝓛 use {A}

  pub tokens_in : (m : ℕ) (κs : Lfts m) (qs : Shares m) → ent 𝓤 (⋆ 𝓛 (tokens m κs qs)) (toks 𝓛 m κs qs)
  tokens_in zero κs qs = id⊢ 𝓤 (emp 𝓤)
  tokens_in (suc m) κs qs =
      via 𝓤 (sep 𝓤 (A.lft κs.0 qs.0) (⋆ 𝓛 (tokens m κs.1 qs.1))) (pop 𝓛 (‵ (flft κs.0 qs.0)) (tokens m κs.1 qs.1))
      (mono_r 𝓤 (A.lft κs.0 qs.0) (tokens_in m κs.1 qs.1))

  pub tokens_out : (m : ℕ) (κs : Lfts m) (qs : Shares m) → ent 𝓤 (toks 𝓛 m κs qs) (⋆ 𝓛 (tokens m κs qs))
  tokens_out zero κs qs = id⊢ 𝓤 (emp 𝓤)
  tokens_out (suc m) κs qs =
      via 𝓤 (sep 𝓤 (A.lft κs.0 qs.0) (⋆ 𝓛 (tokens m κs.1 qs.1))) (mono_r 𝓤 (A.lft κs.0 qs.0) (tokens_out m κs.1 qs.1))
      (push 𝓛 (‵ (flft κs.0 qs.0)) (tokens m κs.1 qs.1))

  pub owned_out : (Ts : List RattleType) (a : Denots Ts) (vss : Valss Ts) → ent 𝓤 (sem 𝓛 (owns Ts a vss)) (⋆ 𝓛 (owned_of Ts a vss))
  owned_out [] a vss = id⊢ 𝓤 (emp 𝓤)
  owned_out (T ∷ Ts) a vss =
      let P : SProp 𝓤 = sem 𝓛 (T.own_val a.0 vss.0) in
      via 𝓤 (sep 𝓤 P (⋆ 𝓛 (owned_of Ts a.1 vss.1))) (mono_r 𝓤 P (owned_out Ts a.1 vss.1)) (push 𝓛 (‵ (T.own_val a.0 vss.0)) (owned_of Ts a.1 vss.1))

-- ---- what is to be had of the parameters
module _ {n : ℕ} where
  pub data End (s : Slot n) (k : Kept) : Type 2 where
    gone : ((κs : Lfts n) (x : (s.row κs).Denot) (f : Last ((s.row κs).exit k) x) → left ((s.row κs).exit k) x f ≡ ftrue) → End s k
    had : (h : Stay s k) → ((M : Type 1) (𝓤 : Ura M) (𝓛 : Logic 𝓤) → Goes 𝓛 n s k h) → End s k

  abbrev pub Ends : (ss : List (Slot n)) → Kepts ss → Type 2
  Ends [] ks = Unit {2}
  Ends (s ∷ ss) ks = End s ks.0 × Ends ss ks.1

  abbrev stay_of : {s : Slot n} {k : Kept} → End s k → Stay s k
  stay_of {s} {k} (gone q) = stay_dropped s k
  stay_of (had h g) = h

  abbrev pub stays_of : (ss : List (Slot n)) (ks : Kepts ss) → Ends ss ks → Stays ss ks
  stays_of [] ks es = tt
  stays_of (s ∷ ss) ks es = (stay_of es.0, stays_of ss ks.1 es.1)

  -- a `&mut [T]` that is still owned
  abbrev pub kept_slice : (j : ℕ) (ok : AllWithin n (j ∷ [])) (s : Slot n) → End (mut_slice_of (j ∷ []) ok s) yes
  kept_slice j ok s = had (stay_slice (j ∷ []) ok s) (λ M 𝓤 𝓛. Goes-slice 𝓛 n j ok s)

  -- one that was given up for good, as by passing it on: what says its last value, beside the borrow that came back with it
  abbrev pub given_slice : (j : ℕ) (ok : AllWithin n (j ∷ [])) (s : Slot n) → End (mut_slice_of (j ∷ []) ok s) yes
  given_slice j ok s = had (gave_slice (j ∷ []) ok s) (λ M 𝓤 𝓛. Goes-gave_slice 𝓛 n j ok s)

  module _ {M : Type 1} {𝓤 : Ura M} where
    abbrev had_at : (κs : Lfts n) (s : Slot n) (k : Kept) → End s k → (x : (s.row κs).Denot) → Last ((s.row κs).exit k) x → List Val → List (Item 𝓤) → List (Item 𝓤)
    had_at κs s k (gone q) x f vs Γ = Γ
    had_at κs s k (had h g) x f vs Γ = ‵ (h.has κs x f vs) ∷ Γ

    abbrev pub had_of : (κs : Lfts n) (ss : List (Slot n)) (ks : Kepts ss) → Ends ss ks → (a : Denots (types_at ss κs)) → Fins κs ss ks a → Valss (types_at ss κs) → List (Item 𝓤)
    had_of κs [] ks es a ws vss = []
    had_of κs (s ∷ ss) ks es a ws vss = had_at κs s ks.0 es.0 a.0 ws.0 vss.0 (had_of κs ss ks.1 es.1 a.1 ws.1 vss.1)

  module _ {M : Type 1} {𝓤 : Ura M} (𝓛 : Logic 𝓤) where
    had_one : (κs : Lfts n) (s : Slot n) (k : Kept) (e : End s k) (x : (s.row κs).Denot) (f : Last ((s.row κs).exit k) x) (vs : List Val) (Γ : List (Item 𝓤)) (Q : SProp 𝓤) → ent 𝓤 (⋆ 𝓛 Γ) Q
        → ent 𝓤 (⋆ 𝓛 (had_at κs s k e x f vs Γ)) (sep 𝓤 (sem 𝓛 ((stay_of e).has κs x f vs)) Q)
    had_one κs s k (gone q) x f vs Γ Q h = via 𝓤 Q h (emp∗ 𝓤 Q)
    had_one κs s k (had st g) x f vs Γ Q h =
        let P : SProp 𝓤 = sem 𝓛 (st.has κs x f vs) in
        via 𝓤 (sep 𝓤 P (⋆ 𝓛 Γ)) (pop 𝓛 (‵ (st.has κs x f vs)) Γ) (mono_r 𝓤 P h)

    had_in : (κs : Lfts n) (ss : List (Slot n)) (ks : Kepts ss) (es : Ends ss ks) (a : Denots (types_at ss κs)) (ws : Fins κs ss ks a) (vss : Valss (types_at ss κs))
        → ent 𝓤 (⋆ 𝓛 (had_of κs ss ks es a ws vss)) (sem 𝓛 (has_of κs ss ks (stays_of ss ks es) a ws vss))
    had_in κs [] ks es a ws vss = id⊢ 𝓤 (emp 𝓤)
    had_in κs (s ∷ ss) ks es a ws vss =
        had_one κs s ks.0 es.0 a.0 ws.0 vss.0 (had_of κs ss ks.1 es.1 a.1 ws.1 vss.1) (sem 𝓛 (has_of κs ss ks.1 (stays_of ss ks.1 es.1) a.1 ws.1 vss.1))
        (had_in κs ss ks.1 es.1 a.1 ws.1 vss.1)

  module _ {M : Type 1} {𝓤 : Ura M} (𝓛 : Logic 𝓤) where
    goes_one : (s : Slot n) (k : Kept) (e : End s k) → Goes 𝓛 n s k (stay_of e)
    goes_one s k (gone q) = Goes-dropped 𝓛 n s k q
    goes_one s k (had h g) = g M 𝓤 𝓛

    all_go : (ss : List (Slot n)) (ks : Kepts ss) (es : Ends ss ks) → AllGo 𝓛 n ss ks (stays_of ss ks es)
    all_go [] ks es = tt
    all_go (s ∷ ss) ks es = (goes_one s ks.0 es.0, all_go ss ks.1 es.1)

-- ---- where the function returns
module _ {M : Type 1} {𝓤 : Ura M} (𝓛 : Logic 𝓤) (T : Ended) (es : Ends T.signature.params T.kept) (c : Clauses 𝓤 T) where
  abbrev pub Exit : Contract 𝓤
  Exit = walk_of 𝓛 T (stays_of T.signature.params T.kept es) c

  pub finishes : (y : Exit.Ghost) (v : Val) (r : Res T.signature y.0.0) (ws : Lasts T y.0.0 y.0.3) → Fit T (stays_of T.signature.params T.kept es) y.0.0 y.0.3 ws
      → (φ : Type 0) → (c y.0.0 y.0.3).ensures y.1 r (at_exit T y.0.0 y.0.3 ws) ≡ fact 𝓤 φ → φ → ent 𝓤 (emp 𝓤) (sem 𝓛 ((type_at T.signature.result y.0.0).own_val r (v ∷ [])))
      → ent 𝓤 (⋆ 𝓛 (tokens T.signature.lifetimes y.0.0 y.0.1 ++ had_of y.0.0 T.signature.params T.kept es y.0.3 ws y.0.4)) (Exit.post y v)
  finishes y v r ws fits φ is x made =
      let κs : Lfts T.signature.lifetimes = y.0.0 in
      let Γ₀ : List (Item 𝓤) = tokens T.signature.lifetimes κs y.0.1 in
      let Γ₁ : List (Item 𝓤) = had_of κs T.signature.params T.kept es y.0.3 ws y.0.4 in
      let hs : Stays T.signature.params T.kept = stays_of T.signature.params T.kept es in
      let On : SProp 𝓤 = on_exit 𝓛 T hs κs y.0.1 y.0.4 v r y.0.3 ws in
      via 𝓤 (sep 𝓤 (⋆ 𝓛 Γ₀) (⋆ 𝓛 Γ₁)) (⊢++ 𝓛 Γ₀ Γ₁)
      (via 𝓤 (Ending 𝓛 T hs c y v r ws)
      (subst (λ (E : SProp 𝓤). ent 𝓤 (sep 𝓤 (⋆ 𝓛 Γ₀) (⋆ 𝓛 Γ₁)) (sep 𝓤 On E)) (sym is)
      (qed 𝓛 (raw (⋆ 𝓛 Γ₀) ∷ raw (⋆ 𝓛 Γ₁) ∷ []) ∵ says ! x $
      use1 𝓛 (raw (toks 𝓛 T.signature.lifetimes κs y.0.1)) (tokens_in 𝓛 T.signature.lifetimes κs y.0.1) $ move ! (1 ∷ []) $
      use1 𝓛 (‵ (has_of κs T.signature.params T.kept hs y.0.3 ws y.0.4)) (had_in 𝓛 κs T.signature.params T.kept es y.0.3 ws y.0.4) $
      use0 𝓛 (‵ ((type_at T.signature.result κs).own_val r (v ∷ []))) made $ move ! (2 ∷ 1 ∷ 0 ∷ []) $ done !))
      (ends_at 𝓛 T hs c y v r ws fits))

-- ---- the statement
module _ {M : Type 1} {𝓤 : Ura M} (𝓛 : Logic 𝓤) (𝓜 : Model 𝓤 𝓛.H) (𝓡 : Running 𝓤 𝓛.H 𝓜) (T : Ended) (es : Ends T.signature.params T.kept) (c : Clauses 𝓤 T) where
  open 𝓛 use {H}

  abbrev Types : Lfts T.signature.lifetimes → List RattleType
  Types κs = types_at T.signature.params κs

  module _ (γ : Env) (k : Callee) (f : Fn) (closed : Closed 𝓤 H (tables 𝓤 H 𝓜 𝓡 γ).C (tables 𝓤 H 𝓜 𝓡 γ).Λ k f)
      (sp : (κs : Lfts T.signature.lifetimes) → Spells (Types κs)) (tl : (κs : Lfts T.signature.lifetimes) → Tellss (Types κs) (Ises (Types κs)) (sp κs)) where
    abbrev 𝓣 : Tables 𝓤 H
    𝓣 = tables_of 𝓤 H 𝓜 (tables 𝓤 H 𝓜 𝓡 γ)

    abbrev Spelled : (κs : Lfts T.signature.lifetimes) → Args T.signature κs → Valss (Types κs)
    Spelled κs a = valss (Types κs) (sp κs) a

    -- a walk at one choice of what the signature binds: the arguments are of the locals' types, and the body runs from what the function has at entry
    abbrev Walk : (κs : Lfts T.signature.lifetimes) → Shares T.signature.lifetimes → AllOutlive T.signature.lifetimes T.signature.outlives κs → (a : Args T.signature κs) → (c κs a).ghost → Type 1
    Walk κs qs bounds a g = Arrives f.locals (flat (Types κs) (Spelled κs a)) × ((ps : Places f.locals)
        → Sq 𝓛 ((tokens T.signature.lifetimes κs qs ++ owned_of (Types κs) a (Spelled κs a)) ++ locals (env_of f.locals ps) (none ∷ full (flat (Types κs) (Spelled κs a))) [])
        (runs 𝓣.C 𝓣.Λ (env_of f.locals ps) f.body (at_ret (env_of f.locals ps) ((Exit 𝓛 T es c).post ((κs, qs, bounds, a, Spelled κs a), g)))))

    -- where the `requires` states ψ
    pub proves_given : (ψ : (κs : Lfts T.signature.lifetimes) (a : Args T.signature κs) → (c κs a).ghost → Type 0)
        → ((κs : Lfts T.signature.lifetimes) (a : Args T.signature κs) (g : (c κs a).ghost) → ent 𝓤 ((c κs a).requires g) (fact 𝓤 (ψ κs a g)))
        → ((κs : Lfts T.signature.lifetimes) (qs : Shares T.signature.lifetimes) (bounds : AllOutlive T.signature.lifetimes T.signature.outlives κs) (a : Args T.signature κs) (g : (c κs a).ghost)
        → ψ κs a g → Are (Types κs) (Ises (Types κs)) a (Spelled κs a) → Walk κs qs bounds a g)
        → Triple 𝓤 ((tables 𝓤 H 𝓜 𝓡 γ).C k) (triple_of 𝓛 T.signature (closing 𝓛 T c))
    unfolding tables_of
    proves_given ψ given walk =
        let hs : Stays T.signature.params T.kept = stays_of T.signature.params T.kept es in
        entered 𝓤 H (triple_of 𝓛 T.signature (closing 𝓛 T c)) (tables 𝓤 H 𝓜 𝓡 γ).C (tables 𝓤 H 𝓜 𝓡 γ).Λ k f closed
        (walk_Meets 𝓛 T hs (all_go 𝓛 T.signature.params T.kept es) c (WpFn 𝓤 H 𝓣.C 𝓣.Λ f) (WpFn-mono 𝓤 H 𝓛.laws 𝓣 f)
        (walked 𝓛 T hs c (WpFn 𝓤 H 𝓣.C 𝓣.Λ f) sp tl (λ κs qs bounds a g are.
        let Γ₀ : List (Item 𝓤) = tokens T.signature.lifetimes κs qs in
        let Γ₁ : List (Item 𝓤) = owned_of (Types κs) a (Spelled κs a) in
        let P : SProp 𝓤 = on_entry 𝓛 T.signature κs qs a (Spelled κs a) in
        let Post : Val → SProp 𝓤 = (Exit 𝓛 T es c).post ((κs, qs, bounds, a, Spelled κs a), g) in
        via 𝓤 (sep 𝓤 P (fact 𝓤 (ψ κs a g))) (mono_r 𝓤 P (given κs a g)) (needs 𝓤 (ψ κs a g) P (λ stated.
        let w : Walk κs qs bounds a g = walk κs qs bounds a g stated are in
        via 𝓤 (sep 𝓤 (⋆ 𝓛 Γ₀) (⋆ 𝓛 Γ₁)) (mono∗ 𝓤 (tokens_out 𝓛 T.signature.lifetimes κs qs) (owned_out 𝓛 (Types κs) a (Spelled κs a)))
        (via 𝓤 (⋆ 𝓛 (Γ₀ ++ Γ₁)) (++⊢ 𝓛 Γ₀ Γ₁)
        (qed 𝓛 (Γ₀ ++ Γ₁) ∵ begins ! 𝓣.C 𝓣.Λ f (flat (Types κs) (Spelled κs a)) Post w.0 w.1)))))))

    -- where there is none
    pub proves : ((κs : Lfts T.signature.lifetimes) (qs : Shares T.signature.lifetimes) (bounds : AllOutlive T.signature.lifetimes T.signature.outlives κs) (a : Args T.signature κs) (g : (c κs a).ghost)
        → Are (Types κs) (Ises (Types κs)) a (Spelled κs a) → Walk κs qs bounds a g)
        → Triple 𝓤 ((tables 𝓤 H 𝓜 𝓡 γ).C k) (triple_of 𝓛 T.signature (closing 𝓛 T c))
    proves walk = proves_given (λ κs a g. Unit {0}) (λ κs a g. fact_i 𝓤 (Unit {0}) ((c κs a).requires g) tt) (λ κs qs bounds a g _. walk κs qs bounds a g)
