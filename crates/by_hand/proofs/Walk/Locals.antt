-- The locals of a function in a walk.
--     locals E vs Γ    Γ behind the locals E, of which each holds what vs says: the last local first, each with what frees it
--     begins           a function is entered: its locals are there, and the arguments are stored
--     lets_go          the locals, which are the context from entry n on, are freed
--     front, back, apart   a context cut before entry n
-- Each step takes `Logic`, the rules of the kit's logic.
use mathlib.Core.Path.{◌≡◌, refl, sym, ◌∙◌, ap, subst}
use Prim.Native.Nat.{ℕ, zero, suc}
use mathlib.Core.List.{List, [], ◌∷◌, ◌++◌, append_assoc}
use mathlib.Core.Option.{Option, none, some}
use seplogic.Ra.Ura.{Ura}
use base.Fraction.{full_share}
use lib.Dec.{T}
use mir.Syntax.{Ty, Local, local, Fn}
use mir.Val.{Val, WT, has_ty}
use base.Logic.{SProp, ent, sep, wand, emp, id⊢, via, comm∗, fst∗, snd∗, emp∗, mono_r, wand_i, apply∗}
use base.Fml.{Fml, ftrue, ffalse, feq, flt, fsep, fand, for, fwand, fex, fall, fupd, fhide, fat, froom, fleft, fdies, flft, fdead, fobs, fauth, fres, fown, fbor, fobor, flent, fshr_bor, finv, fnamed, ftok, fkid, fme, fsent}
use prog.Wp.{Calls, Loops, WpFn, write, release}
use types.Logic.{Logic, sem}
use types.Kit.{Item, ‵, raw, ◌⊛◌, some as some_item, given, later, Goal, prop, runs, allocs, params', passes, frees, at_ret, mean, ⋆, ++⊢, ⊢++, pop, push, Seq, Step, step, ◌$◌, ◌∵◌, !, qed, move, use1, split, join, learn, check, use2, by, frame, done, aim}
use types.Run.{Writes, alloc1, alloc0, params1, pass1, pass0, enter, init}

-- ---- what the locals hold
abbrev cell : Ty → ℕ → Option Val → Fml
cell τ b none = froom τ b zero
cell τ b (some v) = fat full_share τ b zero v

-- of the first local, and of the others: what is not said holds nothing
abbrev first : List (Option Val) → Option Val
first [] = none
first (v ∷ vs) = v

abbrev rest : List (Option Val) → List (Option Val)
rest [] = []
rest (v ∷ vs) = vs

abbrev pub locals : {M : Type 1} {𝓤 : Ura M} → List (Ty × ℕ) → List (Option Val) → List (Item 𝓤) → List (Item 𝓤)
locals [] vs Γ = Γ
locals (e ∷ E) vs Γ = locals E (rest vs) (‵ (cell e.0 e.1 (first vs)) ∷ ‵ (fdies e.0 e.1) ∷ Γ)

-- where they lie
abbrev pub Places : List Local → Type 0
Places [] = Unit {0}
Places (local τ h ∷ ls) = ℕ × Places ls

abbrev pub env_of : (ls : List Local) → Places ls → List (Ty × ℕ)
env_of [] ps = []
env_of (local τ h ∷ ls) ps = (τ, ps.0) ∷ env_of ls ps.1

locals_before : {M : Type 1} {𝓤 : Ura M} (E : List (Ty × ℕ)) (vs : List (Option Val)) (Γ : List (Item 𝓤)) → locals E vs Γ ≡ locals E vs [] ++ Γ
locals_before [] vs Γ = refl
locals_before {𝓤 = 𝓤} (e ∷ E) vs Γ =
    let first_of : List (Item 𝓤) = ‵ (cell e.0 e.1 (first vs)) ∷ ‵ (fdies e.0 e.1) ∷ [] in
    locals_before E (rest vs) (first_of ++ Γ) ∙ sym (append_assoc (locals E (rest vs) []) first_of Γ) ∙ ap (λ (Δ : List (Item 𝓤)). Δ ++ Γ) (sym (locals_before E (rest vs) first_of))

-- ---- a function is entered
-- the values are of the types of the first of these locals
abbrev pub Stored : List Local → List Val → Type 0
Stored ls [] = Unit {0}
Stored [] (v ∷ vs) = ⊥
Stored (local τ h ∷ ls) (v ∷ vs) = (T (has_ty τ v) × WT v) × Stored ls vs

abbrev pub Arrives : List Local → List Val → Type 0
Arrives [] vs = ⊥
Arrives (l ∷ ls) vs = Stored ls vs

abbrev pub full : List Val → List (Option Val)
full [] = []
full (v ∷ vs) = some v ∷ full vs

module _ {M : Type 1} {𝓤 : Ura M} {𝓛 : Logic 𝓤} {K : Type 0} where
  open 𝓛 use {H}

  allocates : K → (ls : List Local) (Γ : List (Item 𝓤)) (Kt : List (Ty × ℕ) → Goal 𝓤 H) → ((ps : Places ls) → Seq K 𝓛 (locals (env_of ls ps) [] Γ) (Kt (env_of ls ps))) → Seq K 𝓛 Γ (allocs ls Kt)
  allocates t [] Γ Kt k = alloc0 t $ k tt
  allocates t (local τ h ∷ ls) Γ Kt k = alloc1 t (λ b. allocates t ls (‵ (froom τ b zero) ∷ ‵ (fdies τ b) ∷ Γ) (λ E. Kt ((τ, b) ∷ E)) (λ ps. k (b, ps)))

  -- what is stored behind an entry
  behind : K → {Γ Γ' : List (Item 𝓤)} (i : Item 𝓤) {τ : Ty} {b o : ℕ} {v : Val} → Writes K 𝓛 Γ τ b o v Γ' → Writes K 𝓛 (i ∷ Γ) τ b o v (i ∷ Γ')
  behind t {Γ} {Γ'} i {τ} {b} {o} {v} w = record {
    go = λ P h.
        let Q : SProp 𝓤 = wand 𝓤 (mean 𝓛 i) P in
        via 𝓤 (sep 𝓤 (mean 𝓛 i) (write 𝓤 H τ b o v Q))
        (via 𝓤 (sep 𝓤 (mean 𝓛 i) (⋆ 𝓛 Γ)) (pop 𝓛 i Γ) (mono_r 𝓤 (mean 𝓛 i)
        (w.go Q (wand_i 𝓤 (⋆ 𝓛 Γ') (mean 𝓛 i) P (via 𝓤 (sep 𝓤 (mean 𝓛 i) (⋆ 𝓛 Γ')) (comm∗ 𝓤 (⋆ 𝓛 Γ') (mean 𝓛 i)) (via 𝓤 (⋆ 𝓛 (i ∷ Γ')) (push 𝓛 i Γ') h))))))
        (frames i P);
  }
    where
      frames : (i : Item 𝓤) (P : SProp 𝓤) → ent 𝓤 (sep 𝓤 (mean 𝓛 i) (write 𝓤 H τ b o v (wand 𝓤 (mean 𝓛 i) P))) (write 𝓤 H τ b o v P)
      frames i P =
          let N : SProp 𝓤 = mean 𝓛 i in
          let Q : SProp 𝓤 = H.at full_share τ b o v in
          qed 𝓛 (i ∷ given (T (has_ty τ v) × WT v) (‵ (froom τ b o) ⊛ raw (wand 𝓤 Q (wand 𝓤 N P))) ∷ []) ∵ move ! (1 ∷ []) $ learn ! (λ wt. split ! $ check ! wt $ frame ! $
          by ! (wand_i 𝓤 (sep 𝓤 (wand 𝓤 Q (wand 𝓤 N P)) N) Q P (qed 𝓛 ((raw (wand 𝓤 Q (wand 𝓤 N P)) ⊛ i) ∷ raw Q ∷ []) ∵ split ! $
          move ! (2 ∷ 0 ∷ []) $ use2 𝓛 (raw (wand 𝓤 N P)) (apply∗ 𝓤 Q (wand 𝓤 N P)) $ move ! (1 ∷ 0 ∷ []) $ use2 𝓛 (raw P) (apply∗ 𝓤 N P) $ done !)))

  behind_locals : K → (E : List (Ty × ℕ)) {Γ Γ' : List (Item 𝓤)} {τ : Ty} {b o : ℕ} {v : Val} → Writes K 𝓛 Γ τ b o v Γ' → Writes K 𝓛 (locals E [] Γ) τ b o v (locals E [] Γ')
  behind_locals t [] w = w
  behind_locals t (e ∷ E) w = behind_locals t E (behind t (‵ (froom e.0 e.1 zero)) (behind t (‵ (fdies e.0 e.1)) w))

  stores : K → (ls : List Local) (ps : Places ls) (vs : List Val) (Γ : List (Item 𝓤)) {g : Goal 𝓤 H} → Stored ls vs → Step K 𝓛 (locals (env_of ls ps) (full vs) Γ) g (locals (env_of ls ps) [] Γ) (passes (env_of ls ps) vs g)
  stores t ls ps [] Γ ok = pass0 t
  stores t [] ps (v ∷ vs) Γ ok = absurd ok
  stores t (local τ h ∷ ls) ps (v ∷ vs) Γ ok = step (λ s. pass1 t (behind_locals t (env_of ls ps.1) (init t 0 refl ok.0)) $ stores t ls ps.1 vs (‵ (fat full_share τ ps.0 zero v) ∷ ‵ (fdies τ ps.0) ∷ Γ) ok.1 $ s)

  entering : K → (ls : List Local) (ps : Places ls) (vs : List Val) (Γ : List (Item 𝓤)) {g : Goal 𝓤 H} → Arrives ls vs → Step K 𝓛 (locals (env_of ls ps) (none ∷ full vs) Γ) g (locals (env_of ls ps) [] Γ) (params' (env_of ls ps) vs g)
  entering t [] ps vs Γ ok = absurd ok
  entering t (local τ h ∷ ls) ps vs Γ ok = step (λ s. params1 t $ stores t ls ps.1 vs (‵ (froom τ ps.0 zero) ∷ ‵ (fdies τ ps.0) ∷ Γ) ok $ s)

  -- the locals go behind what the function has
  behind_all : K → (E : List (Ty × ℕ)) (vs : List (Option Val)) (Γ : List (Item 𝓤)) {g : Goal 𝓤 H} → Step K 𝓛 (Γ ++ locals E vs []) g (locals E vs Γ) g
  behind_all t E vs Γ {g} = step (λ s. record {
    prf = subst (λ (Δ : List (Item 𝓤)). ent 𝓤 (⋆ 𝓛 Δ) (aim 𝓤 H g)) (sym (locals_before E vs Γ))
        (via 𝓤 (sep 𝓤 (⋆ 𝓛 (locals E vs [])) (⋆ 𝓛 Γ)) (⊢++ 𝓛 (locals E vs []) Γ)
        (via 𝓤 (sep 𝓤 (⋆ 𝓛 Γ) (⋆ 𝓛 (locals E vs []))) (comm∗ 𝓤 (⋆ 𝓛 (locals E vs [])) (⋆ 𝓛 Γ))
        (via 𝓤 (⋆ 𝓛 (Γ ++ locals E vs [])) (++⊢ 𝓛 Γ (locals E vs [])) s.prf)));
  })

  pub begins : K → {Γ : List (Item 𝓤)} (C : Calls 𝓤 H) (Λ : Loops 𝓤 H) (f : Fn) (vs : List Val) (Kf : Val → SProp 𝓤) → Arrives f.locals vs
      → ((ps : Places f.locals) → Seq K 𝓛 (Γ ++ locals (env_of f.locals ps) (none ∷ full vs) []) (runs C Λ (env_of f.locals ps) f.body (at_ret (env_of f.locals ps) Kf))) → Seq K 𝓛 Γ (prop (WpFn 𝓤 H C Λ f vs Kf))
  begins t {Γ} C Λ f vs Kf ok k =
      enter t C Λ f vs Kf $ allocates t f.locals Γ (λ E. params' E vs (runs C Λ E f.body (at_ret E Kf))) (λ ps.
      entering t f.locals ps vs Γ ok $ behind_all t (env_of f.locals ps) (none ∷ full vs) Γ $ k ps)

-- ---- its locals are freed
abbrev held_in : Fml → Option Val
held_in ftrue = none
held_in ffalse = none
held_in (feq d x y) = none
held_in (flt m n) = none
held_in (fsep P Q) = none
held_in (fand P Q) = none
held_in (for P Q) = none
held_in (fwand P Q) = none
held_in (fex d F) = none
held_in (fall d F) = none
held_in (fupd P) = none
held_in (fhide P) = none
held_in (fat q τ b o v) = some v
held_in (froom τ b o) = none
held_in (fleft q τ τs b o) = none
held_in (fdies τ b) = none
held_in (flft κ q) = none
held_in (fdead κ) = none
held_in (fobs γ x) = none
held_in (fauth γ x) = none
held_in (fres γ x) = none
held_in (fown R γ x) = none
held_in (fbor κ P) = none
held_in (fobor κ q P) = none
held_in (flent κ P) = none
held_in (fshr_bor κ Φ) = none
held_in (finv P) = none
held_in (fnamed n P) = none
held_in (ftok m) = none
held_in (fkid h a) = none
held_in (fme h) = none
held_in (fsent h) = none

module _ {M : Type 1} {𝓤 : Ura M} where
  abbrev held : Item 𝓤 → Option Val
  held (‵ P) = held_in P
  held (raw P) = none
  held (i ⊛ j) = none
  held (some_item F) = none
  held (given φ i) = none
  held (later i) = none

  -- what the locals hold, the first local's first: they stand from the last to the first, each before what frees it
  abbrev holds : List (Item 𝓤) → List (Option Val) → List (Option Val)
  holds [] vs = vs
  holds (i ∷ []) vs = vs
  holds (i ∷ j ∷ Γ) vs = holds Γ (held i ∷ vs)

  abbrev pub front : ℕ → List (Item 𝓤) → List (Item 𝓤)
  front zero Γ = []
  front (suc n) [] = []
  front (suc n) (i ∷ Γ) = i ∷ front n Γ

  abbrev pub back : ℕ → List (Item 𝓤) → List (Item 𝓤)
  back zero Γ = Γ
  back (suc n) [] = []
  back (suc n) (i ∷ Γ) = back n Γ

parted : {M : Type 1} {𝓤 : Ura M} (n : ℕ) (Γ : List (Item 𝓤)) → front n Γ ++ back n Γ ≡ Γ
parted zero Γ = refl
parted (suc n) [] = refl
parted {𝓤 = 𝓤} (suc n) (i ∷ Γ) = ap (λ (Δ : List (Item 𝓤)). i ∷ Δ) (parted n Γ)

pub apart : {M : Type 1} {𝓤 : Ura M} (𝓛 : Logic 𝓤) (n : ℕ) (Γ : List (Item 𝓤)) → ent 𝓤 (⋆ 𝓛 Γ) (sep 𝓤 (⋆ 𝓛 (front n Γ)) (⋆ 𝓛 (back n Γ)))
apart {𝓤 = 𝓤} 𝓛 n Γ = subst (λ (Δ : List (Item 𝓤)). ent 𝓤 (⋆ 𝓛 Δ) (sep 𝓤 (⋆ 𝓛 (front n Γ)) (⋆ 𝓛 (back n Γ)))) (parted n Γ) (⊢++ 𝓛 (front n Γ) (back n Γ))

module _ {M : Type 1} {𝓤 : Ura M} (𝓛 : Logic 𝓤) where
  -- what is had beside Q is had beside Q with E freed before it
  open 𝓛 use {H}

  beside : (E : List (Ty × ℕ)) (P R Q : SProp 𝓤) → ent 𝓤 P (sep 𝓤 R Q) → ent 𝓤 (release 𝓤 H E P) (sep 𝓤 R (release 𝓤 H E Q))
  beside [] P R Q h = h
  beside (e ∷ E) P R Q h =
      let F : SProp 𝓤 = sep 𝓤 (H.room e.0 e.1 zero) (H.dies e.0 e.1) in
      qed 𝓛 (raw F ∷ raw (release 𝓤 H E P) ∷ []) ∵ move ! (1 ∷ []) $ use1 𝓛 (raw R ⊛ raw (release 𝓤 H E Q)) (beside E P R Q h) $ split ! $ frame ! $ move ! (1 ∷ 0 ∷ []) $ done !

  emptied : (τ : Ty) (b : ℕ) (v : Option Val) → ent 𝓤 (sem 𝓛 (cell τ b v)) (H.room τ b zero)
  emptied τ b none = id⊢ 𝓤 (H.room τ b zero)
  emptied τ b (some v) = 𝓛.laws.at_room τ b zero v

  freed : (E : List (Ty × ℕ)) (vs : List (Option Val)) (Γ : List (Item 𝓤)) (X : SProp 𝓤) → ent 𝓤 (sep 𝓤 X (⋆ 𝓛 (locals E vs Γ))) (release 𝓤 H E (sep 𝓤 X (⋆ 𝓛 Γ)))
  freed [] vs Γ X = id⊢ 𝓤 (sep 𝓤 X (⋆ 𝓛 Γ))
  freed (e ∷ E) vs Γ X =
      let c : Fml = cell e.0 e.1 (first vs) in
      let d : Fml = fdies e.0 e.1 in
      let F : SProp 𝓤 = sep 𝓤 (H.room e.0 e.1 zero) (H.dies e.0 e.1) in
      via 𝓤 (release 𝓤 H E (sep 𝓤 X (⋆ 𝓛 (‵ c ∷ ‵ d ∷ Γ)))) (freed E (rest vs) (‵ c ∷ ‵ d ∷ Γ) X)
      (beside E (sep 𝓤 X (⋆ 𝓛 (‵ c ∷ ‵ d ∷ Γ))) F (sep 𝓤 X (⋆ 𝓛 Γ))
      (qed 𝓛 (raw X ∷ ‵ c ∷ raw (⋆ 𝓛 (‵ d ∷ Γ)) ∷ []) ∵ move ! (1 ∷ []) $ use1 𝓛 (‵ (froom e.0 e.1 zero)) (emptied e.0 e.1 (first vs)) $
      move ! (2 ∷ []) $ use1 𝓛 (‵ d ⊛ raw (⋆ 𝓛 Γ)) (pop 𝓛 (‵ d) Γ) $ split ! $ move ! (2 ∷ 0 ∷ []) $ join ! $ frame ! $ move ! (1 ∷ 0 ∷ []) $ done !))

pub lets_go : {M : Type 1} {𝓤 : Ura M} {𝓛 : Logic 𝓤} {K : Type 0} {Γ : List (Item 𝓤)} → K → (n : ℕ) {E : List (Ty × ℕ)} {g : Goal 𝓤 𝓛.H}
    → back n Γ ≡ locals E (holds (back n Γ) []) [] → Step K 𝓛 (front n Γ) g Γ (frees E g)
lets_go {𝓤 = 𝓤} {𝓛 = 𝓛} {Γ = Γ} t n {E} {g} e = step (λ s. record {
  prf =
      let X : SProp 𝓤 = ⋆ 𝓛 (front n Γ) in
      let P : SProp 𝓤 = sep 𝓤 X (emp 𝓤) in
      via 𝓤 (sep 𝓤 X (⋆ 𝓛 (back n Γ))) (apart 𝓛 n Γ)
      (via 𝓤 (release 𝓤 𝓛.H E P) (subst (λ (Δ : List (Item 𝓤)). ent 𝓤 (sep 𝓤 X (⋆ 𝓛 Δ)) (release 𝓤 𝓛.H E P)) (sym e) (freed 𝓛 E (holds (back n Γ) []) [] X))
      (via 𝓤 (sep 𝓤 (emp 𝓤) (release 𝓤 𝓛.H E (aim 𝓤 𝓛.H g)))
      (beside 𝓛 E P (emp 𝓤) (aim 𝓤 𝓛.H g) (via 𝓤 (aim 𝓤 𝓛.H g) (via 𝓤 X (fst∗ 𝓤 X (emp 𝓤)) s.prf) (emp∗ 𝓤 (aim 𝓤 𝓛.H g))))
      (snd∗ 𝓤 (emp 𝓤) (release 𝓤 𝓛.H E (aim 𝓤 𝓛.H g)))));
})
