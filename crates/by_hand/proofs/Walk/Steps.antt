-- Shorter words for what a walk does most.
--     var n            a local is read: it is entry n of the context
--     part n f         so is a part of one that is a struct: f names the types of its parts, and which part it is
--     counts n, refers n   so is the count, or the reference, of a slice
--     sets, resets     a local that holds nothing, or something, is assigned: it is entry n
--     receives, replaces   a local that holds nothing, or something, gets what a call has returned
--     lose n           entry n is let go
--     relends          a slice is borrowed again: its reference and its count go into locals of their own.        relends_front    so is a part from its beginning on, with a count of its own
--     tests            the test of a `while`, with a premise for each way that it comes out
--     whens            an `if` with no `else`, and what stands after it
--     big_lit          a literal of 1,000 or more, which MIR writes `int_big`
-- Each step takes `Logic`, the rules of the kit's logic.
use mathlib.Core.Path.{◌≡◌, refl, sym, subst}
use mathlib.Core.Option.{some}
use Prim.Native.Nat.{ℕ, zero, suc, ◌+◌, ◌*◌, ◌<◌, ◌^◌}
use mathlib.Core.Bool.{Bool, not}
use mathlib.Core.List.{List, [], ◌∷◌}
use seplogic.Ra.Ura.{Ura}
use base.Fraction.{full_share}
use lib.Dec.{T}
use mir.Syntax.{Sym, Ty, Tys, tcons, tnil, ty_struct, Lifetime, Mutability, ty_ref, ty_int, w64, Width, deref, field, place, Opd as Operand, copy, int_big, Rv as RValue, addr_of, aggregate, Body, skip, seq, assign, cond, exit}
use mir.Fields.{get_v}
use mir.Val.{Val, Vals, Fits, WT, has_ty, vbool, vint, vptr, vstruct}
use base.Logic.{via, snd∗, guard_i, sep}
use base.Fml.{Share, fat, froom}
use prog.Memory.{field_at}
use prog.Wp.{Env, Calls, Loops, Wp, exits, after_seq, Spot, spot_of}
use types.Logic.{Logic}
use denote.Slice.{slice_ty, slice_val}
use types.Kit.{Item, ‵, mean, ⋆, nth, del, put, pull, Goal, Post, any_q, post, prop, runs, lands, Seq, Step, step, ◌$◌}
use types.Part.{Part, whole, sub, look_in, agg}
use types.Run.{Walks, Finds, Opd, Rv, look, init, store, stop, hop, fld, from, load, and_then, no_more, addr, assigns, land, first, branches, skips, jumps}

-- A part of a struct. Its types are named and not left to be found: to find them the checker would write the types of all parts out.
pub record Field : Type 0 where
  -- the types of all parts
  pub parts : Tys
  -- which part it is, its type, and where it lies
  pub number : ℕ
  pub type : Ty
  pub at : ℕ
  pub stands : field_at zero parts number ≡ some (type, at)

-- So many 64-bit numbers, and one of them.
abbrev pub words : ℕ → Tys
words zero = tnil
words (suc n) = tcons (ty_int w64) (words n)

abbrev pub word : (n k : ℕ) → field_at zero (words n) k ≡ some (ty_int w64, k * 8) → Field
word n k stands = record { parts = words n; number = k; type = ty_int w64; at = k * 8; stands = stands }

module _ {M : Type 1} {𝓤 : Ura M} {𝓛 : Logic 𝓤} {K : Type 0} where
  open 𝓛 use {H}

  at_local : K → {Γ : List (Item 𝓤)} {E : Env 𝓤 H} {x : ℕ} {sp : Spot 𝓤 H} → spot_of 𝓤 H E x ≡ sp → Finds K 𝓛 Γ E (place x []) sp
  at_local t {Γ} {E} {x} e = subst (λ (sp : Spot 𝓤 H). Finds K 𝓛 Γ E (place x []) sp) e (from t (stop t))

  cell_in : K → {i : Item 𝓤} {q : Share} {τ : Ty} {b : ℕ} {v : Val} → i ≡ ‵ (fat q τ b zero v) → Part K 𝓛 i q τ b zero v (λ u. ‵ (fat q τ b zero u))
  cell_in t {i} {q} {τ} {b} {v} e = subst (λ (j : Item 𝓤). Part K 𝓛 j q τ b zero v (λ u. ‵ (fat q τ b zero u))) (sym e) (whole t)

module _ {M : Type 1} {𝓤 : Ura M} {𝓛 : Logic 𝓤} {K : Type 0} {Γ : List (Item 𝓤)} where
  open 𝓛 use {H}

  pub lose : K → (n : ℕ) {G : Goal 𝓤 H} → Step K 𝓛 (del 𝓛 n Γ) G Γ G
  lose t n = step (λ s. record { prf = via 𝓤 (sep 𝓤 (mean 𝓛 (nth 𝓛 n Γ)) (⋆ 𝓛 (del 𝓛 n Γ))) (pull 𝓛 n Γ) (via 𝓤 (⋆ 𝓛 (del 𝓛 n Γ)) (snd∗ 𝓤 (mean 𝓛 (nth 𝓛 n Γ)) (⋆ 𝓛 (del 𝓛 n Γ))) s.prf) })

  module _ {E : Env 𝓤 H} where
    pub var : K → (n : ℕ) {x : ℕ} {q : Share} {v : Val} → nth 𝓛 n Γ ≡ ‵ (fat q (spot_of 𝓤 H E x).0 (spot_of 𝓤 H E x).1 zero v) → Opd K 𝓛 Γ E (copy (place x [])) v
    var t n e = load t (from t (stop t)) (look t n e)

    pub part : K → (n : ℕ) (f : Field) {x l : ℕ} {ν : Sym} {q : Share} {vs : Vals} → spot_of 𝓤 H E x ≡ (ty_struct ν f.parts, l, zero)
        → nth 𝓛 n Γ ≡ ‵ (fat q (ty_struct ν f.parts) l zero (vstruct vs)) → Opd K 𝓛 Γ E (copy (place x (field f.number ∷ []))) (get_v vs f.number)
    part t n f {x} {l} {ν} {q} {vs} ex en =
        load t (from t (subst (λ (sp : Spot 𝓤 H). Walks K 𝓛 Γ E sp (field f.number ∷ []) (f.type, l, zero + f.at)) (sym ex) (fld t f.stands (stop t))))
        (look_in t n (sub t {τs = f.parts} f.number {τ = f.type} {d = f.at} f.stands (cell_in t en)))

    pub counts : K → (n : ℕ) {x l b o m : ℕ} {ℓ : Lifetime} {μ : Mutability} {υ : Ty} {q : Share} → spot_of 𝓤 H E x ≡ (slice_ty (ty_ref ℓ μ υ), l, zero)
        → nth 𝓛 n Γ ≡ ‵ (fat q (slice_ty (ty_ref ℓ μ υ)) l zero (slice_val (b, o) m)) → Opd K 𝓛 Γ E (copy (place x (field 1 ∷ []))) (vint w64 m)
    counts t n {ℓ = ℓ} {μ} {υ} ex en = part t n (record { parts = tcons (ty_ref ℓ μ υ) (tcons (ty_int w64) tnil); number = 1; type = ty_int w64; at = 8; stands = refl }) ex en

    pub refers : K → (n : ℕ) {x l b o m : ℕ} {ℓ : Lifetime} {μ : Mutability} {υ : Ty} {q : Share} → spot_of 𝓤 H E x ≡ (slice_ty (ty_ref ℓ μ υ), l, zero)
        → nth 𝓛 n Γ ≡ ‵ (fat q (slice_ty (ty_ref ℓ μ υ)) l zero (slice_val (b, o) m)) → Opd K 𝓛 Γ E (copy (place x (field 0 ∷ []))) (vptr b o)
    refers t n {ℓ = ℓ} {μ} {υ} ex en = part t n (record { parts = tcons (ty_ref ℓ μ υ) (tcons (ty_int w64) tnil); number = 0; type = ty_ref ℓ μ υ; at = 0; stands = refl }) ex en

    pub big_lit : K → {w : Width} {n : ℕ} → Fits w n → Opd K 𝓛 Γ E (int_big w n) (vint w n)
    big_lit t {w} {n} z = record { go = λ Kt h. via 𝓤 (Kt (vint w n)) h (guard_i 𝓤 (Fits w n) (Kt (vint w n)) z) }

    module _ {C : Calls 𝓤 H} {Λ : Loops 𝓤 H} {q : Post 𝓤 H} where
      pub sets : K → {x : ℕ} {rv : RValue} {rest : Body} {v : Val} → Rv K 𝓛 Γ E rv v → (n : ℕ) → nth 𝓛 n Γ ≡ ‵ (froom (spot_of 𝓤 H E x).0 (spot_of 𝓤 H E x).1 zero) → T (has_ty (spot_of 𝓤 H E x).0 v) × WT v
          → Step K 𝓛 (put 𝓛 n (‵ (fat full_share (spot_of 𝓤 H E x).0 (spot_of 𝓤 H E x).1 zero v)) Γ) (runs C Λ E rest q) Γ (runs C Λ E (seq (assign (place x []) rv) rest) q)
      sets t r n e wt = assigns t r (from t (stop t)) (init t n e wt)

      pub resets : K → {x : ℕ} {rv : RValue} {rest : Body} {v v₀ : Val} → Rv K 𝓛 Γ E rv v → (n : ℕ) → nth 𝓛 n Γ ≡ ‵ (fat full_share (spot_of 𝓤 H E x).0 (spot_of 𝓤 H E x).1 zero v₀) → T (has_ty (spot_of 𝓤 H E x).0 v) × WT v
          → Step K 𝓛 (put 𝓛 n (‵ (fat full_share (spot_of 𝓤 H E x).0 (spot_of 𝓤 H E x).1 zero v)) Γ) (runs C Λ E rest q) Γ (runs C Λ E (seq (assign (place x []) rv) rest) q)
      resets t r n e wt = assigns t r (from t (stop t)) (store t n e wt)

      pub receives : K → {x : ℕ} {rest : Body} {v : Val} (n : ℕ) → nth 𝓛 n Γ ≡ ‵ (froom (spot_of 𝓤 H E x).0 (spot_of 𝓤 H E x).1 zero) → T (has_ty (spot_of 𝓤 H E x).0 v) × WT v
          → Step K 𝓛 (put 𝓛 n (‵ (fat full_share (spot_of 𝓤 H E x).0 (spot_of 𝓤 H E x).1 zero v)) Γ) (runs C Λ E rest q) Γ (lands C Λ E (place x []) v rest q)
      receives t n e wt = land t (from t (stop t)) (init t n e wt)

      pub replaces : K → {x : ℕ} {rest : Body} {v v₀ : Val} (n : ℕ) → nth 𝓛 n Γ ≡ ‵ (fat full_share (spot_of 𝓤 H E x).0 (spot_of 𝓤 H E x).1 zero v₀) → T (has_ty (spot_of 𝓤 H E x).0 v) × WT v
          → Step K 𝓛 (put 𝓛 n (‵ (fat full_share (spot_of 𝓤 H E x).0 (spot_of 𝓤 H E x).1 zero v)) Γ) (runs C Λ E rest q) Γ (lands C Λ E (place x []) v rest q)
      replaces t n e wt = land t (from t (stop t)) (store t n e wt)

      pub tests : K → {c : Operand} {n : ℕ} {b : Body} {y : Bool} → Opd K 𝓛 Γ E c (vbool y)
          → (T y → Seq K 𝓛 Γ (runs C Λ E b q)) → (T (not y) → Seq K 𝓛 Γ (prop (post 𝓤 H q (exits n)))) → Seq K 𝓛 Γ (runs C Λ E (seq (cond c skip (exit n)) b) q)
      tests t o held failed = first t $ branches t o (λ h. skips t $ record { prf = (held h).prf }) (λ h. jumps t $ record { prf = (failed h).prf })

      pub whens : K → {c : Operand} {a b : Body} {y : Bool} → Opd K 𝓛 Γ E c (vbool y)
          → (T y → Seq K 𝓛 Γ (runs C Λ E a (any_q (after_seq 𝓤 H (Wp 𝓤 H C Λ E b (post 𝓤 H q)) (post 𝓤 H q))))) → (T (not y) → Seq K 𝓛 Γ (runs C Λ E b q)) → Seq K 𝓛 Γ (runs C Λ E (seq (cond c a skip) b) q)
      whens t o held failed = first t $ branches t o held (λ h. skips t $ record { prf = (failed h).prf })

      -- `&*s` or `&mut *s` of a slice in the local x, which is entry n, or a part from its beginning on, of k elements: the reference goes into entry i, and the slice into entry j
      pub relends_front : K → {x p d : ℕ} {τ : Ty} {ℓ₀ ℓ ℓ' : Lifetime} {μ₀ μ μ' : Mutability} {υ₀ υ υ' : Ty} {count : Operand} {rest : Body} {l lp ld b o m k : ℕ} (n i j : ℕ) → k < 2 ^ 64
          → spot_of 𝓤 H E x ≡ (slice_ty (ty_ref ℓ₀ μ₀ υ₀), l, zero) → spot_of 𝓤 H E p ≡ (ty_ref ℓ μ υ, lp, zero) → spot_of 𝓤 H E d ≡ (slice_ty (ty_ref ℓ' μ' υ'), ld, zero)
          → nth 𝓛 n Γ ≡ ‵ (fat full_share (slice_ty (ty_ref ℓ₀ μ₀ υ₀)) l zero (slice_val (b, o) m)) → nth 𝓛 i Γ ≡ ‵ (froom (ty_ref ℓ μ υ) lp zero)
          → (let Γ₁ : List (Item 𝓤) = put 𝓛 i (‵ (fat full_share (ty_ref ℓ μ υ) lp zero (vptr b o))) Γ in
          Opd K 𝓛 Γ₁ E count (vint w64 k) → nth 𝓛 i Γ₁ ≡ ‵ (fat full_share (ty_ref ℓ μ υ) lp zero (vptr b o)) → nth 𝓛 j Γ₁ ≡ ‵ (froom (slice_ty (ty_ref ℓ' μ' υ')) ld zero)
          → Step K 𝓛 (put 𝓛 j (‵ (fat full_share (slice_ty (ty_ref ℓ' μ' υ')) ld zero (slice_val (b, o) k))) Γ₁) (runs C Λ E rest q) Γ
          (runs C Λ E (seq (assign (place p []) (addr_of (place x (field 0 ∷ deref τ ∷ [])))) (seq (assign (place d []) (aggregate (copy (place p []) ∷ count ∷ []))) rest)) q))
      relends_front t {x} {τ = τ} {b = b} {o} n i j fits ex ep ed en ei counted ei' ej' =
          let behind : Finds K 𝓛 Γ E (place x (field 0 ∷ deref τ ∷ [])) (τ, b, o) =
          from t (subst (λ (sp : Spot 𝓤 H). Walks K 𝓛 Γ E sp (field 0 ∷ deref τ ∷ []) (τ, b, o)) (sym ex) (fld t refl (hop t (look_in t n (sub t 0 refl (cell_in t en))) (stop t)))) in
          step (λ s. assigns t (addr t behind) (at_local t ep) (init t i ei (tt, tt)) $
          assigns t (agg t (and_then t (load t (at_local t ep) (look t i ei')) (and_then t counted (no_more t)))) (at_local t ed) (init t j ej' (tt, (tt, (record { fits = fits }, tt)))) $ s)

      -- of all its elements
      pub relends : K → {x p d : ℕ} {τ : Ty} {ℓ₀ ℓ ℓ' : Lifetime} {μ₀ μ μ' : Mutability} {υ₀ υ υ' : Ty} {rest : Body} {l lp ld b o m : ℕ} (n i j : ℕ) → m < 2 ^ 64
          → spot_of 𝓤 H E x ≡ (slice_ty (ty_ref ℓ₀ μ₀ υ₀), l, zero) → spot_of 𝓤 H E p ≡ (ty_ref ℓ μ υ, lp, zero) → spot_of 𝓤 H E d ≡ (slice_ty (ty_ref ℓ' μ' υ'), ld, zero)
          → nth 𝓛 n Γ ≡ ‵ (fat full_share (slice_ty (ty_ref ℓ₀ μ₀ υ₀)) l zero (slice_val (b, o) m)) → nth 𝓛 i Γ ≡ ‵ (froom (ty_ref ℓ μ υ) lp zero)
          → (let Γ₁ : List (Item 𝓤) = put 𝓛 i (‵ (fat full_share (ty_ref ℓ μ υ) lp zero (vptr b o))) Γ in
          nth 𝓛 n Γ₁ ≡ ‵ (fat full_share (slice_ty (ty_ref ℓ₀ μ₀ υ₀)) l zero (slice_val (b, o) m)) → nth 𝓛 i Γ₁ ≡ ‵ (fat full_share (ty_ref ℓ μ υ) lp zero (vptr b o)) → nth 𝓛 j Γ₁ ≡ ‵ (froom (slice_ty (ty_ref ℓ' μ' υ')) ld zero)
          → Step K 𝓛 (put 𝓛 j (‵ (fat full_share (slice_ty (ty_ref ℓ' μ' υ')) ld zero (slice_val (b, o) m))) Γ₁) (runs C Λ E rest q) Γ
          (runs C Λ E (seq (assign (place p []) (addr_of (place x (field 0 ∷ deref τ ∷ [])))) (seq (assign (place d []) (aggregate (copy (place p []) ∷ copy (place x (field 1 ∷ [])) ∷ []))) rest)) q))
      relends t {x} {ℓ = ℓ} {μ = μ} {υ = υ} {l = l} {lp} {b = b} {o} n i j fits ex ep ed en ei en' ei' ej' =
          let Γ₁ : List (Item 𝓤) = put 𝓛 i (‵ (fat full_share (ty_ref ℓ μ υ) lp zero (vptr b o))) Γ in
          let count : Finds K 𝓛 Γ₁ E (place x (field 1 ∷ [])) (ty_int w64, l, zero + 8) =
          from t (subst (λ (sp : Spot 𝓤 H). Walks K 𝓛 Γ₁ E sp (field 1 ∷ []) (ty_int w64, l, zero + 8)) (sym ex) (fld t refl (stop t))) in
          relends_front t n i j fits ex ep ed en ei (load t count (look_in t n (sub t 1 refl (cell_in t en')))) ei' ej'
