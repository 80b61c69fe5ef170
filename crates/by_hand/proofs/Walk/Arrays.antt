-- A local array `[x; n]` in a walk, lent as a `&mut [T]` until the function returns. Each call then borrows that slice again.
--     repeated         the machine value of `[x; n]` is an array's
--     lends_array      the array, which stands first, is lent: a token, the slice, and the lender's part
--     typed_array      it is of the array's type
--     array_back       they are given back, and the local is room.        array_given      so it is where the slice went to a call for good
-- Each step takes `Logic`, the rules of the kit's logic.
use mathlib.Core.Path.{refl, sym, subst}
use Prim.Native.Nat.{ℕ, zero, suc}
use mathlib.Core.List.{List, [], ◌∷◌}
use lib.Dec.{T}
use lib.ListN.{length, replicate, length-replicate}
use seplogic.Ra.Ura.{Ura}
use base.Fraction.{full_share}
use mir.Syntax.{named, ty_array}
use mir.Raw.{raw as raw_ty}
use mir.Val.{Val, WT, has_ty}
use base.Logic.{ent, emp, via, never_e}
use base.Fml.{GName, fsep, feq, fat, froom, flft, fdead, flent, fres}
use types.Logic.{Logic, sem}
use types.Kit.{Goal, Soaks, Item, ‵, ◌⊛◌, some, later, Seq, Step, step, ◌$◌, move, use0, use1, use3, drop, split, pick, rewrite, fsplit, fjoin, fpick, fpack, await}
use types.SemTy.{cells, Arr}
use types.Share.{arr_parts}
use types.Tokens.{lft_new, lft_end}
use denote.RattleType.{RattleType}
use denote.Shadow.{shadow}
use denote.Laws.{Is, Copy, Lawful}
use denote.Memory.{cell_raw, raw_all, lone, mem, part_at, shares, part_of}
use denote.Array.{Array, array_val, each, Array-Lawful, Array-repeat}
use denote.ArrayMemory.{Single, Array-apart, Array-whole}
use denote.Ref.{MutBor}
use denote.Slice.{slice_val, MutSlice, Room, finally, res-finally, heres, coded_holeys}
use denote.Lend.{Held, lends_slice, slice_back}
use denote.Index.{row, whole_out, whole_in}

module _ (R : RattleType) (x : R.Denot) (u : Val) (is : Is R x (u ∷ [])) where
  all_are : (n : ℕ) → shadow (each R.Denot R.own_val (replicate n x) (replicate n u))
  all_are zero = tt
  all_are (suc n) = (is, all_are n)

  pub repeated : (n : ℕ) → Is (Array R n) (replicate n x) (array_val (replicate n u) ∷ [])
  repeated n = (replicate n u, ((refl, length-replicate n x), all_are n))

  pub typed_array : {M : Type 1} {𝓤 : Ura M} (𝓛 : Logic 𝓤) → Lawful 𝓛 R → (n : ℕ) → T (has_ty (ty_array (lone R.mir) n) (array_val (replicate n u))) × WT (array_val (replicate n u))
  typed_array {𝓤 = 𝓤} 𝓛 lawful n = ((Array-Lawful 𝓛 R lawful n).typed (replicate n x) _ (repeated n)).0

-- the slice of a whole local that lies at b
abbrev pub array_at : {X : Type 0} → ℕ → GName → List X → MutBor (List X)
array_at b γ ys = record { ref_ptr = (b, 0); ghost_name = γ; now = ys }

cell_room : {M : Type 1} {𝓤 : Ura M} (𝓛 : Logic 𝓤) (R : RattleType) (n b : ℕ) (vs : List Val) → ent 𝓤 (sem 𝓛 (cell_raw full_share (raw_ty (ty_array (lone R.mir) n) ∷ []) vs b 0)) (𝓛.H.room (ty_array (lone R.mir) n) b 0)
cell_room {𝓤 = 𝓤} 𝓛 R n b [] = never_e 𝓤 (𝓛.H.room (ty_array (lone R.mir) n) b 0)
cell_room {𝓤 = 𝓤} 𝓛 R n b (v ∷ []) = via 𝓤 (𝓛.H.at full_share (ty_array (lone R.mir) n) b 0 v) (𝓛.laws.raw_at full_share (ty_array (lone R.mir) n) b 0 v) (𝓛.laws.at_room (ty_array (lone R.mir) n) b 0 v)
cell_room {𝓤 = 𝓤} 𝓛 R n b (v ∷ w ∷ vs) = never_e 𝓤 (𝓛.H.room (ty_array (lone R.mir) n) b 0)

module _ {M : Type 1} {𝓤 : Ura M} {𝓛 : Logic 𝓤} {K : Type 0} {Γ : List (Item 𝓤)} {G : Goal 𝓤 𝓛.H} where
  pub lends_array : K → Soaks G → (R : RattleType) → Single R.mir → Copy 𝓛 R → (n b : ℕ) → Room R n → (x : R.Denot) (u : Val) → ent 𝓤 (emp 𝓤) (sem 𝓛 (R.own_val x (u ∷ [])))
      → ((ν : ℕ) (γ : GName) → Seq K 𝓛 (‵ (flft (ν ∷ []) full_share) ∷ ‵ ((MutSlice (named 0) (ν ∷ []) R).own_val (array_at b γ (replicate n x)) (slice_val (b, 0) n ∷ [])) ∷ ‵ (flent (ν ∷ []) (Held R n b 0 γ)) ∷ Γ) G)
      → Seq K 𝓛 (‵ (fat full_share (ty_array (lone R.mir) n) b 0 (array_val (replicate n u))) ∷ Γ) G
  unfolding part_of
  lends_array t z R single Cp n b room x u made k =
      let ys : List R.Denot = replicate n x in
      lft_new t z (λ ν. move t (1 ∷ []) $ use1 𝓛 (‵ (fat full_share (raw_ty (ty_array (lone R.mir) n)) b 0 (array_val (replicate n u)))) (𝓛.laws.at_raw full_share (ty_array (lone R.mir) n) b 0 (array_val (replicate n u))) $
      use0 𝓛 (‵ (R.own_val x (u ∷ []))) made $ use1 𝓛 (‵ ((Array R n).own_val ys (array_val (replicate n u) ∷ []))) (Array-repeat 𝓛 R Cp n x u) $ move t (1 ∷ 0 ∷ []) $ fjoin t $
      fpack t (List Val) (λ vs. fsep (cell_raw full_share (raw_all (Array R n).mir) vs b 0) ((Array R n).own_val ys vs)) (array_val (replicate n u) ∷ []) $
      use1 𝓛 (‵ ((arr_parts (shares R) n).part full_share ys b 0)) (Array-apart 𝓛 R full_share single n ys b 0) $ fsplit t $ drop t $ use1 𝓛 (‵ (cells (mem R) ys b 0)) (whole_in 𝓛 R ys b 0) $
      use1 𝓛 (later (some (λ (γ : GName). ‵ ((MutSlice (named 0) (ν ∷ []) R).own_val (array_at b γ ys) (slice_val (b, 0) (length ys) ∷ [])) ⊛ ‵ (flent (ν ∷ []) (Held R (length ys) b 0 γ)))))
      (lends_slice 𝓛 R (named 0) (ν ∷ []) ys b 0 (subst (Room R) (sym (length-replicate n x)) room)) $ await t z $ pick t (λ γ. split t $
      rewrite t 0 (λ (m : ℕ). ‵ ((MutSlice (named 0) (ν ∷ []) R).own_val (array_at b γ ys) (slice_val (b, 0) m ∷ []))) (length-replicate n x) refl $
      rewrite t 1 (λ (m : ℕ). ‵ (flent (ν ∷ []) (Held R m b 0 γ))) (length-replicate n x) refl $ move t (2 ∷ []) $ k ν γ))

  -- what an array's slice came to last, and the lender's part, once the lifetime has ended
  ends_array : K → Soaks G → (R : RattleType) (n b : ℕ) (γ : GName) (zs : List R.Denot) {ν : ℕ}
      → Step K 𝓛 (‵ (froom (ty_array (lone R.mir) n) b 0) ∷ Γ) G (‵ (finally R γ zs) ∷ ‵ (fdead (ν ∷ [])) ∷ ‵ (flent (ν ∷ []) (Held R n b 0 γ)) ∷ Γ) G
  unfolding part_of
  ends_array t z R n b γ zs {ν} = step (λ s. move t (1 ∷ 2 ∷ 0 ∷ []) $
      use3 𝓛 (later (‵ ((Arr (mem R) n).own_at zs b 0))) (slice_back 𝓛 R (ν ∷ []) γ zs n b 0) $ await t z $ fsplit t $ move t (1 ∷ []) $ use1 𝓛 (‵ (row R full_share zs b 0)) (whole_out 𝓛 R zs b 0) $
      move t (1 ∷ 0 ∷ []) $ fjoin t $ use1 𝓛 (‵ (part_at (Array R n) full_share zs b 0)) (Array-whole 𝓛 R full_share n zs b 0) $
      fpick t (λ us. fsplit t $ use1 𝓛 (‵ (froom (ty_array (lone R.mir) n) b 0)) (cell_room 𝓛 R n b us) $ move t (1 ∷ []) $ drop t $ s))

  pub array_back : K → Soaks G → (R : RattleType) (n b : ℕ) (γ : GName) (zs : List R.Denot) {vs : List Val} {ν : ℕ}
      → Step K 𝓛 (‵ (froom (ty_array (lone R.mir) n) b 0) ∷ Γ) G (‵ (flft (ν ∷ []) full_share) ∷ ‵ ((MutSlice (named 0) (ν ∷ []) R).own_val (array_at b γ zs) vs) ∷ ‵ (flent (ν ∷ []) (Held R n b 0 γ)) ∷ Γ) G
  array_back t z R n b γ zs {vs} {ν} = step (λ s.
      lft_end t z $ move t (1 ∷ []) $ fsplit t $ drop t $ fsplit t $ use1 𝓛 (‵ (fres γ ((coded_holeys R).code (heres R zs)))) (𝓛.names.obs-res γ ((coded_holeys R).code (heres R zs))) $
      use1 𝓛 (‵ (finally R γ zs)) (res-finally 𝓛 (named 0) (ν ∷ []) R γ zs) $ move t (1 ∷ []) $ drop t $ ends_array t z R n b γ zs $ s)

  -- where the slice was given for good to a call, which says its last list: the borrow that it hands back is let go before (`Lent.antt`'s `says_last`)
  pub array_given : K → Soaks G → (R : RattleType) (n b : ℕ) (γ : GName) (zs : List R.Denot) {m ν : ℕ}
      → Step K 𝓛 (‵ (froom (ty_array (lone R.mir) n) b 0) ∷ Γ) G (‵ (flft (ν ∷ []) full_share) ∷ ‵ (fsep (finally R γ zs) (feq ℕ (length zs) m)) ∷ ‵ (flent (ν ∷ []) (Held R n b 0 γ)) ∷ Γ) G
  array_given t z R n b γ zs = step (λ s. lft_end t z $ move t (1 ∷ []) $ fsplit t $ move t (1 ∷ []) $ drop t $ ends_array t z R n b γ zs $ s)
