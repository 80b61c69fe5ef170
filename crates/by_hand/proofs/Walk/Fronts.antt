-- `&s[..k]` of a `&[T]` in a walk. Of a `&mut [T]` it is taken once that is lent shared.
--     front_of         the reference to the first k elements
--     number_copy      an unsigned number is Copy
--     fronts           the slice becomes the `&[T]` on its first k elements, of the same lifetime, whose token stands first before and after
-- The elements are of a type that is Copy. The step takes `Logic`, the rules of the kit's logic.
use mathlib.Core.Path.{sym, ap}
use Prim.Native.Nat.{ℕ, ◌≤◌}
use mathlib.Core.List.{List, [], ◌∷◌}
use lib.ListN.{length, take}
use lib.Seq.{length-take-le}
use seplogic.Ra.Ura.{Ura}
use mir.Syntax.{named, Width}
use mir.Val.{Val}
use base.Fml.{Lft, Share, flft}
use types.Logic.{Logic}
use types.Kit.{Goal, Soaks, Item, ‵, ◌⊛◌, later, Seq, ◌$◌, move, use2, split, fsplit, fjoin, await}
use denote.Plain.{UInt, uint_vals, uint_Tells, uint_copy}
use denote.Copied.{uint_Copied}
use denote.RattleType.{RattleType}
use denote.Shadow.{pure_l, pure_i}
use denote.Ref.{Bor}
use denote.Slice.{slice_val, ShrSlice, room, shr_slice_at}
use borrow.Table.Copies.{Cp}
use borrow.Table.Owned as O
use borrow.Rule.Slice.Prefix.{sl_ptr_pˢ, shs_prefix_same}

abbrev pub front_of : {X : Type 0} → Bor (List X) → ℕ → Bor (List X)
front_of x k = sl_ptr_pˢ x k

abbrev pub number_copy : (w : Width) → Cp (UInt w)
number_copy w = record { vals = uint_vals w; tells = uint_Tells w; copy = λ 𝓛. uint_copy 𝓛 w; copied = λ 𝓛. uint_Copied 𝓛 w; single = tt }

module _ {M : Type 1} {𝓤 : Ura M} {𝓛 : Logic 𝓤} {K : Type 0} {Γ : List (Item 𝓤)} {G : Goal 𝓤 𝓛.H} where
  pub fronts : K → Soaks G → (R : RattleType) → Cp R → {κ : Lft} {q : Share} (x : Bor (List R.Denot)) (vs : List Val) (k : ℕ) → k ≤ length x.now
      → Seq K 𝓛 (‵ (flft κ q) ∷ ‵ ((ShrSlice (named 0) κ R).own_val (front_of x k) (slice_val x.ref_ptr k ∷ [])) ∷ Γ) G
      → Seq K 𝓛 (‵ (flft κ q) ∷ ‵ ((ShrSlice (named 0) κ R).own_val x vs) ∷ Γ) G
  fronts t z R copy {κ} {q} x vs k within next =
      let many : ℕ = length x.now in
      move t (1 ∷ []) $ fsplit t $ pure_l t (shr_slice_at R x vs) (λ p. pure_i t (room R many) (tt, tt) p.1 $ fjoin t $
      use2 𝓛 (later (‵ ((O.ShrSlice (named 0) κ R).own_val (front_of x k)) ⊛ ‵ (flft κ q))) (shs_prefix_same 𝓛 R κ q x.ref_ptr.0 x.ref_ptr.1 x.now k) $ await t z $ split t $
      fsplit t $ pure_l t (room R (length (take k x.now))) (λ fits.
      pure_i t (shr_slice_at R (front_of x k) (slice_val x.ref_ptr k ∷ [])) (tt, (tt, tt)) (ap (λ (m : ℕ). slice_val x.ref_ptr m ∷ []) (sym (length-take-le k x.now within)), fits) $ fjoin t $ move t (1 ∷ 0 ∷ []) $ next))
