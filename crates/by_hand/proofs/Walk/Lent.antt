-- A `&mut [T]` that is lent for one call and comes back. The token of its lifetime and what it owns stand first, before and after.
--     lends_shared     it is lent as a `&[T]`, for a lifetime of its own, where the logic's law `Shares` holds of T.        shared_back      that lifetime ends, and it is had as it was
--     lends_again      it is lent as a `&mut [T]`.        comes_back       that lifetime ends, and it is had at the last list that the call says
--     twice            a `&[T]` is had twice, where T has the laws of what is shared (`RowLaws`): one goes to a call
--     measures         of a `&mut [T]` that was given for good: its last list is as long as the list passed
--     says_last, measures_beside      the same two steps where the borrow stands beside what is said, as a call leaves it
-- Where the call is the last that uses it, it is given for good instead: its own token and what it owns go to the call as they are.
-- Each step takes `Logic`, the rules of the kit's logic.
use mathlib.Core.Path.{◌≡◌, refl, sym, ◌∙◌, ap, subst}
use Prim.Native.Nat.{ℕ}
use mathlib.Core.List.{List, [], ◌∷◌}
use lib.ListN.{length}
use seplogic.Ra.Ura.{Ura}
use base.Fraction.{full_share, left, right}
use mir.Syntax.{named}
use mir.Val.{Val}
use base.Logic.{ent, sep, via}
use base.Fml.{Lft, GName, Share, Fml, feq, fsep, flft, fobs, fauth, flent, fobor}
use types.Logic.{Logic, sem}
use types.Kit.{Goal, Soaks, Item, ‵, raw, ◌⊛◌, some, later, mean, ⋆, nth, del, put, pull, fill, Seq, Step, step, ◌$◌, ◌∵◌, !, qed, by, move, use1, use2, use3, drop, split, join, pick, rewrite, fsplit, fjoin, feq_l, feq_i, await}
use types.SemTy.{cells, Arr}
use types.Share.{arr_parts}
use types.Tokens.{lft_new, lft_end, lent_back}
use contract.BorrowLft.{meet_⊑_left, meet_⊑_right}
use denote.RattleType.{RattleType, RowLaws}
use denote.Shares.{Shares}
use denote.Shadow.{shadow, pure_l, pure_i}
use denote.Memory.{mem, shares}
use denote.Ref.{Bor, MutBor, as_bor}
use denote.Slice.{slice_val, mut_slice_vals, MutSlice, ShrSlice, Room, mut_slice_at, heres, coded_holeys, finally, shr_slice_copy}
use denote.Lend.{Held, lends_slice, lends_shr_slice, slice_back}
use denote.Index.{row, whole_out, whole_in, opens_slice, closes_slice}

-- the reference under another ghost name, and with another list behind it
abbrev pub named_as : {X : Type 0} → MutBor X → GName → MutBor X
named_as x δ = record { ref_ptr = x.ref_ptr; ghost_name = δ; now = x.now }

abbrev pub holding : {X : Type 0} → MutBor X → X → MutBor X
holding x l = record { ref_ptr = x.ref_ptr; ghost_name = x.ghost_name; now = l }

module _ (R : RattleType) (κ : Lft) (q : Share) (x : MutBor (List R.Denot)) where
  -- its borrow, open at the share r of its lifetime's token, and both halves of its ghost name
  abbrev open_borrow : Share → Fml
  open_borrow r = fsep (fobor κ r (Held R (length x.now) x.ref_ptr.0 x.ref_ptr.1 x.ghost_name)) (fsep (fobs x.ghost_name ((coded_holeys R).code (heres R x.now))) (fauth x.ghost_name ((coded_holeys R).code (heres R x.now))))

  -- what the lender keeps, while it is lent for the lifetime ν as a `&[T]`, or as a `&mut [T]` under the name δ. In the first case half of the token stands beside the borrow: it is what the elements are shared out with
  abbrev pub KeptShared : ℕ → Fml
  KeptShared ν = fsep (flent (ν ∷ []) ((arr_parts (shares R) (length x.now)).part full_share x.now x.ref_ptr.0 x.ref_ptr.1)) (fsep (open_borrow (left q)) (flft κ (right q)))

  abbrev pub KeptAgain : ℕ → GName → Fml
  KeptAgain ν δ = fsep (flent (ν ∷ []) (Held R (length x.now) x.ref_ptr.0 x.ref_ptr.1 δ)) (open_borrow q)

module _ {M : Type 1} {𝓤 : Ura M} {𝓛 : Logic 𝓤} {K : Type 0} {Γ : List (Item 𝓤)} {G : Goal 𝓤 𝓛.H} where
  -- the elements' type can be shared out at κ: of a Copy type `Table/Copies.antt`'s `Shares-copy` shows it, of a struct, an array or a `&mut` of such `Denote/Shares.antt`
  pub lends_shared : K → Soaks G → (R : RattleType) {κ : Lft} {q : Share} → Shares 𝓛 R κ → (x : MutBor (List R.Denot)) (vs : List Val)
      → (shadow (mut_slice_at R x vs) → (ν : ℕ) → Seq K 𝓛 (‵ (flft (ν ∷ []) full_share) ∷ ‵ ((ShrSlice (named 0) (ν ∷ []) R).own_val (as_bor x) vs) ∷ ‵ (KeptShared R κ q x ν) ∷ Γ) G)
      → Seq K 𝓛 (‵ (flft κ q) ∷ ‵ ((MutSlice (named 0) κ R).own_val x vs) ∷ Γ) G
  lends_shared t z R {κ} {q} law x vs k =
      let b : ℕ = x.ref_ptr.0 in let o : ℕ = x.ref_ptr.1 in let ys : List R.Denot = x.now in
      use1 𝓛 (‵ (flft κ (left q)) ⊛ ‵ (flft κ (right q))) (𝓛.lfts.lft_split κ q) $ split t $ move t (2 ∷ 0 ∷ []) $
      fsplit t $ pure_l t (mut_slice_at R x vs) (λ p. fsplit t $ opens_slice t z R ys b o $ feq_i t ℕ (length ys) (length ys) refl $ fjoin t $
      lft_new t z (λ ν. move t (5 ∷ 0 ∷ []) $ join t $ move t (1 ∷ 0 ∷ []) $
      use2 𝓛 (later ((‵ ((ShrSlice (named 0) (ν ∷ []) R).own_val (as_bor x) (mut_slice_vals x)) ⊛ ‵ (flent (ν ∷ []) ((arr_parts (shares R) (length ys)).part full_share ys b o))) ⊛ (‵ (flft κ (right q)) ⊛ ‵ (flft (ν ∷ []) full_share))))
      (lends_shr_slice 𝓛 R (named 0) (ν ∷ []) full_share ys b o p.1 κ law ((κ, right q) ∷ (ν ∷ [], full_share) ∷ []) (meet_⊑_left κ (ν ∷ [])) (meet_⊑_right κ (ν ∷ []))) $ await t z $
      split t $ split t $ move t (2 ∷ []) $ split t $ rewrite t 2 (λ (us : List Val). ‵ ((ShrSlice (named 0) (ν ∷ []) R).own_val (as_bor x) us)) (sym p.0) refl $
      -- [half of κ's token; ν's token; the `&`; the lender's part; the open borrow; its name's halves]
      move t (5 ∷ 6 ∷ []) $ fjoin t $ move t (5 ∷ 0 ∷ []) $ fjoin t $ fjoin t $ move t (3 ∷ 0 ∷ []) $ fjoin t $ move t (1 ∷ 2 ∷ 0 ∷ []) $ k p ν))

  pub shared_back : K → Soaks G → (R : RattleType) {κ : Lft} {q : Share} (x : MutBor (List R.Denot)) (vs : List Val) {ν : ℕ} → shadow (mut_slice_at R x vs)
      → Step K 𝓛 (‵ (flft κ q) ∷ ‵ ((MutSlice (named 0) κ R).own_val x vs) ∷ Γ) G (‵ (flft (ν ∷ []) full_share) ∷ ‵ (KeptShared R κ q x ν) ∷ Γ) G
  shared_back t z R {κ} {q} x vs p = step (λ s.
      lft_end t z $ move t (1 ∷ []) $ fsplit t $ move t (2 ∷ 0 ∷ []) $ lent_back t z $ fsplit t $ drop t $ move t (1 ∷ []) $ fsplit t $ fsplit t $ move t (1 ∷ []) $ fsplit t $ move t (4 ∷ 2 ∷ 0 ∷ 1 ∷ []) $
      closes_slice t z R x.now x.now refl x.ref_ptr.0 x.ref_ptr.1 $ fjoin t $ pure_i t (mut_slice_at R x vs) (tt, (tt, tt)) p $ fjoin t $
      move t (1 ∷ 2 ∷ []) $ use2 𝓛 (‵ (flft κ q)) (𝓛.lfts.lft_join κ q) $ s)

  pub lends_again : K → Soaks G → (R : RattleType) {κ : Lft} {q : Share} (x : MutBor (List R.Denot)) (vs : List Val)
      → (shadow (mut_slice_at R x vs) → (ν : ℕ) (δ : GName) → Seq K 𝓛 (‵ (flft (ν ∷ []) full_share) ∷ ‵ ((MutSlice (named 0) (ν ∷ []) R).own_val (named_as x δ) vs) ∷ ‵ (KeptAgain R κ q x ν δ) ∷ Γ) G)
      → Seq K 𝓛 (‵ (flft κ q) ∷ ‵ ((MutSlice (named 0) κ R).own_val x vs) ∷ Γ) G
  lends_again t z R {κ} {q} x vs k =
      let b : ℕ = x.ref_ptr.0 in let o : ℕ = x.ref_ptr.1 in let ys : List R.Denot = x.now in
      move t (1 ∷ []) $ fsplit t $ pure_l t (mut_slice_at R x vs) (λ p. fsplit t $ opens_slice t z R ys b o $ use1 𝓛 (‵ (cells (mem R) ys b o)) (whole_in 𝓛 R ys b o) $
      lft_new t z (λ ν. move t (1 ∷ []) $
      use1 𝓛 (later (some (λ (δ : GName). ‵ ((MutSlice (named 0) (ν ∷ []) R).own_val (named_as x δ) (mut_slice_vals x)) ⊛ ‵ (flent (ν ∷ []) (Held R (length ys) b o δ)))))
      (lends_slice 𝓛 R (named 0) (ν ∷ []) ys b o p.1) $ await t z $ pick t (λ δ. split t $ rewrite t 0 (λ (us : List Val). ‵ ((MutSlice (named 0) (ν ∷ []) R).own_val (named_as x δ) us)) (sym p.0) refl $
      move t (4 ∷ 5 ∷ []) $ fjoin t $ move t (4 ∷ 0 ∷ []) $ fjoin t $ move t (2 ∷ 0 ∷ []) $ fjoin t $ move t (2 ∷ 1 ∷ 0 ∷ []) $ k p ν δ)))

  -- zs is the last list, as the call leaves it said
  pub comes_back : K → Soaks G → (R : RattleType) {κ : Lft} {q : Share} (x : MutBor (List R.Denot)) (vs : List Val) {ν : ℕ} (δ : GName) (zs : List R.Denot) → shadow (mut_slice_at R x vs)
      → (length zs ≡ length x.now → shadow (mut_slice_at R (holding x zs) vs) → Seq K 𝓛 (‵ (flft κ q) ∷ ‵ ((MutSlice (named 0) κ R).own_val (holding x zs) vs) ∷ Γ) G)
      → Seq K 𝓛 (‵ (flft (ν ∷ []) full_share) ∷ ‵ (fsep (finally R δ zs) (feq ℕ (length zs) (length x.now))) ∷ ‵ (KeptAgain R κ q x ν δ) ∷ Γ) G
  comes_back t z R x vs {ν} δ zs p k =
      let b : ℕ = x.ref_ptr.0 in let o : ℕ = x.ref_ptr.1 in let ys : List R.Denot = x.now in
      lft_end t z $ move t (1 ∷ []) $ fsplit t $ move t (1 ∷ []) $ feq_l t (λ same.
      let p' : shadow (mut_slice_at R (holding x zs) vs) = (p.0 ∙ ap (λ (m : ℕ). slice_val x.ref_ptr m ∷ []) (sym same), subst (Room R) (sym same) p.1) in
      move t (2 ∷ []) $ fsplit t $ move t (3 ∷ 0 ∷ 2 ∷ []) $
      use3 𝓛 (later (‵ ((Arr (mem R) (length ys)).own_at zs b o))) (slice_back 𝓛 R (ν ∷ []) δ zs (length ys) b o) $ await t z $ fsplit t $ drop t $ use1 𝓛 (‵ (row R full_share zs b o)) (whole_out 𝓛 R zs b o) $
      move t (1 ∷ []) $ fsplit t $ move t (1 ∷ []) $ fsplit t $ move t (3 ∷ 2 ∷ 0 ∷ 1 ∷ []) $ closes_slice t z R ys zs same b o $ fjoin t $ pure_i t (mut_slice_at R (holding x zs) vs) (tt, (tt, tt)) p' $ fjoin t $ move t (1 ∷ 0 ∷ []) $ k same p')

  -- a `&[T]` is had twice: one goes to a call
  pub twice : K → (R : RattleType) → RowLaws R → (κ : Lft) (x : Bor (List R.Denot)) (vs : List Val) → Step K 𝓛 (‵ ((ShrSlice (named 0) κ R).own_val x vs) ∷ ‵ ((ShrSlice (named 0) κ R).own_val x vs) ∷ Γ) G (‵ ((ShrSlice (named 0) κ R).own_val x vs) ∷ Γ) G
  twice t R laws κ x vs = step (λ s. use1 𝓛 (‵ ((ShrSlice (named 0) κ R).own_val x vs) ⊛ ‵ ((ShrSlice (named 0) κ R).own_val x vs)) ((shr_slice_copy 𝓛 (named 0) κ R laws).twice x vs) $ split t $ s)

  -- entry n says a last list, and that it is as long as the list passed
  pub measures : K → (n : ℕ) {P : Fml} {m k : ℕ} → nth 𝓛 n Γ ≡ ‵ (fsep P (feq ℕ m k)) → (m ≡ k → Seq K 𝓛 (put 𝓛 n (‵ P) Γ) G) → Seq K 𝓛 Γ G
  measures t n {P} {m} {k} e next = record {
    prf = via 𝓤 (sep 𝓤 (sem 𝓛 (fsep P (feq ℕ m k))) (⋆ 𝓛 (del 𝓛 n Γ)))
        (subst (λ (i : Item 𝓤). ent 𝓤 (⋆ 𝓛 Γ) (sep 𝓤 (mean 𝓛 i) (⋆ 𝓛 (del 𝓛 n Γ)))) e (pull 𝓛 n Γ))
        (qed 𝓛 (‵ (fsep P (feq ℕ m k)) ∷ raw (⋆ 𝓛 (del 𝓛 n Γ)) ∷ []) ∵ fsplit ! $ move ! (1 ∷ []) $ feq_l ! (λ same. by ! (via 𝓤 (⋆ 𝓛 (put 𝓛 n (‵ P) Γ)) (fill 𝓛 n (‵ P) Γ) (next same).prf)));
  }

  -- what a call leaves of a `&mut [T]` says the last list and hands the borrow back. Here entry n is left with what is said: `comes_back` and `Arrays.antt`'s `array_given` take that
  pub says_last : K → (n : ℕ) {P B : Fml} → nth 𝓛 n Γ ≡ ‵ (fsep P B) → Step K 𝓛 (put 𝓛 n (‵ P) Γ) G Γ G
  says_last t n {P} {B} e = step (λ s. record {
    prf = via 𝓤 (sep 𝓤 (sem 𝓛 (fsep P B)) (⋆ 𝓛 (del 𝓛 n Γ)))
        (subst (λ (i : Item 𝓤). ent 𝓤 (⋆ 𝓛 Γ) (sep 𝓤 (mean 𝓛 i) (⋆ 𝓛 (del 𝓛 n Γ)))) e (pull 𝓛 n Γ))
        (qed 𝓛 (‵ (fsep P B) ∷ raw (⋆ 𝓛 (del 𝓛 n Γ)) ∷ []) ∵ fsplit ! $ move ! (1 ∷ []) $ drop ! $ by ! (via 𝓤 (⋆ 𝓛 (put 𝓛 n (‵ P) Γ)) (fill 𝓛 n (‵ P) Γ) s.prf));
  })

  -- `measures`, and the borrow stays beside the last list, as a `given_slice` is to have it at the end
  pub measures_beside : K → (n : ℕ) {P B : Fml} {m k : ℕ} → nth 𝓛 n Γ ≡ ‵ (fsep (fsep P (feq ℕ m k)) B) → (m ≡ k → Seq K 𝓛 (put 𝓛 n (‵ (fsep P B)) Γ) G) → Seq K 𝓛 Γ G
  measures_beside t n {P} {B} {m} {k} e next = record {
    prf = via 𝓤 (sep 𝓤 (sem 𝓛 (fsep (fsep P (feq ℕ m k)) B)) (⋆ 𝓛 (del 𝓛 n Γ)))
        (subst (λ (i : Item 𝓤). ent 𝓤 (⋆ 𝓛 Γ) (sep 𝓤 (mean 𝓛 i) (⋆ 𝓛 (del 𝓛 n Γ)))) e (pull 𝓛 n Γ))
        (qed 𝓛 (‵ (fsep (fsep P (feq ℕ m k)) B) ∷ raw (⋆ 𝓛 (del 𝓛 n Γ)) ∷ []) ∵ fsplit ! $ fsplit ! $ move ! (1 ∷ []) $ feq_l ! (λ same. fjoin ! $ by ! (via 𝓤 (⋆ 𝓛 (put 𝓛 n (‵ (fsep P B)) Γ)) (fill 𝓛 n (‵ (fsep P B)) Γ) (next same).prf)));
  }
