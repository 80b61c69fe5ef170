-- A loop in a walk.
--     Nearer, nearer_wf    less is left, by a measure; it comes to an end
--     Turned           what a turn is to come to: the invariant with less left, or the loop is left and the rest of the body runs
use Prim.Native.Nat.{ℕ, ◌<◌}
use mathlib.Core.List.{List}
use mathlib.Core.WellFounded.InvImage
use mathlib.Core.WellFounded.{WellFounded}
use lib.WfN.{lt-wf_rel}
use seplogic.Ra.Ura.{Ura}
use mir.Syntax.{Body}
use mir.Val.{Val}
use base.Logic.{SProp}
use prog.Wp.{Out, Env, Tables, Wp, at_return, after_seq, after_block, after_turn}
use types.Logic.{Logic}
use types.Kit.{Item}
use types.Run.{Below}

module _ {X : Type 0} (left : X → ℕ) where
  abbrev pub Nearer : X → X → Type 0
  Nearer j k = left j < left k

  pub nearer_wf : WellFounded Nearer
  nearer_wf = InvImage.wf left lt-wf_rel.wf

module _ {M : Type 1} {𝓤 : Ura M} (𝓛 : Logic 𝓤) (𝓣 : Tables 𝓤 𝓛.H) (E : Env 𝓤 𝓛.H) where
  open 𝓛 use {H}

  abbrev pub Turned : {X : Type 0} → (X → ℕ) → (X → List (Item 𝓤)) → Body → (Val → SProp 𝓤) → X → Out → SProp 𝓤
  Turned left At rest Post k = after_turn 𝓤 H (Below 𝓛 (Nearer left) At k) (after_block 𝓤 H (after_seq 𝓤 H (Wp 𝓤 H 𝓣.C 𝓣.Λ E rest (at_return 𝓤 H E Post)) (at_return 𝓤 H E Post)))
