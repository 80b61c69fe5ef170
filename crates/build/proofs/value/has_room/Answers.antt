-- One digit more is taken off.
use Prim.Native.Nat.{ℕ, suc, ◌+◌, ◌-◌, ◌^◌}
use mathlib.Core.Path.{◌≡◌, sym, ap, ◌∙◌}
use native.Mathlib.Omega.{arith}
use lib.Dec.{ltb}
use Rattle.build.specs.BuiltTextLaws.{room_more}
use Rattle.build.proofs.value.has_room.Goals as goal

pub loop-preserved : goal.loop-preserved
loop-preserved c =
    let l = c.loop in
    let left = c.args.width - (l.counter + 1) in
    let more : c.args.width - l.counter ≡ suc left = omega arith in
    l.invariant ∙ ap (λ (m : ℕ). ltb l.left (10 ^ m)) more ∙ sym (room_more l.left left)
