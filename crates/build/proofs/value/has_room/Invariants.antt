-- The invariant: what is left has room in the digits left exactly if the number has.
use Prim.Native.Nat.{◌-◌, ◌^◌}
use mathlib.Core.Path.{◌≡◌}
use lib.Dec.{ltb}
use Rattle.build.proofs.value.has_room.Given as goal

abbrev pub invariant-loop : goal.invariant-loop
invariant-loop l = ltb l.v (10 ^ l.width) ≡ ltb l.left (10 ^ (l.width - l.counter))
