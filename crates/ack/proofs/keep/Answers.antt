use Prim.Native.Nat.{ℕ, ◌-◌}
use mathlib.Core.Path.{◌≡◌, ap, ◌∙◌}
use native.Mathlib.Omega.{arith}
use lib.ListN.{length}
use Rattle.std.proofs.Common.{min}
use Rattle.ack.specs.Keep.{Kept, moved}
use Rattle.ack.specs.KeepLaws.{moved_none, moved_is}
use Rattle.ack.proofs.keep.Goals as goal

pub returns-then-stop-at : goal.returns-then-stop-at
returns-then-stop-at c =
    let a = c.args in
    let none : min a.end (length a.buf.now) - a.at ≡ 0 = omega (arith, c.min-stop.ensures, c.if-stop-at.true) in
    rw none (ap {B = Kept} (λ bytes. record { count = 0; bytes = bytes }) (moved_none a.at a.buf.now))

pub returns : goal.returns
returns c =
    let a = c.args in
    let put = c.copy_within.ensures.after ∙ moved_is a.at a.buf.now (c.min-stop.result - a.at) in
    ap {B = Kept} (λ bytes. record { count = c.min-stop.result - a.at; bytes = bytes }) put
    ∙ ap {B = Kept} (λ (stop : ℕ). record { count = stop - a.at; bytes = moved a.at (stop - a.at) a.buf.now }) c.min-stop.ensures
