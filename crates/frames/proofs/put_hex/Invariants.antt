-- The invariant: what is left to write makes of the buffer what the whole would.
use mathlib.Core.Path.{◌≡◌}
use lib.ListN.{length}
use Rattle.frames.specs.Hex.{hex}
use Rattle.frames.specs.Pasted.{pasted}
use Rattle.frames.proofs.put_hex.Given as goal

abbrev pub invariant-loop-left : goal.invariant-loop-left
invariant-loop-left l =
    (length l.out ≡ length l.initial.out) × (pasted l.at (hex l.digits l.v) l.initial.out ≡ pasted l.at (hex l.left l.rest) l.out)
