-- Each turn puts the frame of one more employer behind those before it.
use mathlib.Core.Path.{◌≡◌}
use lib.ListN.{length, take}
use Rattle.frames.specs.Frames.{employer_frames}
use Rattle.frames.specs.Pasted.{pasted}
use Rattle.frames.proofs.put_employers.Given as goal

abbrev pub invariant-loop-i : goal.invariant-loop-i
invariant-loop-i l = (length l.out ≡ length l.initial.out) × (l.out ≡ pasted 0 (employer_frames l.format (take l.i l.list)) l.initial.out)
