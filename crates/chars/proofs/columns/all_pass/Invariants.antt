-- What is told so far is told of the places that the sweep has passed.
use Rattle.std.proofs.Common.{ℕ, Bool, ◌≡◌}
use Rattle.chars.specs.Sweep.{Tells, all_pass}
use Rattle.chars.proofs.columns.all_pass.Given as goal

abbrev pub invariant-loop-c : goal.invariant-loop-c
invariant-loop-c g l = (tells : ℕ → Bool) → Tells (goal.F-post g l.test) tells → l.good ≡ all_pass tells l.line l.from l.c-index
