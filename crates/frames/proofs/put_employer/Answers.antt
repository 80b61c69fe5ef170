-- In the arm of a format, the match has told that format; formats other than PFML have one arm.
use native.Mathlib.Omega.{arith}
use Rattle.frames.proofs.put_employer.Goals as goal

pub overflow_mul-i : goal.overflow_mul-i
overflow_mul-i c = let pre = rw c.in-Pfml.is at c.requires in omega (arith, pre, c.ranges)

pub put_pfml_employer-requires : goal.put_pfml_employer-requires
put_pfml_employer-requires c = rw c.in-Pfml.is at c.requires

pub returns-in-Pfml : goal.returns-in-Pfml
returns-in-Pfml c = rw c.in-Pfml.is c.put_pfml_employer.ensures
