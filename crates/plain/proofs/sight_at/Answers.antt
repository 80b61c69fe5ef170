-- The part from the place on is looked at, where it holds a whole line.
use mathlib.Core.Path.{sym}
use native.Mathlib.Omega.{arith}
use lib.ListN.{drop, length-drop}
use Rattle.plain.specs.SightOutcomes.{too_short}
use Rattle.plain.proofs.sight_at.Goals as goal

pub returns-then-bytes-at : goal.returns-then-bytes-at
returns-then-bytes-at c =
    let a = c.args in
    sym (too_short a.low.now a.high.now (drop a.at a.bytes.now) (rw length-drop (omega arith)))

pub returns-then-bytes-at-lt-WHOLE_LINE : goal.returns-then-bytes-at-lt-WHOLE_LINE
returns-then-bytes-at-lt-WHOLE_LINE c =
    let a = c.args in
    sym (too_short a.low.now a.high.now (drop a.at a.bytes.now) (rw length-drop (omega arith)))
