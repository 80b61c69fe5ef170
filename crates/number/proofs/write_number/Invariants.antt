-- The invariant: what is left to write makes of the line what the whole would.
use Rattle.std.proofs.Common.{◌≡◌, ◌-◌}
use Rattle.number.specs.Numbers.{put_digits, put_number}
use Rattle.number.proofs.write_number.Given as goal

abbrev pub invariant-loop-at : goal.invariant-loop-at
invariant-loop-at l = put_number l.initial.line l.first l.last l.v ≡ put_digits l.line l.at (l.at - l.at-start) l.left
