-- At every width. The invariant: what is left to read says what the whole says, and the
-- value so far is below 10 to the number of columns read.
use Rattle.std.proofs.Common.{◌≡◌, ◌-◌, ◌^◌, ◌<◌, ◌≤◌, max}
use Rattle.chars.specs.Characters.{capitals}
use Rattle.number.specs.Numbers.{number_from, number_in}
use Rattle.number.proofs.read_number.Given as goal

abbrev pub invariant-loop-at : goal.invariant-loop-at
invariant-loop-at l =
    (l.at ≤ max l.from l.end) × (l.v < 10 ^ (l.at - l.from))
    × (number_in (capitals l.line) l.first l.last ≡ number_from (capitals l.line) l.v l.at (l.last - l.at))
