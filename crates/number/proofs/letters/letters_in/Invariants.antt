-- The invariant: what is left to read says what the whole says, and the value so far is below 256 to
-- the number of columns read.
use Rattle.std.proofs.Common.{◌≡◌, ◌-◌, ◌^◌, ◌<◌}
use Rattle.chars.specs.Characters.{capitals}
use Rattle.number.specs.Letters.{letters_from, letters_in}
use Rattle.number.proofs.letters.letters_in.Given as goal

abbrev pub invariant-loop-at : goal.invariant-loop-at
invariant-loop-at l =
    (l.v < 256 ^ (l.at - l.from))
    × (letters_in (capitals l.line) l.first l.last ≡ letters_from (capitals l.line) l.v l.at (l.last - l.at))
