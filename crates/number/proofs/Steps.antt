-- What the loops of this crate rest on: the steps of reading and writing, and how much a digit more comes to.
use Rattle.std.proofs.Common.{ℕ, ◌+◌, ◌*◌, ◌^◌, ◌<◌, ◌≤◌, arith}
use Rattle.chars.specs.CharacterLaws.{digit_range}
use Rattle.number.specs.LetterLaws.{too_many, few_lettered, letters_more, letters_done}
use Rattle.number.specs.NumberLaws.{number_done, no_width, wide_width, good_width, digits_fit, put_done, put_more}
use Rattle.number.specs.AsItStands.{stands_bad, stands_more, none_stands}

-- A digit more fits after at most 18.
pub room_for_digit : (v k : ℕ) → v < 10 ^ k → k ≤ 18 → v * 10 + 9 < 2 ^ 64
room_for_digit v k low few = digits_fit v 9 k low (omega arith) (omega arith)

pub ruleset reading = (digit_range, no_width, wide_width, good_width, stands_more, stands_bad, none_stands, number_done)

pub ruleset writing = (put_more, put_done)

pub ruleset lettering = (too_many, few_lettered, letters_more, letters_done)
