-- Laws: what a turn leaves over before the input has ended is less than the longest line,
-- so a program's buffer of fixed size always has room for the next read.
use Rattle.std.specs.Prelude.{ℕ, zero, suc, ◌-◌, ◌<◌, Bool, true, false, List, [], ◌∷◌, ◌≡◌, refl, eqb, leb, length, drop, if◌then◌else◌}
use Rattle.std.proofs.Common.{arith, leb-false}
use Rattle.edits.specs.declared.format.Format.{Format}
use Rattle.tables.specs.Room.{Tables}
use Rattle.state.specs.Walks.{Walk}
use Rattle.step.specs.Steps.{Out, open_step, end_step}
use Rattle.walk.specs.LineAndRun.{lines_step}
use Rattle.ack.specs.Turns.{Progress, waiting, walking, finished, Turn, ends, goes_on, longest_line, lines_turn, header_opening, turn}

abbrev Short : Turn → Type 0
Short next = length next.left < longest_line

abbrev AllShort : List ℕ → Type 0
AllShort bytes = (skip : ℕ) (walk : Walk) (t : Tables) → Short (lines_turn false skip bytes walk t)

after_line : (o : Out) (none : Bool) (rest : List ℕ) → AllShort rest
    → Short (if none then ends (end_step o.walk o.left) else lines_turn false (o.taken - 1) rest o.walk o.left)
after_line o true rest more = omega arith
after_line o false rest more = more (o.taken - 1) o.walk o.left

at_line : (b : ℕ) (rest : List ℕ) → AllShort rest → (walk : Walk) (t : Tables) (o : Out) (whole : Bool) → leb longest_line (length (b ∷ rest)) ≡ whole
    → Short (if whole then (if eqb o.taken 0 then ends (end_step o.walk o.left) else lines_turn false (o.taken - 1) rest o.walk o.left) else goes_on walk t (b ∷ rest))
at_line b rest more walk t o true e = after_line o (eqb o.taken 0) rest more
at_line b rest more walk t o false e = leb-false longest_line (length (b ∷ rest)) e

lines_short : (bytes : List ℕ) → AllShort bytes
unfolding lines_turn
lines_short [] skip walk t = omega arith
lines_short (b ∷ rest) (suc skip) walk t = lines_short rest skip walk t
lines_short (b ∷ rest) zero walk t = at_line b rest (lines_short rest) walk t (lines_step walk (b ∷ rest) t) (leb longest_line (length (b ∷ rest))) refl

header_short : (format : Format) (held : List ℕ) (t : Tables) → Short (turn format waiting false held t)
unfolding turn
header_short format held t = at (leb 7 (length held)) refl where
  next : Turn
  next = lines_turn false 0 (drop 7 held) (open_step (header_opening format held) t).walk (open_step (header_opening format held) t).left

  at : (whole : Bool) → leb 7 (length held) ≡ whole → Short (if whole then next else record { progress = waiting; left = held; tables = t })
  at true e = lines_short (drop 7 held) 0 (open_step (header_opening format held) t).walk (open_step (header_opening format held) t).left
  at false e = let short : length held < 7 = leb-false 7 (length held) e in omega arith

pub left_short : (format : Format) (progress : Progress) (held : List ℕ) (t : Tables) → length (turn format progress false held t).left < longest_line
unfolding turn
left_short format waiting held t = header_short format held t
left_short format (walking walk) held t = lines_short held 0 walk t
left_short format (finished walk) held t = omega arith
