-- The text goes as far as i, and on by what it still has at i.
use Rattle.std.proofs.Common.{◌≡◌, ◌+◌, length, drop}
use Rattle.lines.specs.Lines.{text_of}
use Rattle.lines.proofs.line_length.Given as goal

abbrev pub invariant-loop-i : goal.invariant-loop-i
invariant-loop-i l = length (text_of l.s) ≡ l.i + length (text_of (drop l.i l.s))
