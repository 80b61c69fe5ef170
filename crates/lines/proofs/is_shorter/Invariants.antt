-- An end was found where the line is shorter than what was looked at.
use Rattle.std.proofs.Common.{◌≡◌, ltb, length}
use Rattle.std.specs.Int.{from_bool}
use Rattle.lines.specs.Lines.{text_of}
use Rattle.lines.proofs.is_shorter.Given as goal

abbrev pub invariant-loop-b : goal.invariant-loop-b
invariant-loop-b l = l.found ≡ from_bool (ltb (length (text_of l.s)) l.b-index)
