-- The invariant: what is left to write makes of the buffer what the whole would.
use mathlib.Core.Path.{sym, ◌∙◌}
use native.Mathlib.Omega.{arith}
use borrow.Author.Rules.{rules}
use Rattle.frames.specs.HexLaws.{hex_done, hex_more}
use Rattle.frames.proofs.put_hex.Goals as goal

pub loop-left-preserved : goal.loop-left-preserved
loop-left-preserved c = (
  search rules,
  c.loop-left.invariant.1 ∙ hex_more _ _ _ _ c.loop-left-test.true (omega arith) ∙ rw c.hex_digit.ensures,
)

pub returns : goal.returns
returns c = sym (c.loop-left.invariant.1 ∙ hex_done _ _ _ _ c.loop-left-test.false)
