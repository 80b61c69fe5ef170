use mathlib.Core.Path.{sym, ap, ◌∙◌}
use native.Mathlib.Omega.{arith}
use borrow.Author.Tests.{eq-eqb, ne_eqb}
use lib.ListN.{get_or-eq_default}
use Rattle.ack.specs.Turns.{header_quarter}
use Rattle.number.specs.NumberLaws.{number_capitals}
use Rattle.reason.specs.ReasonNumbers.{reading_of}
use Rattle.ack.proofs.header_quarter.Goals as goal

pub returns-in_default : goal.returns-in_default
unfolding header_quarter
returns-in_default c = let s = c.args.bytes.now in
    rw (sym (number_capitals s 1 6) ∙ sym c.read_number.ensures ∙ ap reading_of c.in_default.is) c.no_quarter.ensures

pub returns : goal.returns
unfolding header_quarter
returns c = let s = c.args.bytes.now in
    rw (sym (number_capitals s 1 6) ∙ sym c.read_number.ensures ∙ ap reading_of c.in-Ok.is, eq-eqb _ _ c.if-bytes-ne10.false)
