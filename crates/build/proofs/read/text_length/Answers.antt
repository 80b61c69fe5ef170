-- The columns left hold the text that all of them hold.
use mathlib.Core.Path.{sym, ap, ◌∙◌}
use native.Mathlib.Nat.{min-le_right}
use native.Mathlib.Omega.{arith}
use lib.ListN.{length}
use Rattle.chars.specs.Characters.{capitals}
use Rattle.chars.specs.CharacterLaws.{capitals_length}
use Rattle.build.specs.BuiltTextLaws.{ink_start, ink_more, ink_found, ink_done}
use Rattle.build.proofs.read.text_length.Goals as goal

pub loop-at-init : goal.loop-at-init
loop-at-init c =
    let a = c.args in
    let line = a.line.now in (
      rw (c.min-end.ensures, c.from.ensures, capitals_length line) (min-le_right a.last (length line)),
      ink_start (capitals line) a.first a.last ∙ rw (c.min-end.ensures, c.from-start.ensures, c.index_of.ensures, c.from.ensures, capitals_length line),
    )

pub loop-at-preserved : goal.loop-at-preserved
loop-at-preserved c =
    let l = c.loop-at in
    let line = capitals c.args.line.now in
    (omega arith, l.invariant.1 ∙ ink_more line _ l.at c.loop-at-test.true l.invariant.0 (cc))

pub returns-then-not-is_blank : goal.returns-then-not-is_blank
returns-then-not-is_blank c =
    let l = c.loop-at in
    let line = capitals c.args.line.now in
    let found = ap length l.invariant.1 ∙ ink_found line _ l.at c.loop-at-test.true l.invariant.0 (cc) in
    omega arith

pub returns : goal.returns
returns c = sym (ap length c.loop-at.invariant.1 ∙ ink_done _ _ _ c.loop-at-test.false)
