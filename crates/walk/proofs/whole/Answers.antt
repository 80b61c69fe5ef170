-- What opening leaves says what the whole file says; a turn takes a line and the plain S records behind it, and the end call is that of the meaning.
use Prim.Native.Nat.{ℕ}
use mathlib.Core.Path.{sym, ap, ◌∙◌}
use native.Mathlib.Omega.{arith}
use lib.ListN.{drop}
use Rattle.tables.specs.Room.{tables}
use Rattle.state.specs.Walks.{walk_of}
use Rattle.step.specs.Steps.{Out, out_of}
use Rattle.walk.specs.Calls.{calls, all}
use Rattle.walk.specs.LineAndRunLaws.{run_within, run_next, run_farther}
use Rattle.walk.specs.WholeLaws.{whole_means, loop_done}
use Rattle.walk.proofs.whole.Goals as goal

pub loop-at-init : goal.loop-at-init
loop-at-init c = (
  omega arith,
  ap (λ (o : Out). calls all 0 c.args.bytes.now o.walk o.left) c.open-opened.ensures
      ∙ whole_means c.args.held c.args.bytes.now (tables c.args.ids.now c.args.list.now),
)

pub next_place-at-requires : goal.next_place-at-requires
next_place-at-requires c =
    let l = c.loop-at in
    let a = c.lines_at-a in
    run_within c.args.bytes.now l.at (walk_of l.st) (tables l.ids l.list) (out_of a.result (tables a.new.ids a.new.list)) c.loop-at-test.true a.ensures

pub loop-at-preserved : goal.loop-at-preserved
loop-at-preserved c =
    let l = c.loop-at in
    let a = c.lines_at-a in
    let file = c.args.bytes.now in
    let left = tables l.ids l.list in
    let out = out_of a.result (tables a.new.ids a.new.list) in (
      rw c.next_place-at.ensures (run_farther file l.at (walk_of l.st) left out c.loop-at-test.true a.ensures).1,
      ap (λ (n : ℕ). calls all 0 (drop n file) (walk_of a.result.state) (tables a.new.ids a.new.list)) c.next_place-at.ensures
          ∙ sym (run_next file l.at (walk_of l.st) left out c.loop-at-test.true a.ensures)
          ∙ l.invariant.1,
    )

pub returns : goal.returns
returns c =
    let l = c.loop-at in
    c.end.ensures ∙ sym (loop_done c.args.bytes.now l.at (walk_of l.st) (tables l.ids l.list) c.loop-at-test.false) ∙ l.invariant.1
