-- A turn of the loop takes the lines that one call takes; where no line is whole, the end call comes, or what is left stays.
use mathlib.Core.Path.{sym, ap, ◌∙◌}
use native.Mathlib.Omega.{arith}
use Rattle.tables.specs.Room.{tables}
use Rattle.state.specs.Walks.{walk_of}
use Rattle.step.specs.Steps.{out_of}
use Rattle.walk.specs.LineAndRunLaws.{run_within, run_farther}
use Rattle.ack.specs.TurnLaws.{turn_from, takes_within, loop_ends, loop_stays, loop_next, turned_ends, turned_stays}
use Rattle.ack.specs.declared.Place.{Place}
use Rattle.ack.proofs.lines_turn.Goals as goal

pub place_behind-here-requires : goal.place_behind-here-requires
place_behind-here-requires c =
    let l = c.loop-ids in
    let a = c.lines_at-a in
    let t = tables l.ids l.list in
    let lt = takes_within c.args.bytes.now l.here (walk_of l.st) t (sym c.takes_line.ensures ∙ c.loop-ids-test.true) in
    run_within c.args.bytes.now l.here.at (walk_of l.st) t (out_of a.result (tables a.new.ids a.new.list)) lt a.ensures

pub loop-ids-preserved : goal.loop-ids-preserved
loop-ids-preserved c =
    let l = c.loop-ids in
    let a = c.lines_at-a in
    let held = c.args.bytes.now in
    let t = tables l.ids l.list in
    let out = out_of a.result (tables a.new.ids a.new.list) in
    ap (λ (p : Place). turn_from held p (walk_of a.result.state) (tables a.new.ids a.new.list)) c.place_behind-here.ensures
    ∙ sym (loop_next held l.here (walk_of l.st) t out (sym c.takes_line.ensures ∙ c.loop-ids-test.true) a.ensures)
    ∙ l.invariant

pub returns-then-here : goal.returns-then-here
returns-then-here c =
    let l = c.loop-ids in
    let held = c.args.bytes.now in
    let t = tables l.ids l.list in
    let turned = turned_ends c.finished.result held c.end-a.result (walk_of l.st) t (tables c.end-a.new.ids c.end-a.new.list) c.finished.ensures c.end-a.ensures in
    let over = sym c.takes_line.ensures ∙ c.loop-ids-test.false in
    (turned.0 ∙ sym (loop_ends held l.here (walk_of l.st) t over c.if-here.true) ∙ l.invariant, turned.1)

pub returns : goal.returns
returns c =
    let l = c.loop-ids in
    let held = c.args.bytes.now in
    let t = tables l.ids l.list in
    let turned = turned_stays c.walking.result held l.st l.here.at t c.walking.ensures in
    let over = sym c.takes_line.ensures ∙ c.loop-ids-test.false in
    (turned.0 ∙ sym (loop_stays held l.here (walk_of l.st) t over c.if-here.false) ∙ l.invariant, turned.1)
