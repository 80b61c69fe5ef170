-- The words are read as a walk, its end call is made with that walk, and its answer is told.
use Rattle.std.proofs.Common.{ap, subst, ◌∙◌}
use Rattle.tables.specs.Room.{tables as tables_of}
use Rattle.state.specs.Walks.{Walk}
use Rattle.step.specs.Steps.{Out, end_step}
use Rattle.wage.specs.Exports.{Called, Continued}
use Rattle.wage.proofs.wage_end.Goals as goal

pub returns : goal.returns
returns c =
    let left = tables_of c.end-a.new.ids c.end-a.new.list in
    let has : Called = record { number = c.tell.result; state = c.tell.new.state; answer = c.tell.new.answer; left = left } in
    subst (λ (out : Out). Continued out c.args.state.now c.args.answer.now has)
    (c.end-a.ensures ∙ ap (λ (w : Walk). end_step w (tables_of c.args.ids.now c.args.list.now)) c.state_in-st.ensures)
    (c.tell.ensures left)
