-- The words are read as a walk, its line call is made with that walk, and its answer is told.
use Rattle.std.proofs.Common.{ap, subst, ◌∙◌}
use Rattle.lines.specs.Lines.{first_line}
use Rattle.tables.specs.Room.{tables as tables_of}
use Rattle.state.specs.Walks.{Walk}
use Rattle.step.specs.Steps.{Out, line_step}
use Rattle.wage.specs.Exports.{Called, Continued}
use Rattle.wage.proofs.wage_line.Goals as goal

pub returns : goal.returns
returns c =
    let left = tables_of c.line-a.new.ids c.line-a.new.list in
    let has : Called = record { number = c.tell.result; state = c.tell.new.state; answer = c.tell.new.answer; left = left } in
    subst (λ (out : Out). Continued out c.args.state.now c.args.answer.now has)
    (c.line-a.ensures ∙ ap (λ (w : Walk). line_step w (first_line c.args.bytes.now) (tables_of c.args.ids.now c.args.list.now)) c.state_in-st.ensures)
    (c.tell.ensures left)
