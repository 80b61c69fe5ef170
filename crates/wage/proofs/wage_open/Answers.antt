-- Without a place for the state nothing is opened; else the walk is opened, and its answer is told.
use Rattle.std.proofs.Common.{ap, subst, sym, ◌∙◌, arith}
use Rattle.edits.specs.declared.Opening.{Opening}
use Rattle.tables.specs.Room.{tables as tables_of}
use Rattle.step.specs.Steps.{Out, open_step}
use Rattle.wage.specs.Exports.{Called, Opened, opening_of}
use Rattle.wage.specs.ExportLaws.{has_place, no_place}
use Rattle.wage.proofs.wage_open.Goals as goal

pub returns-then-state-lt-WORDS : goal.returns-then-state-lt-WORDS
returns-then-state-lt-WORDS c =
    let t = tables_of c.args.ids.now c.args.list.now in
    no_place (open_step (opening_of c.args.format c.args.year c.args.month) t) c.args.state.now t (omega (arith, c.if-state-lt-WORDS.true))
    c.args.answer.now _ _ c.tell_no_place.ensures

pub returns : goal.returns
returns c =
    let t = tables_of c.args.ids.now c.args.list.now in
    let opened = open_step (opening_of c.args.format c.args.year c.args.month) t in
    let left = tables_of c.open-a.new.ids c.open-a.new.list in
    let has : Called = record { number = c.tell_opened.result; state = c.tell_opened.new.state; answer = c.tell_opened.new.answer; left = left } in
    subst (λ (out : Out). Opened out c.args.state.now c.args.answer.now has)
    (
    c.open-a.ensures ∙ ap (λ (held : Opening). open_step held t) c.opening.ensures
    ∙ sym (has_place opened c.args.state.now t (omega (arith, c.if-state-lt-WORDS.false)))
    )
    (c.tell_opened.ensures left)
