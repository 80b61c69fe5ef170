-- Without a place for the state nothing is walked; else the whole file is, and its answer is told.
use Rattle.std.proofs.Common.{ap, subst, sym, ◌∙◌, arith}
use Rattle.edits.specs.declared.Opening.{Opening}
use Rattle.tables.specs.Room.{tables as tables_of}
use Rattle.step.specs.Steps.{Out}
use Rattle.walk.specs.Calls.{whole_file}
use Rattle.wage.specs.Exports.{Called, Opened, opening_of}
use Rattle.wage.specs.ExportLaws.{has_place, no_place}
use Rattle.wage.proofs.wage_whole.Goals as goal

pub returns-then-state-lt-WORDS : goal.returns-then-state-lt-WORDS
returns-then-state-lt-WORDS c =
    let t = tables_of c.args.ids.now c.args.list.now in
    no_place (whole_file (opening_of c.args.format c.args.year c.args.month) c.args.bytes.now t) c.args.state.now t (omega (arith, c.if-state-lt-WORDS.true))
    c.args.answer.now _ _ c.tell_no_place.ensures

pub returns : goal.returns
returns c =
    let t = tables_of c.args.ids.now c.args.list.now in
    let walked = whole_file (opening_of c.args.format c.args.year c.args.month) c.args.bytes.now t in
    let left = tables_of c.whole-a.new.ids c.whole-a.new.list in
    let has : Called = record { number = c.tell_opened.result; state = c.tell_opened.new.state; answer = c.tell_opened.new.answer; left = left } in
    subst (λ (out : Out). Opened out c.args.state.now c.args.answer.now has)
    (
    c.whole-a.ensures ∙ ap (λ (held : Opening). whole_file held c.args.bytes.now t) c.opening.ensures
    ∙ sym (has_place walked c.args.state.now t (omega (arith, c.if-state-lt-WORDS.false)))
    )
    (c.tell_opened.ensures left)
