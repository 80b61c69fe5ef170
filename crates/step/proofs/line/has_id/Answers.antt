use Rattle.std.proofs.Common.{sym, ◌∙◌, arith}
use Rattle.step.specs.QuestionLaws.{asked_small}
use Rattle.step.proofs.line.has_id.Goals as goal

pub overflow_cast-id : goal.overflow_cast-id
overflow_cast-id c =
    let small = asked_small c.args.st.held.format c.args.bytes.now c.in-Some.id (sym c.id_asked.ensures ∙ c.in-Some.is) in
    omega (arith, small)
