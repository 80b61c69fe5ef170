use Rattle.std.proofs.Common.{sym, ◌∙◌, rules}
use Rattle.std.proofs.lemmas.List.{length-take-le}
use Rattle.lines.specs.Lines.{first_line}
use Rattle.record.specs.ShapeOf.{shape_of}
use Rattle.record.specs.Judge.{judge}
use Rattle.shape.specs.Theorems.{cut_refuses, cut_takes, taken_fits, taken_text}
use Rattle.record.proofs.judge.Goals as goal

pub slice_bounds-judge_text-end : goal.slice_bounds-judge_text-end
slice_bounds-judge_text-end c =
    let length = c.length_of-length.ensures in
    let a = c.args in
    let fits = taken_fits (shape_of a.here.held.format).length a.bytes.now _ (rw length at (sym c.in_ok-taken.ensures)) in
    rw length (sym (length-take-le _ _ fits))

pub returns-in_err-taken : goal.returns-in_err-taken
unfolding judge
returns-in_err-taken c =
    let a = c.args in
    let refused = cut_refuses (shape_of a.here.held.format) a.here a.seen (first_line a.bytes.now) _ _
    (rw c.length_of-length.ensures at (sym c.in_err-taken.ensures)) in
    rw refused (search rules)

pub returns : goal.returns
unfolding judge
returns c =
    let length = c.length_of-length.ensures in
    let a = c.args in
    let s = shape_of a.here.held.format in
    let e = rw length at (sym c.in_ok-taken.ensures) in
    (rw (length, taken_text s.length a.bytes.now _ e) at c.judge_text.ensures)
    ∙ sym (cut_takes s a.here a.seen (first_line a.bytes.now) _ e)
