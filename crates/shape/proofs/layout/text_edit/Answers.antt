use Rattle.std.proofs.Common.{sym, ◌∙◌, rules}
use Rattle.chars.specs.Characters.{capitals}
use Rattle.shape.specs.HeadLaws.{head_breaks, head_passes}
use Rattle.shape.proofs.layout.text_edit.Goals as goal

pub returns-in_err-head_edit : goal.returns-in_err-head_edit
returns-in_err-head_edit g c =
    let a = c.args in
    let broken = rw (c.kind_of-kind.ensures, c.char_at.ensures) at c.in_err-head_edit.ensures in
    rw (g.met.L.Layout.edits_are a.layout a.here a.seen (capitals a.line.now)) (rw (head_breaks _ _ _ _ (sym broken)) (search rules))

pub returns : goal.returns
returns g c =
    let a = c.args in
    let passed = rw (c.kind_of-kind.ensures, c.char_at.ensures) at c.in_ok-head_edit.ensures in
    let fields = rw (c.kind_of-kind.ensures, c.char_at.ensures) at c.fields_edit.ensures in
    rw (g.met.L.Layout.edits_are a.layout a.here a.seen (capitals a.line.now)) (fields ∙ sym (head_passes _ _ (sym passed)))
