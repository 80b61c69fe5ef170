use Rattle.std.proofs.Common.{◌∙◌}
use Rattle.laws.specs.Spelling.{bytes}
use Rattle.chars.specs.Characters.{capitals}
use Rattle.wham.specs.Edits.{around}
use Rattle.wham.specs.TextParts.{part_finds}
use Rattle.wham.proofs.WhamLayout.fields_edit.Goals as goal

pub returns : goal.returns
unfolding bytes
returns c =
    let a = c.args in
    let edition = a.self.0 in
    let part = c.part_of-from.ensures.2 edition in
    (rw (c.landmarks_of.ensures, c.all_rows-rows.ensures, c.all_rules-rules.ensures) at c.first_broken.ensures)
    ∙ part_finds edition (around a.here a.seen a.kind) (capitals a.line.now) a.kind _ _ part.0 part.1
