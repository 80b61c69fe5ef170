use Rattle.std.proofs.Common.{◌∙◌}
use Rattle.laws.specs.Spelling.{bytes}
use Rattle.chars.specs.Characters.{capitals}
use Rattle.pfml.specs.Edits.{around}
use Rattle.pfml.specs.TextParts.{part_finds}
use Rattle.pfml.proofs.PfmlLayout.fields_edit.Goals as goal

pub returns : goal.returns
unfolding bytes
returns c =
    let a = c.args in
    let part = c.part_of-from.ensures.2 in
    (rw (c.landmarks_of.ensures, c.all_rows-rows.ensures, c.all_rules-rules.ensures) at c.first_broken.ensures)
    ∙ part_finds (around a.here a.seen a.kind) (capitals a.line.now) a.kind _ _ part.0 part.1
