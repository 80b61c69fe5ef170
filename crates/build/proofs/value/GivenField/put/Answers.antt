-- In the arm of blanks, the match has told that form.
use mathlib.Core.Path.{sym, ap, ◌∙◌}
use lib.Seq.{take-nil}
use Rattle.chars.specs.Columns.{width_of}
use Rattle.text.specs.Put.{put_text}
use Rattle.edits.specs.FieldRow.{first_in, last_in}
use Rattle.build.specs.BuiltTextLaws.{put_nothing}
use Rattle.build.proofs.value.GivenField.put.Goals as goal

pub returns-in-Blank : goal.returns-in-Blank
returns-in-Blank c =
    let line = c.args.line.now in
    let row = c.args.self.now.row in
    rw (← c.form.ensures, c.in-Blank.is)
    (sym (ap (put_text line (first_in row)) (take-nil (width_of (first_in row) (last_in row))) ∙ put_nothing line (first_in row)))
