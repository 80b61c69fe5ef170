-- Too long, a bad character, then the field's own edits.
use borrow.Author.Rules.{rules}
use Rattle.laws.specs.Spelling.{bytes}
use Rattle.build.specs.FillLaws.{filled_parts}
use Rattle.build.proofs.value.GivenField.edit.Goals as goal

pub returns-in_err-unless : goal.returns-in_err-unless
returns-in_err-unless c =
    let wide = c.requires in
    rw (filled_parts, ← c.fits.ensures, ← c.in_err-unless.ensures) (search rules)

pub returns-in_err-every_column : goal.returns-in_err-every_column
returns-in_err-every_column c =
    let wide = c.requires in
    rw (filled_parts, ← c.fits.ensures, ← c.in_ok-unless.ensures, ← c.in_err-every_column.ensures) (search rules)

pub returns-in_err-class_edit : goal.returns-in_err-class_edit
returns-in_err-class_edit c =
    let wide = c.requires in
    rw (filled_parts, ← c.fits.ensures, ← c.in_ok-unless.ensures, ← c.in_ok-every_column.ensures, ← c.in_err-class_edit.ensures) (search rules)

pub returns : goal.returns
unfolding bytes
returns c =
    let wide = c.requires in
    rw (filled_parts, ← c.fits.ensures, ← c.in_ok-unless.ensures, ← c.in_ok-every_column.ensures, ← c.in_ok-class_edit.ensures) c.own_edit.ensures
