-- The fields left make of the line the whole record.
use Prim.Native.Nat.{◌≤◌, ◌<◌}
use mathlib.Core.List.{map}
use mathlib.Core.Path.{sym, ap, ◌∙◌}
use native.Mathlib.Omega.{arith}
use lib.ListN.{length}
use Rattle.std.proofs.Common.{length-drop}
use Rattle.chars.specs.Characters.{capitals}
use Rattle.pfml.specs.Edits.{rows_for}
use Rattle.pfml.specs.Kinds.{kind_of}
use Rattle.write.specs.PartLaws.{put_keeps}
use Rattle.write.specs.Records.{put_all}
use Rattle.build.specs.Building.{part_of}
use Rattle.build.specs.FillLaws.{field_at, taken_inside, fill_done, still_blank, puts_done, put_next}
use Rattle.build.specs.Values.{fill_record}
use Rattle.build.proofs.rows.Given.put_fields.Goals as goal

pub loop-k-preserved : goal.loop-k-preserved
loop-k-preserved c =
    let l = c.loop-k in
    let given = c.args.self.now in
    let rows = rows_for (kind_of given.letter) in
    let is = c.field-field.ensures in
    let one_more : l.k < length rows = omega (arith, c.count-k-end.ensures) in
    let put = rw (is.letter, is.row, is.entry, is.texts) at c.put.ensures in
    let taken = rw (is.row, is.entry, is.texts, length-drop) at c.taken-at.ensures in (
      taken_inside rows given.values.now given.texts.now l.k l.at _ l.invariant.0 taken,
      ap length put ∙ put_keeps (part_of (field_at given.letter rows given.values.now given.texts.now l.k l.at)) l.line ∙ l.invariant.1,
      l.invariant.2
          ∙ put_next given.letter rows given.values.now given.texts.now l.k l.at one_more _ taken l.line _ put,
    )

pub returns : goal.returns
returns c =
    let l = c.loop-k in
    let given = c.args.self.now in
    let rows = rows_for (kind_of given.letter) in
    let past : length rows ≤ l.k = omega (arith, c.count-k-end.ensures) in
    let whole = l.invariant.2 ∙ puts_done l.line _ (fill_done given.letter rows given.values.now given.texts.now l.k l.at past) in
    c.in_capitals.ensures
    ∙ ap capitals (sym whole ∙ ap (put_all (map part_of (fill_record given.letter given.values.now given.texts.now))) (still_blank _ (length c.args.line.now) c.blank_line.ensures ∙ c.blank_line.ensures))
