-- The fields left say what all of them say.
use Prim.Native.Nat.{◌≤◌, ◌<◌}
use mathlib.Core.Path.{refl, sym, ap, ◌∙◌}
use native.Mathlib.Omega.{arith}
use borrow.Author.Rules.{rules}
use lib.ListN.{length}
use Rattle.std.proofs.Common.{length-drop}
use Rattle.chars.specs.Characters.{capitals}
use Rattle.pfml.specs.Edits.{rows_for}
use Rattle.pfml.specs.Kinds.{kind_of, landmarks_of}
use Rattle.pfml.specs.Wide.{rows_wide}
use Rattle.build.specs.FillLaws.{taken_inside, fill_done, edits_done, edits_found, edits_next}
use Rattle.build.proofs.rows.Given.first_broken.Goals as goal

pub edit-requires : goal.edit-requires
edit-requires c =
    let one_more : c.loop-k.k < length (rows_for (kind_of c.args.self.now.letter)) = omega (arith, c.count-k-end.ensures) in
    rw c.field-field.ensures.row (rows_wide _ _ one_more)

pub returns-in_err-edit : goal.returns-in_err-edit
returns-in_err-edit c =
    let l = c.loop-k in
    let given = c.args.self.now in
    let rows = rows_for (kind_of given.letter) in
    let is = c.field-field.ensures in
    let one_more : l.k < length rows = omega (arith, c.count-k-end.ensures) in
    let found = rw (is.letter, is.row, is.entry, is.texts) at c.in_err-edit.ensures in
    let all = l.invariant.1
    ∙ edits_found given.letter rows given.values.now given.texts.now l.k l.at one_more (landmarks_of (kind_of given.letter)) _
    (capitals c.args.line.now) _ (c.landmarks_of-landmarks.ensures ∙ ap landmarks_of c.kind_of.ensures) found _ _ refl in
    search rules

pub loop-k-preserved : goal.loop-k-preserved
loop-k-preserved c =
    let l = c.loop-k in
    let given = c.args.self.now in
    let rows = rows_for (kind_of given.letter) in
    let is = c.field-field.ensures in
    let one_more : l.k < length rows = omega (arith, c.count-k-end.ensures) in
    let passed = rw (is.letter, is.row, is.entry, is.texts) at c.in_ok-edit.ensures in
    let taken = rw (is.row, is.entry, is.texts, length-drop) at c.taken-at.ensures in (
      taken_inside rows given.values.now given.texts.now l.k l.at _ l.invariant.0 taken,
      l.invariant.1
          ∙ edits_next given.letter rows given.values.now given.texts.now l.k l.at one_more (landmarks_of (kind_of given.letter)) _
          (capitals c.args.line.now) _ (c.landmarks_of-landmarks.ensures ∙ ap landmarks_of c.kind_of.ensures) passed _ taken refl,
    )

pub returns : goal.returns
returns c =
    let l = c.loop-k in
    let given = c.args.self.now in
    let rows = rows_for (kind_of given.letter) in
    let past : length rows ≤ l.k = omega (arith, c.count-k-end.ensures) in
    sym (l.invariant.1
    ∙ edits_done (landmarks_of (kind_of given.letter)) (capitals c.args.line.now) _ (fill_done given.letter rows given.values.now given.texts.now l.k l.at past))
