-- The invariant: the fields left say what all of them say.
use Prim.Native.Nat.{◌≤◌}
use mathlib.Core.Path.{◌≡◌}
use lib.ListN.{length}
use Rattle.chars.specs.Characters.{capitals}
use Rattle.edits.specs.Edit.{first_broken}
use Rattle.pfml.specs.Edits.{rows_for}
use Rattle.pfml.specs.Kinds.{kind_of, landmarks_of}
use Rattle.build.specs.Building.{edits_of_all}
use Rattle.build.specs.FillLaws.{fill_from}
use Rattle.build.specs.Values.{fill_record}
use Rattle.build.proofs.rows.Given.first_broken.Given as goal

abbrev pub invariant-loop-k : goal.invariant-loop-k
invariant-loop-k l =
    let given = l.self in
    (l.at ≤ length given.texts.now)
    × (first_broken (edits_of_all (landmarks_of (kind_of given.letter)) (capitals l.line) (fill_record given.letter given.values.now given.texts.now))
    ≡ first_broken (edits_of_all (landmarks_of (kind_of given.letter)) (capitals l.line) (fill_from given.letter (rows_for (kind_of given.letter)) given.values.now given.texts.now l.k l.at)))
