-- The invariant: the fields left make of the line the whole record.
use Prim.Native.Nat.{◌≤◌}
use mathlib.Core.List.{map}
use mathlib.Core.Path.{◌≡◌}
use lib.ListN.{length}
use Rattle.text.specs.Put.{blanks}
use Rattle.pfml.specs.Edits.{rows_for}
use Rattle.pfml.specs.Kinds.{kind_of}
use Rattle.write.specs.Records.{put_all}
use Rattle.build.specs.Building.{part_of}
use Rattle.build.specs.FillLaws.{fill_from}
use Rattle.build.specs.Values.{fill_record}
use Rattle.build.proofs.rows.Given.put_fields.Given as goal

abbrev pub invariant-loop-k : goal.invariant-loop-k
invariant-loop-k l =
    let given = l.self in
    (l.at ≤ length given.texts.now) × (length l.line ≡ length l.initial.line)
    × (put_all (map part_of (fill_record given.letter given.values.now given.texts.now)) (blanks (length l.initial.line))
    ≡ put_all (map part_of (fill_from given.letter (rows_for (kind_of given.letter)) given.values.now given.texts.now l.k l.at)) l.line)
