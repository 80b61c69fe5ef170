-- The frames of the employers, then the closing one.
use mathlib.Core.List.{◌++◌}
use mathlib.Core.Path.{sym}
use lib.ListN.{take}
use Rattle.frames.specs.FrameLaws.{all_length, all_written, too_small, fits}
use Rattle.frames.specs.Frames.{employer_frames, closing_frame}
use Rattle.frames.proofs.accepted.Goals as goal

pub returns-then-out-size : goal.returns-then-out-size
returns-then-out-size c =
    let a = c.args in
    let list = a.list.now in
    let small = rw c.employers_size-front.ensures at c.if-out-size.true in
    sym (too_small (employer_frames a.format (take a.all.employers list) ++ closing_frame a.all) a.out.now _ (all_length a.format list a.all c.requires.1) small)

pub returns : goal.returns
returns c =
    let a = c.args in
    let list = a.list.now in
    let room = rw c.employers_size-front.ensures at c.if-out-size.false in
    let last = rw c.employers_size-front.ensures at c.put_short_frame.ensures in
    rw c.employers_size-front.ensures
    (fits (employer_frames a.format (take a.all.employers list) ++ closing_frame a.all) a.out.now _ (all_length a.format list a.all c.requires.1) _ room
    (all_written a.format list a.all c.requires.1 a.out.now _ _ c.put_employers.ensures last))
