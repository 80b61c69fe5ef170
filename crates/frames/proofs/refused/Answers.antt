-- Part after part.
use mathlib.Core.Path.{sym}
use Rattle.reason.specs.ReasonNumbers.{notice_of}
use Rattle.frames.specs.FrameLaws.{refusal_length, frame_written, too_small, fits}
use Rattle.frames.specs.Frames.{refusal_frame}
use Rattle.frames.specs.Hex.{hex}
use Rattle.frames.specs.HexLaws.{hex_length}
use Rattle.frames.proofs.refused.Goals as goal

pub returns-then-out-lt17 : goal.returns-then-out-lt17
returns-then-out-lt17 c = sym (too_small (refusal_frame (notice_of c.args.refusal)) _ 17 (refusal_length _) c.if-out-lt17.true)

pub returns : goal.returns
returns c =
    let args = c.args in
    let says = notice_of args.refusal in
    let room = c.if-out-lt17.false in
    let number = rw (c.from-2.ensures, c.from.ensures) at c.put_hex-2.ensures in
    let line = rw c.from-3.ensures at c.put_hex-3.ensures in
    let column = rw c.from-4.ensures at c.put_hex-4.ensures in
    let written =
    frame_written 0 2 2 8 (hex 2 255) (hex 2 says.number) (hex 8 says.line) (hex 4 says.column) args.out.now _ _ _ _
    (hex_length 2 255) (hex_length 2 says.number) (hex_length 8 says.line) 4 (hex_length 4 says.column) room
    c.put_hex.ensures number line column in
    fits (refusal_frame says) args.out.now 17 (refusal_length says) _ room written
