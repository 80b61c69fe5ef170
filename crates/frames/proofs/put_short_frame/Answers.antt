-- The three numbers, then the line's end.
use native.Mathlib.Omega.{arith}
use Rattle.frames.specs.FrameLaws.{three_length, line_ended}
use Rattle.frames.specs.Frames.{three_numbers}
use Rattle.frames.proofs.put_short_frame.Goals as goal

pub returns : goal.returns
returns c =
    let args = c.args in
    line_ended args.at 34 (three_numbers args.kind args.a args.b args.cents) args.out.now _
    (three_length args.kind args.a args.b args.cents) (omega (arith, c.requires)) c.put_three_numbers.ensures
