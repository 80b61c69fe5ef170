-- Part after part.
use native.Mathlib.Omega.{arith}
use Rattle.frames.specs.FrameLaws.{three_length, frame_written}
use Rattle.frames.specs.Frames.{three_numbers}
use Rattle.frames.specs.Hex.{hex}
use Rattle.frames.specs.HexLaws.{hex_length}
use Rattle.frames.proofs.put_pfml_employer.Goals as goal

pub returns : goal.returns
returns c =
    let e = c.args.e in
    frame_written c.args.at 34 2 2
    (three_numbers 2 e.fein e.count e.cents) (hex 2 e.amended) (hex 2 e.final_return) (hex 8 e.cease_date) c.args.out.now _ _ _ _
    (three_length 2 e.fein e.count e.cents) (hex_length 2 e.amended) (hex_length 2 e.final_return) 8 (hex_length 8 e.cease_date)
    (omega (arith, c.requires))
    c.put_three_numbers.ensures c.put_hex.ensures c.put_hex-2.ensures c.put_hex-3.ensures
