-- Part after part.
use native.Mathlib.Omega.{arith}
use Rattle.frames.specs.FrameLaws.{four_written}
use Rattle.frames.specs.Hex.{hex}
use Rattle.frames.specs.HexLaws.{hex_length}
use Rattle.frames.proofs.put_three_numbers.Goals as goal

pub returns : goal.returns
returns c =
    let args = c.args in
    four_written args.at 2 8 8 (hex 2 args.kind) (hex 8 args.a) (hex 8 args.b) (hex 16 args.cents) args.out.now _ _ _ _
    (hex_length 2 args.kind) (hex_length 8 args.a) (hex_length 8 args.b) (omega (arith, c.requires))
    c.put_hex.ensures c.put_hex-2.ensures c.put_hex-3.ensures c.put_hex-4.ensures
