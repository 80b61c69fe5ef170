use native.Mathlib.Omega.{arith}
use Rattle.std.proofs.Common.{sym, ap}
use Rattle.lines.specs.Lines.{first_line}
use Rattle.state.specs.UnfitLaws.{fit_lines}
use Rattle.state.specs.Walks.{walk_of, standing_of}
use Rattle.step.specs.ReadyLaws.{passed_ready}
use Rattle.step.proofs.reading.read_line.Goals as goal

pub refuse-requires : goal.refuse-requires
refuse-requires c = fit_lines _ (walk_of c.args.st) c.requires.1

pub go_on-requires : goal.go_on-requires
go_on-requires c =
    let a = c.args in
    let e = rw c.context-here.ensures at (sym c.in-Ok.ensures) in
    passed_ready (record { ids = a.ids; list = a.list }) (walk_of a.st) a.phase (ap standing_of c.requires.0) c.requires.1 (omega arith)
    a.seen (first_line a.bytes.now) _ _ e
