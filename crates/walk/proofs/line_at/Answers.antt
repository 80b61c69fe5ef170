use mathlib.Core.Path.{◌∙◌}
use lib.ListN.{drop}
use Rattle.state.specs.Walks.{walk_of}
use Rattle.walk.specs.Carry.{both_written, line_carried}
use Rattle.walk.proofs.line_at.Goals as goal

pub returns : goal.returns
returns c =
    let m = c.move_at-m.result in
    let ids = c.args.ids.now in
    let list = c.args.list.now in
    both_written m ids list _ _ c.change_ids.ensures c.change_list.ensures
    ∙ line_carried m ids list (walk_of c.args.st) (drop c.args.at c.args.bytes.now) c.is_repeated-repeated.result c.is_repeated-repeated.ensures c.move_at-m.ensures
