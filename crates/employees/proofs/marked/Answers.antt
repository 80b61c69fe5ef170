use lib.ListN.{replicate}
use Rattle.employees.specs.MarkLaws.{covers_first}
use Rattle.employees.proofs.marked.Goals as goal

pub lines-requires : goal.lines-requires
lines-requires c = (c.requires, rw c.mark_first.ensures (covers_first c.args.ids.now (replicate 32768 0) c.args.begun.state.used))
