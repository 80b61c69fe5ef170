use mathlib.Core.Path.{sym, ◌∙◌}
use lib.ListN.{length}
use Rattle.state.specs.Walks.{walk_of}
use Rattle.employees.specs.RunLaws.{none_awaited}
use Rattle.employees.proofs.run_from.Goals as goal

pub returns : goal.returns
returns c = let a = c.args in
    sym (none_awaited a.bytes.now a.list (length a.bytes.now) (record { at = a.from; walk = walk_of a.opened; ids = a.ids.now }) (sym c.awaits.ensures ∙ c.if-awaits.false))
