-- Each turn wipes one more.
use Rattle.std.proofs.Common.{◌≡◌}
use Rattle.tables.specs.Tables.{wiped}
use Rattle.tables.proofs.zero_first.Given as goal

abbrev pub invariant-loop-entry : goal.invariant-loop-entry
invariant-loop-entry g l = l.entry-items ≡ wiped l.rest l.entry-index l.initial.entry-items
