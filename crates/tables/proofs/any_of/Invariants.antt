-- What is found is whether one of the entries looked at passes.
use Rattle.std.proofs.Common.{◌≡◌, Bool, take}
use Rattle.std.specs.Fn.{FnReturnsAt}
use Rattle.std.specs.List.{list_any}
use Rattle.tables.specs.TableSteps.{Tells}
use Rattle.tables.proofs.any_of.Given as goal

abbrev pub invariant-loop-entry : goal.invariant-loop-entry
invariant-loop-entry g l =
    (tells : g.row.T.Denot → Bool) → Tells (FnReturnsAt g.F.Fn l.test) tells → l.found ≡ list_any tells (take l.entry-index l.entry-items)
