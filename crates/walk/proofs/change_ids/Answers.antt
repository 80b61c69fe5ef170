-- All of the table at rest is as many entries at rest as it has.
use Prim.Native.Nat.{ℕ}
use mathlib.Core.Path.{◌∙◌}
use native.Mathlib.Nat.{le_refl}
use lib.ListN.{length}
use Rattle.tables.specs.Laws.{wiped_all}
use Rattle.walk.proofs.change_ids.Goals as goal

pub returns-in-Clear : goal.returns-in-Clear
returns-in-Clear c = rw c.in-Clear.is (c.zero_first.ensures ∙ wiped_all {A = ℕ} 0 c.args.ids.now (length c.args.ids.now) (le_refl (length c.args.ids.now)))
