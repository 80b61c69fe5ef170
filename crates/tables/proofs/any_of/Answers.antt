-- What is found is whether one of the entries looked at passes.
use Rattle.std.proofs.Common.{refl, sym, ◌∙◌, take}
use Rattle.std.proofs.lemmas.Fn.{says_at}
use Rattle.std.proofs.lemmas.List.{take_all}
use Rattle.std.proofs.lemmas.List.Folds.{list_any_more}
use Rattle.tables.specs.TableSteps.{take_least}
use Rattle.tables.proofs.any_of.Goals as goal

pub loop-entry-preserved : goal.loop-entry-preserved
loop-entry-preserved g c = λ tells told.
    let l = c.loop-entry in
    let now = told _ _ (says_at g.F.Fn c.test-found.ensures refl) in
    let more = list_any_more tells (take c.min.result c.args.table.now) l.entry-index c.entry-item.result c.loop-entry-test.true in
    rw (l.invariant tells told, now, c.entry-item.is) (sym more)
