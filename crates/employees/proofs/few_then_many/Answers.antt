-- Where one of the few lines was not taken, no more would be.
use mathlib.Core.Path.{subst, sym, ap, ◌∙◌}
use borrow.Author.Tests.{eqb-false}
use Rattle.employees.specs.RunLaws.{Prepared, onward, prepared_run, few_more, few_only}
use Rattle.employees.specs.Runs.{Reached, reached_by}
use Rattle.employees.proofs.few_then_many.Goals as goal

pub marked-requires : goal.marked-requires
marked-requires c = let a = c.args in
    subst (Prepared a.list a.template.now.low a.template.now.high) (sym c.lines-run.ensures)
    (prepared_run a.bytes.now a.list a.template.now.low a.template.now.high c.few_lines-few.result (reached_by a.begun a.ids.now) c.requires)

pub returns-then-took_all : goal.returns-then-took_all
returns-then-took_all c = let a = c.args in
    c.marked.ensures
    ∙ ap (onward a.bytes.now a.list _) c.lines-run.ensures
    ∙ few_more a.bytes.now a.list c.few_lines-few.result a.most (reached_by a.begun a.ids.now) c.few_lines-few.ensures.1

pub returns : goal.returns
returns c = let a = c.args in
    c.lines-run.ensures
    ∙ few_only a.bytes.now a.list c.few_lines-few.result a.most (reached_by a.begun a.ids.now) c.few_lines-few.ensures.1
    (λ all. eqb-false _ _ (sym c.took_all.ensures ∙ c.if-took_all.false) (ap (λ (r : Reached). r.walk.lines) c.lines-run.ensures ∙ all))
