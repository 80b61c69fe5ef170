use mathlib.Core.Path.{sym, ◌∙◌}
use lib.ListN.{drop, drop_of_length-le}
use Rattle.employees.specs.Carries.{behind_run, behind_refused, behind_nothing}
use Rattle.employees.specs.RunLaws.{rest}
use Rattle.employees.specs.Runs.{left_by}
use Rattle.employees.proofs.behind.Goals as goal

pub returns-then-taken-eq0 : goal.returns-then-taken-eq0
returns-then-taken-eq0 c = let a = c.args in
    sym (behind_refused (drop a.at a.bytes.now) a.list (left_by a.a a.ids.now) (sym c.taken_in-taken.ensures ∙ c.if-taken-eq0.true))

pub returns-then-bytes-at : goal.returns-then-bytes-at
returns-then-bytes-at c = let a = c.args in
    rw (drop_of_length-le a.bytes.now {i = a.at} c.if-bytes-at.true) (sym (behind_nothing a.list (left_by a.a a.ids.now)))

pub returns : goal.returns
returns c = let a = c.args in
    behind_run (drop a.at a.bytes.now) a.list a.a a.ids.now c.run_from-run.result _ (λ none. c.if-taken-eq0.false (c.taken_in-taken.ensures ∙ none))
    (rw (rest a.at a.bytes.now, c.taken_in-taken.ensures) at c.run_from-run.ensures)
