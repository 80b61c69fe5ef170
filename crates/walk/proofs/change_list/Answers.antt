-- All of the list at rest is as many entries at rest as it has; an entry at T keeps what it has but for its count and cents.
use native.Mathlib.Nat.{le_refl}
use Rattle.std.proofs.Common.{sym, ap, ◌∙◌, set, length}
use Rattle.tables.specs.Laws.{wiped_all, closed_is}
use Rattle.tables.specs.Tables.{closed, no_employer}
use Rattle.tables.specs.declared.Employer.{Employer}
use Rattle.walk.proofs.change_list.Goals as goal

pub returns-in-Clear : goal.returns-in-Clear
returns-in-Clear c =
    let list = c.args.list.now in
    rw c.in-Clear.is (c.zero_first.ensures ∙ wiped_all {A = Employer} no_employer list (length list) (le_refl (length list)))

pub returns-in-Closes : goal.returns-in-Closes
returns-in-Closes c =
    let t = c.in-Closes in
    rw (t.is) (
    c.put-in-Closes.ensures
    ∙ ap (set c.args.list.now t.at) (c.closed_entry.ensures ∙ ap (λ (e : Employer). closed e t.count t.cents) c.entry_at-old.ensures)
    ∙ sym (closed_is t.at t.count t.cents c.args.list.now)
    )
