-- At each turn the run has come to where it stands, and the numbers in use are marked.
use Prim.Native.Nat.{◌+◌, ◌-◌, ◌^◌}
use mathlib.Core.Path.{◌≡◌, sym, ◌∙◌}
use native.Mathlib.Omega.{arith}
use borrow.Author.Rules.{rules}
use lib.ListN.{drop}
use Rattle.plain.specs.Laws.{some_seen}
use Rattle.state.specs.Walks.{walk_of}
use Rattle.employees.specs.RunTurnLaws.{all_taken, seen_id, seen_within, ends_here, ends_unseen, taken_is, taken_sums, still_going}
use Rattle.employees.proofs.lines.Goals as goal

pub returns-in_default : goal.returns-in_default
returns-in_default c = ends_unseen _ _ _ _ _ _ _ _ _ c.loop.invariant.0 (sym c.sight_at.ensures ∙ c.in_default.is)

pub takes-requires : goal.takes-requires
takes-requires c =
    let v = some_seen _ _ _ _ (sym c.sight_at.ensures ∙ c.in-Some.is) in
    (seen_id c.args.bytes.now _ _ c.loop.run.at _ v.0, c.loop.invariant.0.covers)

pub returns-then-not-takes : goal.returns-then-not-takes
returns-then-not-takes c =
    let v = some_seen _ _ _ _ (sym c.sight_at.ensures ∙ c.in-Some.is) in
    ends_here _ _ _ _ _ _ _ _ _ c.loop.invariant.0 _ v.0 (taken_is c.in-Some.s (walk_of c.loop.run.state) c.loop.ids v.1 ∙ sym c.takes.ensures ∙ c.if-not-takes.true)

pub keep-requires : goal.keep-requires
keep-requires c =
    let v = some_seen _ _ _ _ (sym c.sight_at.ensures ∙ c.in-Some.is) in
    seen_id c.args.bytes.now _ _ c.loop.run.at _ v.0

pub with_one-requires : goal.with_one-requires
with_one-requires c =
    let v = some_seen _ _ _ _ (sym c.sight_at.ensures ∙ c.in-Some.is) in
    rw c.said_in.ensures
    (taken_sums _ _ _ _ _ _ _ _ _ c.loop.invariant.0 _ v.0 (taken_is c.in-Some.s (walk_of c.loop.run.state) c.loop.ids v.1 ∙ sym c.takes.ensures ∙ c.if-not-takes.false)
    (omega (arith, c.well_formed.1.1.0, c.loop.auto.ids)))

pub overflow_add-run : goal.overflow_add-run
overflow_add-run c =
    let v = some_seen _ _ _ _ (sym c.sight_at.ensures ∙ c.in-Some.is) in
    record { fits = seen_within _ _ _ _ _ v.0 (2 ^ 64) c.loop.invariant.1 (omega (arith, c.well_formed.1.0)) }

pub loop-preserved : goal.loop-preserved
loop-preserved c =
    let v = some_seen _ _ _ _ (sym c.sight_at.ensures ∙ c.in-Some.is) in
    let less : c.args.most - (c.loop.counter + 1) ≡ c.args.most - c.loop.counter - 1 = omega arith in (
      rw less (still_going _ _ _ _ _ _ _ _ _ c.loop.invariant.0 _ v.0 (taken_is c.in-Some.s (walk_of c.loop.run.state) c.loop.ids v.1 ∙ sym c.takes.ensures ∙ c.if-not-takes.false) (omega arith) _ _ _
          (rw c.said_in.ensures at c.with_one.ensures) c.keep.ensures c.mark.ensures),
      seen_within _ _ _ _ _ v.0 (2 ^ 64) c.loop.invariant.1 (omega (arith, c.well_formed.1.0)),
    )

pub returns : goal.returns
returns c = all_taken _ _ _ _ _ _ _ _ _ c.loop.invariant.0 (omega arith)
