-- Test after test.
use Prim.Native.Nat.{ℕ, ◌+◌}
use mathlib.Core.Path.{sym, ap, ◌∙◌}
use native.Mathlib.Omega.{arith}
use lib.ListN.{drop}
use Rattle.std.specs.Prelude.{Option, Some}
use Rattle.lines.specs.Laws.{end_short}
use Rattle.plain.specs.SightOutcomes.{not_between, no_names, no_end, not_filed, is_plain_lem}
use Rattle.plain.specs.declared.Sighted.{Sighted}
use Rattle.plain.proofs.sight_here.Goals as goal

pub returns-then-not-within : goal.returns-then-not-within
returns-then-not-within c =
    let a = c.args in
    sym (not_between a.low.now a.high.now a.line.now c.requires.0 c.requires.1 c.requires.2 (sym c.within.ensures ∙ c.if-not-within.true))

pub returns-then-not-all_hold : goal.returns-then-not-all_hold
returns-then-not-all_hold c =
    let a = c.args in
    sym (no_names a.low.now a.high.now a.line.now c.requires.0 c.requires.1 c.requires.2 (sym c.within.ensures ∙ c.if-not-within.false)
    (sym c.all_hold.ensures ∙ c.if-not-all_hold.true))

pub returns-then-end-eq0 : goal.returns-then-end-eq0
returns-then-end-eq0 c =
    let a = c.args in
    sym (no_end a.low.now a.high.now a.line.now c.requires.0 c.requires.1 c.requires.2 (sym c.within.ensures ∙ c.if-not-within.false)
    (sym c.all_hold.ensures ∙ c.if-not-all_hold.false) (sym c.end_length-end.ensures ∙ c.if-end-eq0.true))

pub returns-then-not-may_be_filed : goal.returns-then-not-may_be_filed
returns-then-not-may_be_filed c =
    let a = c.args in
    sym (not_filed a.low.now a.high.now a.line.now c.requires.0 c.requires.1 c.requires.2 (sym c.within.ensures ∙ c.if-not-within.false)
    (sym c.all_hold.ensures ∙ c.if-not-all_hold.false) (λ none. c.if-end-eq0.false (c.end_length-end.ensures ∙ none))
    (rw (← c.digits_in-id.ensures) (sym c.may_be_filed.ensures ∙ c.if-not-may_be_filed.true)))

pub returns : goal.returns
returns c =
    let a = c.args in
    let taken = ap (λ (end : ℕ). 290 + end) c.end_length-end.ensures in
    let id = c.digits_in-id.ensures in
    let wages = c.digits_in-wages.ensures in
    ap {B = Option Sighted} Some (λ i. record { taken = taken i; id = id i; wages = wages i })
    ∙ sym (is_plain_lem a.low.now a.high.now a.line.now c.requires.0 c.requires.1 c.requires.2 (sym c.within.ensures ∙ c.if-not-within.false)
    (sym c.all_hold.ensures ∙ c.if-not-all_hold.false) (λ none. c.if-end-eq0.false (c.end_length-end.ensures ∙ none))
    (rw (← c.digits_in-id.ensures) (sym c.may_be_filed.ensures ∙ c.if-not-may_be_filed.false)))

-- A line end takes at most two bytes.

pub overflow_add-result : goal.overflow_add-result
overflow_add-result c =
    let line = c.args.line.now in
    omega (arith, c.end_length-end.ensures, end_short (drop 290 line))
