-- Follows the code; need not be believed. The days of a month by rule, with no table.
use Rattle.std.specs.Prelude.{ℕ, ◌+◌, ◌/◌, ◌%◌, ◌≤◌, ◌≡◌, eqb, replicate, if◌then◌else◌}
use Rattle.std.proofs.Common.{eqb-true, arith}
use Rattle.laws.specs.Table.{at}
use Rattle.calendar.specs.Dates.{month_days}

-- 31 and 30 take turns from January on, and anew from August on; February has 28; what is before January has none.
abbrev pub by_rule : ℕ → ℕ
by_rule month = if eqb month 0 then 0 else if eqb month 2 then 28 else 30 + (month + month / 8) % 2

-- One computed test over 0 and the twelve months.
pub rule_agrees : (month : ℕ) → month ≤ 12 → by_rule month ≡ month_days month
unfolding month_days
rule_agrees month h =
    eqb-true (by_rule month) (month_days month)
    (at (λ (k : ℕ) (x : ℕ). eqb (by_rule k) (month_days k)) 0 (replicate 13 0) tt month (omega (arith, h)))
