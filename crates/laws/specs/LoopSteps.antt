-- Laws: how many steps a loop has left, and what the next one leaves.
use Rattle.std.specs.Prelude.{ℕ, suc, ◌+◌, ◌-◌, ◌<◌, ◌≤◌, ◌≡◌}
use Rattle.std.proofs.Common.{arith}

pub left_suc : (end i : ℕ) → i < end → end - i ≡ suc (end - (i + 1))
left_suc end i h = omega arith

pub left_none : (end i : ℕ) → end ≤ i → end - i ≡ 0
left_none end i h = omega arith
