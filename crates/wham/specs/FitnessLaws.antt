-- Laws: a sum of 64 bits exceeds none of 18,446,745 amounts or more.
use Rattle.std.specs.Prelude.{ℕ, ◌*◌, ◌≤◌, ◌<◌, ◌≡◌, false}
use Rattle.std.proofs.Common.{arith, le-ltb}
use Rattle.wham.specs.Fitness.{most_cents, is_above}

pub above_none : (count sum : ℕ) → 18446745 ≤ count → sum < 18446744073709551616 → is_above count sum ≡ false
above_none count sum many low = le-ltb (count * most_cents) sum (omega (arith, many, low))
