-- Laws: by format, a product with the most cents of a record does not wrap, and neither does one record more.
use Rattle.std.specs.Prelude.{ℕ, ◌+◌, ◌*◌, ◌≤◌}
use Rattle.std.proofs.Common.{le_trans, mul-le-mul, arith}
use Rattle.edits.specs.declared.format.Format.{Format}
use Rattle.shape.specs.Limits.{most_employees}
use Rattle.record.specs.ShapeOf.{shape_of}
use Rattle.record.specs.Laws.{lawful_of}

pub product_small : (format : Format) (n : ℕ) → n ≤ most_employees → n * (shape_of format).most_cents ≤ 9999999999999900000
product_small format n h = le_trans (mul-le-mul h (lawful_of format).cents_small) (omega arith)

pub one_more : (n cents sum wages : ℕ) → sum ≤ n * cents → wages ≤ cents → sum + wages ≤ (n + 1) * cents
one_more n cents sum wages h k = omega arith
