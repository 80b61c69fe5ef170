-- Laws: how many places the map has, that a column of no record has no field, and that no second answer has the same numbers.
use Prim.Native.Nat.{ℕ, ◌≤◌}
use Rattle.std.specs.Prelude.{◌≡◌, length, Option, Some, None}
use mathlib.Core.List.{[]}
use Rattle.std.proofs.Math.Path.{refl}
use native.Mathlib.Omega.{arith}
use Rattle.std.proofs.Math.ListN.{get_or-eq_default}
use Rattle.pfml_fields.specs.Fields.{fields_of_a, fields_of_e, fields_of_s, fields_of_t, fields_of_f, records, fields}
use Rattle.pfml_fields.specs.Rows.{five_records}
use Rattle.pfml_fields.specs.Map.{spread, column_map, holding, fields_at, numbers_of}

-- ---- the map
pub map_length : length column_map ≡ 1450
unfolding column_map spread fields fields_of_a fields_of_e fields_of_s fields_of_t fields_of_f
map_length = refl

-- ---- the field of a column
-- There is none past the five records, before column 1 and after column 290.
pub no_record : (kind column : ℕ) → 5 ≤ kind → fields_at kind column ≡ []
unfolding fields_at holding
no_record kind column h =
    let past : length records ≤ kind = rw five_records h in
    rw (get_or-eq_default records [] past)

-- ---- the answer
-- No second answer has the same numbers.
pub same_field_at : (a b : Option ℕ) → numbers_of a ≡ numbers_of b → a ≡ b
same_field_at (Some k) (Some j) e = let n : k ≡ j = cc in cc
same_field_at (Some k) None e = let z : ◌≡◌ {A = ℕ} 0 1 = cc in absurd (omega arith)
same_field_at None (Some j) e = let z : ◌≡◌ {A = ℕ} 0 1 = cc in absurd (omega arith)
same_field_at None None e = refl
