-- Definitions: limits that hold in every format.
use Rattle.std.specs.Prelude.{ℕ}

-- "At most 100,000 S records a file."
abbrev pub most_employees : ℕ
most_employees = 100000

-- "the open E's FEIN exceeds 999,999,999"
abbrev pub most_fein : ℕ
most_fein = 999999999
