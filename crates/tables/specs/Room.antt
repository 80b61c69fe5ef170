-- Definitions: the two tables that a caller lends, and how much room they have.
use Rattle.std.specs.Prelude.{ℕ, min, List, length, replicate}
use Rattle.tables.specs.Tables.{no_employer}
use Rattle.tables.specs.declared.Employer.{Employer}

-- How many entries each table has.
pub record Room : Type 0 where
  pub ids : ℕ
  pub list : ℕ

-- "Only the first 65,536 entries of the employer list are used."
abbrev pub most_employers : ℕ
most_employers = 65536

abbrev pub entries_used : Room → ℕ
entries_used room = min most_employers room.list

-- "an id table of 32-bit numbers and an employer list"
pub record Tables : Type 0 where
  pub ids : List ℕ
  pub list : List Employer

abbrev pub tables : List ℕ → List Employer → Tables
tables ids list = record { ids = ids; list = list }

abbrev pub room_of : Tables → Room
room_of t = record { ids = length t.ids; list = length t.list }

-- "zeroes both tables, every entry"
abbrev pub zeroed : Room → Tables
zeroed room = tables (replicate room.ids 0) (replicate room.list no_employer)

abbrev pub cleared : Tables → Tables
cleared t = zeroed (room_of t)
