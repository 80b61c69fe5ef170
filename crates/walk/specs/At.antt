-- Definitions: the state and the tables that the records before leave, as functions of them.
use Rattle.std.specs.Prelude.{List, length}
use Rattle.edits.specs.declared.Opening.{Opening}
use Rattle.shape.specs.declared.Said.{Said}
use Rattle.tables.specs.Pad.{pad}
use Rattle.tables.specs.Room.{Room, Tables, tables}
use Rattle.tables.specs.Tables.{no_employer}
use Rattle.meaning.specs.Before.{phase_in, filed_in, open_in, ids_under, totals_in, entries_in}
use Rattle.state.specs.Walks.{Standing, reading, accepted, Walk}

-- The state of a walk that stands so after these records.
abbrev pub walk_in : Standing → Opening → List Said → Walk
walk_in standing held p =
    record {
      standing = standing;
      lines = length p;
      held = held;
      filed = filed_in p;
      «open» = open_in p;
      all = totals_in p;
      used = length (ids_under p);
    }

-- The state after these records, and at the accepted end after them.
abbrev pub walk_at : Opening → List Said → Walk
walk_at held p = walk_in (reading (phase_in p)) held p

abbrev pub accepted_at : Opening → List Said → Walk
accepted_at held p = walk_in accepted held p

-- "While an E is open the id table holds its numbers in file order, then zeros. When no E is open the id table is all zeros. An employer's entry
-- gets its FEIN at E, its count and cents (zero till then) at T."
abbrev pub tables_at : Room → List Said → Tables
tables_at room p = tables (pad 0 room.ids (ids_under p)) (pad no_employer room.list (entries_in p))
