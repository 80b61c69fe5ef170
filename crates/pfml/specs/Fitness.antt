-- Definitions: 72, the clauses of its list that are PFML's own.
use Rattle.std.specs.Prelude.{ℕ, Bool, false, not, ◌&&◌, leb, ltb}
use Rattle.calendar.specs.Quarters.{is_reportable}
use Rattle.calendar.specs.declared.Quarter.{Quarter}
use Rattle.edits.specs.Formats.{quarter_held}
use Rattle.edits.specs.declared.Opening.{Opening}
use Rattle.edits.specs.declared.Phase.{Phase}
use Rattle.edits.specs.declared.Phase.TheVariants.{BeforeA, AfterA, EOpen, AfterT, AfterF}

-- "lines read exceed 231,074"
abbrev pub most_lines : ℕ
most_lines = 231074

-- "either wage sum exceeds its S count times 99,999,999,999,999": what 14 digits of wages can say
abbrev pub most_cents : ℕ
most_cents = 99999999999999

-- "ids in use exceed the id table"; "nor an open E's numbers, ids in use among them, when none is open"
abbrev pub ids_unfit : ℕ → ℕ → Bool → Bool
ids_unfit ids used is_open = is_open && ltb ids used

-- "or A's once A is read, is none that this paper allows"; with (v) of document 02, "72 reads A's quarter likewise": closed or current
abbrev pub quarter_unfit : Phase → Opening → Quarter → Bool
quarter_unfit BeforeA held filed = false
quarter_unfit AfterA held filed = not (is_reportable (quarter_held held) filed)
quarter_unfit EOpen held filed = not (is_reportable (quarter_held held) filed)
quarter_unfit AfterT held filed = not (is_reportable (quarter_held held) filed)
quarter_unfit AfterF held filed = not (is_reportable (quarter_held held) filed)

-- "A refusal from 1 to 63, or a later number for an edit of a record", which are 64 and 65
abbrev pub is_left : ℕ → Bool
is_left number = leb 1 number && leb number 65
