-- Definitions: what the records before a line come to: all that the line is judged by.
-- `p` is always the records before, the nearest first; what one record makes of each thing is in `After` (crate shape).
use Rattle.std.specs.Prelude.{ℕ, List, [], ◌∷◌, ◌++◌}
use Rattle.calendar.specs.declared.Quarter.{Quarter}
use Rattle.edits.specs.declared.Open.{Open}
use Rattle.edits.specs.declared.Phase.{Phase}
use Rattle.edits.specs.declared.Phase.TheVariants.{BeforeA}
use Rattle.edits.specs.declared.Totals.{Totals}
use Rattle.shape.specs.After.{phase_after, no_quarter, filed_after, none_open, open_after, entry_at_e, ids_with, no_totals, totals_after, feins_with}
use Rattle.shape.specs.declared.Said.{Said}
use Rattle.shape.specs.declared.Said.TheVariants.{OfA, OfE, OfS, OfT, OfF, OfNote, OfNone}
use Rattle.tables.specs.Tables.{closed_last}
use Rattle.tables.specs.declared.Employer.{Employer}

-- Where a line stands.
abbrev pub phase_in : List Said → Phase
phase_in [] = BeforeA
phase_in (said ∷ p) = phase_after said (phase_in p)

-- The quarter that the file reports.
abbrev pub filed_in : List Said → Quarter
filed_in [] = no_quarter
filed_in (said ∷ p) = filed_after said (filed_in p)

-- The open E, with the number and the amounts of the S records under it.
abbrev pub open_in : List Said → Open
open_in [] = none_open
open_in (said ∷ p) = open_after said (open_in p)

-- The identity numbers under the open E, in file order.
abbrev pub ids_under : List Said → List ℕ
ids_under [] = []
ids_under (said ∷ p) = ids_with said (ids_under p)

-- The whole file: its S records, its E records, the amounts of all S records, and the notes.
abbrev pub totals_in : List Said → Totals
totals_in [] = no_totals
totals_in (said ∷ p) = totals_after said (totals_in p)

-- The FEINs of the E records, in file order.
abbrev pub feins_in : List Said → List ℕ
feins_in [] = []
feins_in (said ∷ p) = feins_with said (feins_in p)

-- The employer list's entries, in file order. "An employer's entry gets its FEIN at E, its count and cents (zero till then) at T", and at E the
-- flags and the cease date.
abbrev pub entries_in : List Said → List Employer
entries_in [] = []
entries_in (OfA quarter ∷ p) = entries_in p
entries_in (OfE employer ∷ p) = entries_in p ++ (entry_at_e employer ∷ [])
entries_in (OfS employee ∷ p) = entries_in p
entries_in (OfT ∷ p) = closed_last (open_in p).count (open_in p).sum (entries_in p)
entries_in (OfF ∷ p) = entries_in p
entries_in (OfNote note ∷ p) = entries_in p
entries_in (OfNone ∷ p) = entries_in p
