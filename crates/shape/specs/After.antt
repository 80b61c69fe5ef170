-- Definitions: what one record makes of each thing that the lines after it are judged by.
-- The meaning of a file takes these steps record by record, and so does the walk.
use Rattle.std.specs.Prelude.{ℕ, ◌+◌, false, List, [], ◌∷◌, ◌++◌, eqb, if◌then◌else◌, unwrap_or}
use Rattle.calendar.specs.declared.Quarter.{Quarter}
use Rattle.edits.specs.Counted.{open_with, totals_with}
use Rattle.edits.specs.declared.Open.{Open}
use Rattle.edits.specs.declared.Phase.{Phase}
use Rattle.edits.specs.declared.Phase.TheVariants.{AfterA, EOpen, AfterT, AfterF}
use Rattle.edits.specs.declared.Totals.{Totals}
use Rattle.tables.specs.declared.Employer.{Employer}
use Rattle.shape.specs.declared.EmployeeOn.{EmployeeOn}
use Rattle.shape.specs.declared.EmployerOn.{EmployerOn}
use Rattle.shape.specs.declared.Said.{Said}
use Rattle.shape.specs.declared.Said.TheVariants.{OfA, OfE, OfS, OfT, OfF, OfNote, OfNone}

-- Where the next line stands: the nearest record tells. (A line of no record is never passed, so what it would leave does not matter.)
abbrev pub phase_after : Said → Phase → Phase
phase_after (OfA quarter) phase = AfterA
phase_after (OfE employer) phase = EOpen
phase_after (OfS employee) phase = EOpen
phase_after OfT phase = AfterT
phase_after OfF phase = AfterF
phase_after (OfNote note) phase = phase
phase_after OfNone phase = phase

-- The quarter that the file reports: A's, and in a format that has it on E, that of E.
abbrev pub no_quarter : Quarter
no_quarter = record { year = 0; month = 0 }

abbrev pub filed_after : Said → Quarter → Quarter
filed_after (OfA quarter) filed = quarter
filed_after (OfE employer) filed = unwrap_or employer.files filed
filed_after (OfS employee) filed = filed
filed_after OfT filed = filed
filed_after OfF filed = filed
filed_after (OfNote note) filed = filed
filed_after OfNone filed = filed

-- The open E: what it says, and the number and the amounts of the S records under it. "The S records under an E are those after it with no
-- other line between."
abbrev pub none_open : Open
none_open =
    record {
      fein = 0;
      follow = false;
      count = 0;
      sum = 0;
      second = 0;
      others = 0;
      nearest = 0;
      noted = false;
      account_head = 0;
      account_tail = 0;
    }

abbrev pub opened : EmployerOn → Open
opened employer =
    record {
      fein = employer.fein;
      follow = employer.follow;
      count = 0;
      sum = 0;
      second = 0;
      others = 0;
      nearest = 0;
      noted = false;
      account_head = employer.account_head;
      account_tail = employer.account_tail;
    }

-- The entry of the employer list that E begins. "The wage file's employer entry gains, at E, the amended flag, the final flag and the cease date as
-- a number, zero if none"; "its count and cents (zero till then) at T".
abbrev pub entry_at_e : EmployerOn → Employer
entry_at_e employer =
    record {
      fein = employer.fein;
      count = 0;
      cents = 0;
      amended = employer.amended;
      final_return = employer.final_return;
      cease_date = employer.cease_date;
    }

abbrev pub with_one : EmployeeOn → Open → Open
with_one employee this = open_with this (this.count + 1) (this.sum + employee.wages) (this.second + employee.second)

abbrev pub open_after : Said → Open → Open
open_after (OfA quarter) this = none_open
open_after (OfE employer) this = opened employer
open_after (OfS employee) this = with_one employee this
open_after OfT this = none_open
open_after OfF this = none_open
open_after (OfNote note) this = this
open_after OfNone this = none_open

-- The identity numbers under the open E, in file order; "000000000 means applied for"; "only such numbers take room": others than zero.
abbrev pub and_id : List ℕ → ℕ → List ℕ
and_id ids id = if eqb id 0 then ids else ids ++ (id ∷ [])

abbrev pub ids_with : Said → List ℕ → List ℕ
ids_with (OfA quarter) ids = []
ids_with (OfE employer) ids = []
ids_with (OfS employee) ids = and_id ids employee.id
ids_with OfT ids = []
ids_with OfF ids = []
ids_with (OfNote note) ids = ids
ids_with OfNone ids = []

-- How many they are.
abbrev pub one_used : ℕ → ℕ → ℕ
one_used used id = if eqb id 0 then used else used + 1

abbrev pub used_after : Said → ℕ → ℕ
used_after (OfA quarter) used = 0
used_after (OfE employer) used = 0
used_after (OfS employee) used = one_used used employee.id
used_after OfT used = 0
used_after OfF used = 0
used_after (OfNote note) used = used
used_after OfNone used = 0

-- The whole file: its S records, its E records, the amounts of all S records, and the records under an E that are no S.
abbrev pub no_totals : Totals
no_totals = record { count = 0; employers = 0; sum = 0; second = 0; others = 0; notes = 0 }

abbrev pub one_employer : Totals → Totals
one_employer all = totals_with all all.count (all.employers + 1) all.sum all.second

abbrev pub one_employee : EmployeeOn → Totals → Totals
one_employee employee all = totals_with all (all.count + 1) all.employers (all.sum + employee.wages) (all.second + employee.second)

abbrev pub one_other : Totals → Totals
one_other all =
    record {
      count = all.count;
      employers = all.employers;
      sum = all.sum;
      second = all.second;
      others = all.others + 1;
      notes = all.notes;
    }

abbrev pub totals_after : Said → Totals → Totals
totals_after (OfA quarter) all = all
totals_after (OfE employer) all = one_employer all
totals_after (OfS employee) all = one_employee employee all
totals_after OfT all = all
totals_after OfF all = all
totals_after (OfNote note) all = one_other all
totals_after OfNone all = all

-- The FEINs of the E records, in file order.
abbrev pub feins_with : Said → List ℕ → List ℕ
feins_with (OfA quarter) feins = feins
feins_with (OfE employer) feins = feins ++ (employer.fein ∷ [])
feins_with (OfS employee) feins = feins
feins_with OfT feins = feins
feins_with OfF feins = feins
feins_with (OfNote note) feins = feins
feins_with OfNone feins = feins
