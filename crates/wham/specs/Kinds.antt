-- Definitions: the six records of the amended withholding file, by their letters.
use Rattle.std.specs.Prelude.{ℕ, ◌+◌, Bool, true, false, List, eqb, get_or, if◌then◌else◌}
use Rattle.edits.specs.FieldRow.{first_in, last_in}
use Rattle.edits.specs.Further.{none_further}
use Rattle.edits.specs.declared.FurtherLandmarks.{FurtherLandmarks}
use Rattle.edits.specs.declared.Landmarks.{Landmarks}
use Rattle.wham_fields.specs.Fields.{state_of_a, state_of_e, processor_of_e as processor, account_of_s as account, payments_of_t, amended_of_t}
use Rattle.wham.specs.declared.kind.Kind.{Kind}
use Rattle.wham.specs.declared.kind.Kind.TheVariants.{Transmitter, Employer, Employee, Deposit, Total, Final, Unknown}

-- A, E, S, R, T, F: "letter not one of A E S R T F" is 4
unfoldable pub kind_of : ℕ → Kind
kind_of letter =
    if eqb letter 65 then Transmitter else
    if eqb letter 69 then Employer else
    if eqb letter 83 then Employee else
    if eqb letter 82 then Deposit else
    if eqb letter 84 then Total else
    if eqb letter 70 then Final else
    Unknown

-- The record on a text: its letter is its first character.
abbrev pub kind_on : List ℕ → Kind
kind_on text = kind_of (get_or text 0 0)

abbrev pub is_known : Kind → Bool
is_known Unknown = false
is_known Transmitter = true
is_known Employer = true
is_known Employee = true
is_known Deposit = true
is_known Total = true
is_known Final = true

-- The record's place in the order A, E, S, R, T, F.
abbrev pub place_in_order : Kind → ℕ
place_in_order Transmitter = 0
place_in_order Employer = 1
place_in_order Employee = 2
place_in_order Deposit = 3
place_in_order Total = 4
place_in_order Final = 5
place_in_order Unknown = 6

-- ---- the columns that the rules of other fields look at: the state for ZIP and extension
abbrev pub with_state : ℕ → FurtherLandmarks → Landmarks
with_state state further =
    record { year_first = 0; year_last = 0; period_first = 0; period_last = 0; state = state; final_flag = 0; further = further }

-- E: the payroll processor's EIN for the licence
abbrev pub processor_of_e : FurtherLandmarks
processor_of_e =
    record {
      licensed_first = first_in processor;
      licensed_last = last_in processor;
      whole_first = 0;
      whole_last = 0;
      part_first = 0;
      part_last = 0;
      head_last = 0;
      tail_first = 0;
      tail_last = 0;
    }

-- S: the account in two parts, of six columns and of five
abbrev pub account_of_s : FurtherLandmarks
account_of_s =
    record {
      licensed_first = 0;
      licensed_last = 0;
      whole_first = 0;
      whole_last = 0;
      part_first = 0;
      part_last = 0;
      head_last = first_in account + 5;
      tail_first = first_in account + 6;
      tail_last = last_in account;
    }

-- T: "T Record Location 213-226 minus 112-122"
abbrev pub difference_of_t : FurtherLandmarks
difference_of_t =
    record {
      licensed_first = 0;
      licensed_last = 0;
      whole_first = first_in amended_of_t;
      whole_last = last_in amended_of_t;
      part_first = first_in payments_of_t;
      part_last = last_in payments_of_t;
      head_last = 0;
      tail_first = 0;
      tail_last = 0;
    }

abbrev pub landmarks_of : Kind → Landmarks
landmarks_of Transmitter = with_state (first_in state_of_a) none_further
landmarks_of Employer = with_state (first_in state_of_e) processor_of_e
landmarks_of Employee = with_state 0 account_of_s
landmarks_of Deposit = with_state 0 none_further
landmarks_of Total = with_state 0 difference_of_t
landmarks_of Final = with_state 0 none_further
landmarks_of Unknown = with_state 0 none_further
