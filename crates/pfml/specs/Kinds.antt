-- Definitions: the five records, by their letters.
use Rattle.std.specs.Prelude.{ℕ, Bool, true, false, List, eqb, get_or, if◌then◌else◌}
use Rattle.edits.specs.Further.{none_further}
use Rattle.edits.specs.declared.Landmarks.{Landmarks}
use Rattle.edits.specs.FieldRow.{first_in, last_in}
use Rattle.pfml_fields.specs.Fields.{year_of_a, period_of_a, state_of_a, year_of_e, period_of_e, state_of_e, final_of_e}
use Rattle.pfml.specs.declared.kind.Kind.{Kind}
use Rattle.pfml.specs.declared.kind.Kind.TheVariants.{Transmitter, Employer, Employee, Total, Final, Unknown}

-- A, E, S, T, F
unfoldable pub kind_of : ℕ → Kind
kind_of letter =
    if eqb letter 65 then Transmitter else
    if eqb letter 69 then Employer else
    if eqb letter 83 then Employee else
    if eqb letter 84 then Total else
    if eqb letter 70 then Final else
    Unknown

-- The record on a text: "the record letter" is its first character.
abbrev pub kind_on : List ℕ → Kind
kind_on text = kind_of (get_or text 0 0)

-- The record's place in the order A, E, S, T, F, by which the list of fields counts records.
abbrev pub place_in_order : Kind → ℕ
place_in_order Transmitter = 0
place_in_order Employer = 1
place_in_order Employee = 2
place_in_order Total = 3
place_in_order Final = 4
place_in_order Unknown = 5

-- A record that has no such field.
abbrev pub no_landmarks : Landmarks
no_landmarks = record { year_first = 0; year_last = 0; period_first = 0; period_last = 0; state = 0; final_flag = 0; further = none_further }

-- The columns that the rules of other fields look at: year and period for the period test, the state for ZIP and extension, E's period
-- for 191, E's 282 for the cease date.
abbrev pub landmarks_of : Kind → Landmarks
landmarks_of Transmitter =
    record {
      year_first = first_in year_of_a;
      year_last = last_in year_of_a;
      period_first = first_in period_of_a;
      period_last = last_in period_of_a;
      state = first_in state_of_a;
      final_flag = 0;
      further = none_further;
    }
landmarks_of Employer =
    record {
      year_first = first_in year_of_e;
      year_last = last_in year_of_e;
      period_first = first_in period_of_e;
      period_last = last_in period_of_e;
      state = first_in state_of_e;
      final_flag = first_in final_of_e;
      further = none_further;
    }
landmarks_of Employee = no_landmarks
landmarks_of Total = no_landmarks
landmarks_of Final = no_landmarks
landmarks_of Unknown = no_landmarks

abbrev pub is_known : Kind → Bool
is_known Unknown = false
is_known Transmitter = true
is_known Employer = true
is_known Employee = true
is_known Total = true
is_known Final = true
