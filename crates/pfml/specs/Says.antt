-- Definitions: what a record that breaks no edit says to the walk.
use Rattle.std.specs.Prelude.{ℕ, Bool, true, List, None, eqb}
use Rattle.edits.specs.FieldRow.{value_at}
use Rattle.pfml_fields.specs.Fields.{year_of_a, period_of_a, fein_of_e, amended_of_e, no_wages_of_e, final_of_e, cease_date_of_e, identity_of_s, wages_of_s}
use Rattle.shape.specs.declared.Said.{Said}
use Rattle.shape.specs.declared.Said.TheVariants.{OfA, OfE, OfS, OfT, OfF, OfNone}
use Rattle.pfml.specs.Kinds.{kind_on}
use Rattle.pfml.specs.declared.kind.Kind.{Kind}
use Rattle.pfml.specs.declared.kind.Kind.TheVariants.{Transmitter, Employer, Employee, Total, Final, Unknown}
use Rattle.field.specs.declared.class.Field.{Field}

-- Whether a flag is 1.
abbrev pub is_set : List ℕ → Field → Bool
is_set text field = eqb (value_at text field) 1

-- A its year and period; E its FEIN, whether 190 is 1, and as numbers the flags 187 and 282 and the cease date; S its identity number and its wages.
-- A FEIN stands on one E alone ("on an earlier E 45"); there is no second amount, no account number is held, and the quarter is A's.
abbrev pub said_by : Kind → List ℕ → Said
said_by Transmitter text = OfA (record { year = value_at text year_of_a; month = value_at text period_of_a })
said_by Employer text =
    OfE (record {
      fein = value_at text fein_of_e;
      once = true;
      follow = is_set text no_wages_of_e;
      amended = value_at text amended_of_e;
      final_return = value_at text final_of_e;
      cease_date = value_at text cease_date_of_e;
      account_head = 0;
      account_tail = 0;
      files = None;
    })
said_by Employee text = OfS (record { id = value_at text identity_of_s; wages = value_at text wages_of_s; second = 0 })
said_by Total text = OfT
said_by Final text = OfF
said_by Unknown text = OfNone

abbrev pub says : List ℕ → Said
says text = said_by (kind_on text) text
