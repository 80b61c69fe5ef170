-- Definitions: what a record that breaks no edit says to the walk.
use Rattle.std.specs.Prelude.{ℕ, ◌+◌, false, List, Some, eqb}
use Rattle.number.specs.Letters.{letters_in}
use Rattle.edits.specs.FieldRow.{first_in, last_in, value_at}
use Rattle.wham_fields.specs.Fields.{year_of_a, year_of_e, fein_of_e, period_of_e, follow_of_e, account_of_e, original_of_s, correct_of_s}
use Rattle.shape.specs.declared.Note.TheVariants as notes
use Rattle.shape.specs.declared.Said.{Said}
use Rattle.shape.specs.declared.Said.TheVariants.{OfA, OfE, OfS, OfT, OfF, OfNote, OfNone}
use Rattle.wham.specs.Kinds.{kind_on}
use Rattle.wham.specs.declared.kind.Kind.{Kind}
use Rattle.wham.specs.declared.kind.Kind.TheVariants.{Transmitter, Employer, Employee, Deposit, Total, Final, Unknown}

-- A its year ("A has a year and no period"); E its FEIN, whether 190 is 1, its account in two parts and its quarter; S the correct tax withheld, and as the
-- second amount the original one; R that it is a deposit. A FEIN may stand on several E records, no identity number is compared, and no entry has a kind of
-- return.
abbrev pub said_by : Kind → List ℕ → Said
said_by Transmitter text = OfA (record { year = value_at text year_of_a; month = 0 })
said_by Employer text =
    OfE (record {
      fein = value_at text fein_of_e;
      once = false;
      follow = eqb (value_at text follow_of_e) 1;
      amended = 0;
      final_return = 0;
      cease_date = 0;
      account_head = letters_in text (first_in account_of_e) (first_in account_of_e + 5);
      account_tail = letters_in text (first_in account_of_e + 6) (last_in account_of_e);
      files = Some (record { year = value_at text year_of_e; month = value_at text period_of_e });
    })
said_by Employee text = OfS (record { id = 0; wages = value_at text correct_of_s; second = value_at text original_of_s })
said_by Deposit text = OfNote notes.Deposit
said_by Total text = OfT
said_by Final text = OfF
said_by Unknown text = OfNone

abbrev pub says : List ℕ → Said
says text = said_by (kind_on text) text
