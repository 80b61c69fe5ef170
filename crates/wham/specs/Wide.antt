-- Laws: the rows of each record are as wide as their classes ask.
use Rattle.std.specs.Prelude.{[]}
use Rattle.edits.specs.RowTestLaws.{all_wide}
use Rattle.edits.specs.Tests.{AllWide}
use Rattle.wham_fields.specs.Fields.{fields_of_a, fields_of_e, fields_of_s, fields_of_r, fields_of_t, fields_of_f}
use Rattle.wham.specs.Edits.{rows_for}
use Rattle.wham.specs.declared.kind.Kind.{Kind}
use Rattle.wham.specs.declared.kind.Kind.TheVariants.{Transmitter, Employer, Employee, Deposit, Total, Final, Unknown}

pub rows_wide : (kind : Kind) → AllWide (rows_for kind)
unfolding fields_of_a fields_of_e fields_of_s fields_of_r fields_of_t fields_of_f
rows_wide Transmitter = all_wide fields_of_a tt
rows_wide Employer = all_wide fields_of_e tt
rows_wide Employee = all_wide fields_of_s tt
rows_wide Deposit = all_wide fields_of_r tt
rows_wide Total = all_wide fields_of_t tt
rows_wide Final = all_wide fields_of_f tt
rows_wide Unknown = all_wide [] tt
