-- Names to their last character, and the employer's numbers.
use Rattle.plain.specs.Plain.{highest_of_all}
use Rattle.plain.proofs.highest.Goals as goal

pub returns : goal.returns
unfolding highest_of_all
returns c =
    rw (c.put_employer.ensures, c.fill_at-2.ensures, c.fill_at.ensures, c.of_digit-line.ensures)
