use Rattle.std.proofs.Common.{arith}
use Rattle.pfml_fields.specs.Rows.{part_of_A, part_of_E, part_of_S, part_of_T, part_of_F}
use Rattle.pfml_fields.specs.FieldRuleLaws.{rules_of_A, rules_of_E, rules_of_S, rules_of_T, rules_of_F}
use Rattle.pfml.proofs.part_of.Goals as goal

pub returns-in-Transmitter : goal.returns-in-Transmitter
returns-in-Transmitter c = rw c.in-Transmitter.is (omega arith, omega arith, (part_of_A, rules_of_A))

pub returns-in-Employer : goal.returns-in-Employer
returns-in-Employer c = rw c.in-Employer.is (omega arith, omega arith, (part_of_E, rules_of_E))

pub returns-in-Employee : goal.returns-in-Employee
returns-in-Employee c = rw c.in-Employee.is (omega arith, omega arith, (part_of_S, rules_of_S))

pub returns-in-Total : goal.returns-in-Total
returns-in-Total c = rw c.in-Total.is (omega arith, omega arith, (part_of_T, rules_of_T))

pub returns-in-Final : goal.returns-in-Final
returns-in-Final c = rw c.in-Final.is (omega arith, omega arith, (part_of_F, rules_of_F))
