-- Laws: a refusal of a record's edits has one of the numbers listed for the record, so one from 1 to 65.
use Rattle.std.specs.Prelude.{ℕ, true, List, ◌≡◌, refl}
use Rattle.laws.specs.Finding.{broken}
use Rattle.edits.specs.Edit.{first_broken}
use Rattle.edits.specs.Numbering.{OneOf, all_pass}
use Rattle.edits.specs.NumberingLaws.{one_of_listed, one_passes}
use Rattle.edits.specs.declared.Context.{Context}
use Rattle.edits.specs.declared.Seen.{Seen}
use Rattle.pfml.specs.Edits.{text_edits}
use Rattle.pfml.specs.Fitness.{is_left}
use Rattle.pfml.specs.TextLabelled.{text_labelled}
use Rattle.pfml.specs.Listed.{listed_text}
use Rattle.pfml.specs.ListedNumbers.{numbers_of_text}
use Rattle.pfml.specs.declared.kind.Kind.{Kind}
use Rattle.pfml.specs.declared.kind.Kind.TheVariants.{Transmitter, Employer, Employee, Total, Final, Unknown}

-- A text breaks none but the edits of its table.
pub text_listed : (here : Context) (seen : Seen) (text : List ℕ) (kind : Kind) (column number : ℕ) → first_broken (text_edits here seen text kind) ≡ broken column number
    → OneOf number (numbers_of_text kind)
text_listed here seen text kind column number e =
    one_of_listed (text_edits here seen text kind) (numbers_of_text kind) (listed_text here seen text kind) (text_labelled here seen text kind) column number e

-- From 1 to 65.
text_all_left : (kind : Kind) → all_pass is_left (numbers_of_text kind) ≡ true
text_all_left Transmitter = refl
text_all_left Employer = refl
text_all_left Employee = refl
text_all_left Total = refl
text_all_left Final = refl
text_all_left Unknown = refl

pub text_left : (here : Context) (seen : Seen) (text : List ℕ) (kind : Kind) (column number : ℕ) → first_broken (text_edits here seen text kind) ≡ broken column number
    → is_left number ≡ true
text_left here seen text kind column number e = one_passes is_left number (numbers_of_text kind) (text_listed here seen text kind column number e) (text_all_left kind)
