-- Laws: what PFML owes the machine, `Lawful` of its shape.
use Rattle.std.specs.Prelude.{ℕ, ◌≤◌, Bool, true, false, ◌&&◌, ◌||◌, List, ◌≡◌, refl, leb, eqb, take, get_or}
use Rattle.std.proofs.Common.{inl, sym, ap, ◌∙◌, arith, get_or-take, le-ltb}
use Rattle.std.proofs.lemmas.Bool.{lt-leb}
use Rattle.laws.specs.ChoiceLaws.{within}
use Rattle.number.specs.NumberLaws.{value_in_front}
use Rattle.edits.specs.declared.Open.{Open}
use Rattle.edits.specs.declared.Totals.{Totals}
use Rattle.shape.specs.Fits.{SecondFits}
use Rattle.shape.specs.Hidden.{of_employee, employee_in}
use Rattle.shape.specs.Lawful.{Lawful}
use Rattle.shape.specs.declared.Note.{Note}
use Rattle.shape.specs.declared.Said.TheVariants.{OfNote}
use Rattle.pfml.specs.EmployeesAlike.{twins_alike}
use Rattle.pfml.specs.Employees.{is_personal}
use Rattle.pfml.specs.Fitness.{ids_unfit}
use Rattle.pfml.specs.Format.{pfml_shape}
use Rattle.pfml.specs.Kinds.{kind_of, kind_on}
use Rattle.pfml.specs.TextLabelled.{text_labelled}
use Rattle.pfml.specs.Letters.{employee_letter}
use Rattle.pfml.specs.Numbered.{text_left}
use Rattle.pfml.specs.Passed.{fits_by, bounded_by, quarter_by_lem, ids_by}
use Rattle.pfml.specs.Says.{said_by, says}
use Rattle.pfml.specs.declared.kind.Kind.{Kind}
use Rattle.pfml.specs.declared.kind.Kind.TheVariants.{Transmitter, Employer, Employee, Total, Final, Unknown}

-- ---- what is said stands in the first 290 columns
kind_in_front : (text : List ℕ) → kind_on (take 290 text) ≡ kind_on text
kind_in_front text = ap kind_of (get_or-take 290 text 0 0 (omega arith))

said_in_front : (kind : Kind) (text : List ℕ) → said_by kind (take 290 text) ≡ said_by kind text
said_in_front Transmitter text = rw (value_in_front 290 text 2 5 (omega arith), value_in_front 290 text 19 20 (omega arith))
said_in_front Employer text =
    rw (
      value_in_front 290 text 6 14 (omega arith),
      value_in_front 290 text 190 190 (omega arith),
      value_in_front 290 text 187 187 (omega arith),
      value_in_front 290 text 282 282 (omega arith),
      value_in_front 290 text 283 290 (omega arith),
    )
said_in_front Employee text = rw (value_in_front 290 text 2 10 (omega arith), value_in_front 290 text 64 77 (omega arith))
said_in_front Total text = refl
said_in_front Final text = refl
said_in_front Unknown text = refl

-- ---- no S record says a second amount
second_of : (kind : Kind) (text : List ℕ) → (employee_in (said_by kind text)).second ≡ 0
second_of Transmitter text = refl
second_of Employer text = refl
second_of Employee text = refl
second_of Total text = refl
second_of Final text = refl
second_of Unknown text = refl

pub no_second : (text : List ℕ) → (employee_in (says text)).second ≡ 0
no_second text = second_of (kind_on text) text

adds_none : (kind : Kind) (text : List ℕ) (all : Totals) (this : Open) → SecondFits all this (said_by kind text)
adds_none Transmitter text all this = tt
adds_none Employer text all this = tt
adds_none Employee text all this = inl refl
adds_none Total text all this = tt
adds_none Final text all this = tt
adds_none Unknown text all this = tt

-- ---- no record is a note
never_note : (kind : Kind) (text : List ℕ) (note : Note) → said_by kind text ≡ OfNote note → ⊥
never_note Transmitter text note e = let z : ◌≡◌ {A = ℕ} 0 1 = cc in omega arith
never_note Employer text note e = let z : ◌≡◌ {A = ℕ} 0 1 = cc in omega arith
never_note Employee text note e = let z : ◌≡◌ {A = ℕ} 0 1 = cc in omega arith
never_note Total text note e = let z : ◌≡◌ {A = ℕ} 0 1 = cc in omega arith
never_note Final text note e = let z : ◌≡◌ {A = ℕ} 0 1 = cc in omega arith
never_note Unknown text note e = let z : ◌≡◌ {A = ℕ} 0 1 = cc in omega arith

-- ---- a call that is lent no table
unlent : (ids used : ℕ) (is_open : Bool) → ids_unfit used used is_open ≡ false
unlent ids used true = le-ltb used used (omega arith)
unlent ids used false = refl

-- ---- the letter is none of the employee's, and tells the record
front_shown : (column : ℕ) → column ≤ 1 → is_personal column ≡ false
front_shown column h = rw (lt-leb 2 column (omega arith), lt-leb 64 column (omega arith))

front_tells : (u v : List ℕ) → take 1 u ≡ take 1 v → of_employee (says u) ≡ of_employee (says v)
front_tells u v same =
    let letter : get_or u 0 0 ≡ get_or v 0 0 = sym (get_or-take 1 u 0 0 (omega arith)) ∙ ap (λ (l : List ℕ). get_or l 0 0) same ∙ get_or-take 1 v 0 0 (omega arith) in
    employee_letter u ∙ ap (λ (c : ℕ). eqb c 83) letter ∙ sym (employee_letter v)

personal_high : (column : ℕ) → is_personal column ≡ true → column ≤ 290
personal_high column = by (leb 2 column && leb column 42) refl where
  by : (names : Bool) → leb 2 column && leb column 42 ≡ names → names || (leb 64 column && leb column 77) ≡ true → column ≤ 290
  by true p e = let w = within 2 column 42 p in omega arith
  by false p e = let w = within 64 column 77 e in omega arith

pub pfml_lawful : Lawful pfml_shape
pfml_lawful =
    record {
      some = omega arith;
      short = omega arith;
      fits = λ here seen text all. fits_by here seen (kind_on text) text all;
      labelled = λ here seen text. text_labelled here seen text (kind_on text);
      numbered = λ here seen text column number e. text_left here seen text (kind_on text) column number e;
      bounded = λ text. bounded_by (kind_on text) text;
      in_front = λ text. rw (kind_in_front text) (said_in_front (kind_on text) text);
      cut_left = (refl, refl);
      ends_left = (refl, refl, refl, refl);
      others_not_left = (refl, refl, refl, refl, refl);
      lines_allowed = omega arith;
      lines_small = omega arith;
      cents_small = omega arith;
      quarter_kept = λ here seen text all e. quarter_by_lem here seen (kind_on text) text all e;
      more_kept = λ here seen text ids used full all e. ids_by here seen (kind_on text) text ids used full all e;
      quarter_none = λ held. refl;
      more_none = λ ids. refl;
      more_unlent = λ ids used is_open all this e. unlent ids used is_open;
      second_fits = λ ids used all this text many under e. adds_none (kind_on text) text all this;
      hidden_alike = twins_alike;
      note_alike = λ here here' seen text note e same. absurd (never_note (kind_on text) text note e);
      hides_within = λ text column e. personal_high column e;
      front_shown = λ text column h. front_shown column h;
      front_tells = λ u v same. (front_tells u v same, λ column. refl);
    }
