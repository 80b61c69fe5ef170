-- Laws: which record stands on a text, told from its letter and from what it says.
use Rattle.std.specs.Prelude.{ℕ, ◌≤◌, Bool, true, false, ◌&&◌, ◌||◌, List, ◌≡◌, refl, eqb, length, get_or, if◌then◌else◌}
use Rattle.std.proofs.Common.{sym, ap, ◌∙◌, arith, eqb-true}
use Rattle.lines.specs.Lines.{Line}
use Rattle.chars.specs.CharacterLaws.{capital_at, capital_is}
use Rattle.shape.specs.Hidden.{of_employee, is_employee}
use Rattle.shape.specs.declared.Said.{Said}
use Rattle.shape.specs.declared.Said.TheVariants.{OfA, OfE, OfS, OfT, OfF, OfNote, OfNone}
use Rattle.pfml.specs.Format.{pfml_shape}
use Rattle.pfml.specs.Kinds.{kind_of, kind_on}
use Rattle.pfml.specs.Says.{said_by, says}
use Rattle.pfml.specs.declared.kind.Kind.{Kind}
use Rattle.pfml.specs.declared.kind.Kind.TheVariants.{Transmitter, Employer, Employee, Total, Final, Unknown}

-- ---- the letters
-- A, E, S, T, F; where the record is unknown there is none, told as 0.
abbrev pub letter_of : Kind → ℕ
letter_of Transmitter = 65
letter_of Employer = 69
letter_of Employee = 83
letter_of Total = 84
letter_of Final = 70
letter_of Unknown = 0

-- The record has a letter of A to Z.
abbrev pub Named : Kind → Type 0
Named kind = (65 ≤ letter_of kind) × (letter_of kind ≤ 90)

-- A letter that names a record is the record's.
pub letter_again : (letter : ℕ) → Named (kind_of letter) → letter ≡ letter_of (kind_of letter)
unfolding kind_of
letter_again letter = at (eqb letter 65) (eqb letter 69) (eqb letter 83) (eqb letter 84) (eqb letter 70) refl refl refl refl refl where
  by : Bool → Bool → Bool → Bool → Bool → Kind
  by a e s t f = if a then Transmitter else if e then Employer else if s then Employee else if t then Total else if f then Final else Unknown

  at : (a e s t f : Bool) → eqb letter 65 ≡ a → eqb letter 69 ≡ e → eqb letter 83 ≡ s → eqb letter 84 ≡ t → eqb letter 70 ≡ f
      → Named (by a e s t f) → letter ≡ letter_of (by a e s t f)
  at true e s t f p _ _ _ _ named = eqb-true letter 65 p
  at false true s t f _ p _ _ _ named = eqb-true letter 69 p
  at false false true t f _ _ p _ _ named = eqb-true letter 83 p
  at false false false true f _ _ _ p _ named = eqb-true letter 84 p
  at false false false false true _ _ _ _ p named = eqb-true letter 70 p
  at false false false false false _ _ _ _ _ named = absurd (omega arith)

pub kind_of_A : kind_of 65 ≡ Transmitter
unfolding kind_of
kind_of_A = refl

pub kind_of_E : kind_of 69 ≡ Employer
unfolding kind_of
kind_of_E = refl

pub kind_of_S : kind_of 83 ≡ Employee
unfolding kind_of
kind_of_S = refl

pub kind_of_T : kind_of 84 ≡ Total
unfolding kind_of
kind_of_T = refl

pub kind_of_F : kind_of 70 ≡ Final
unfolding kind_of
kind_of_F = refl

-- And the letter of a record that is named.
pub letter_of_lem : (letter : ℕ) (kind : Kind) → Named kind → kind_of letter ≡ kind → letter ≡ letter_of kind
letter_of_lem letter kind named e = letter_again letter (rw e named) ∙ ap letter_of e

-- ---- what the record says; none is a note
abbrev pub kind_in : Said → Kind
kind_in (OfA quarter) = Transmitter
kind_in (OfE employer) = Employer
kind_in (OfS employee) = Employee
kind_in OfT = Total
kind_in OfF = Final
kind_in (OfNote note) = Unknown
kind_in OfNone = Unknown

said_kind : (kind : Kind) (text : List ℕ) → kind_in (said_by kind text) ≡ kind
said_kind Transmitter text = refl
said_kind Employer text = refl
said_kind Employee text = refl
said_kind Total text = refl
said_kind Final text = refl
said_kind Unknown text = refl

-- The record on a text is the one that it says it is.
pub kind_said : (text : List ℕ) (said : Said) → says text ≡ said → kind_on text ≡ kind_in said
kind_said text said e = sym (said_kind (kind_on text) text) ∙ ap kind_in e

-- ---- an S record
abbrev is_s : Kind → Bool
is_s Transmitter = false
is_s Employer = false
is_s Employee = true
is_s Total = false
is_s Final = false
is_s Unknown = false

said_of : (kind : Kind) (text : List ℕ) → of_employee (said_by kind text) ≡ is_s kind
said_of Transmitter text = refl
said_of Employer text = refl
said_of Employee text = refl
said_of Total text = refl
said_of Final text = refl
said_of Unknown text = refl

letter_S : (letter : ℕ) → is_s (kind_of letter) ≡ eqb letter 83
unfolding kind_of
letter_S letter = at (eqb letter 65) (eqb letter 69) (eqb letter 83) (eqb letter 84) (eqb letter 70) refl refl refl where
  by : Bool → Bool → Bool → Bool → Bool → Kind
  by a e s t f = if a then Transmitter else if e then Employer else if s then Employee else if t then Total else if f then Final else Unknown

  at : (a e s t f : Bool) → eqb letter 65 ≡ a → eqb letter 69 ≡ e → eqb letter 83 ≡ s → is_s (by a e s t f) ≡ s
  at true e s t f p q r = sym (sym r ∙ ap (λ (n : ℕ). eqb n 83) (eqb-true letter 65 p))
  at false true s t f p q r = sym (sym r ∙ ap (λ (n : ℕ). eqb n 83) (eqb-true letter 69 q))
  at false false true t f p q r = refl
  at false false false true f p q r = refl
  at false false false false true p q r = refl
  at false false false false false p q r = refl

pub employee_letter : (text : List ℕ) → of_employee (says text) ≡ eqb (get_or text 0 0) 83
employee_letter text = said_of (kind_on text) text ∙ letter_S (get_or text 0 0)

-- "S records (lines of 290 characters)": S or s in front, with or without an end.
pub employee_begins : (line : Line)
    → is_employee pfml_shape line ≡ (eqb (length line.text) 290 && (eqb (get_or line.text 0 0) 83 || eqb (get_or line.text 0 0) 115))
employee_begins line = rw (employee_letter, capital_at line.text 0, capital_is (get_or line.text 0 0) 83 (omega arith) (omega arith))
