-- Definitions: the records of employees, and the columns that are hidden on them, whatever else a line breaks and wherever it stands (demand 3).
use Rattle.std.specs.Prelude.{ℕ, ◌+◌, Bool, true, false, ◌&&◌, List, [], ◌∷◌, ◌≡◌, eqb, length, get_or, if◌then◌else◌}
use Rattle.laws.specs.Finding.{fine}
use Rattle.lines.specs.Lines.{Line}
use Rattle.chars.specs.Characters.{is_permitted, capitals}
use Rattle.edits.specs.Edit.{first_broken}
use Rattle.shape.specs.Shape.{Shape, said_on}
use Rattle.shape.specs.declared.EmployeeOn.{EmployeeOn}
use Rattle.shape.specs.declared.Said.{Said}
use Rattle.shape.specs.declared.Said.TheVariants.{OfA, OfE, OfS, OfT, OfF, OfNote, OfNone}

-- Whether a record is of an employee, or of an employer.
abbrev pub of_employee : Said → Bool
of_employee (OfA quarter) = false
of_employee (OfE employer) = false
of_employee (OfS employee) = true
of_employee OfT = false
of_employee OfF = false
of_employee (OfNote note) = false
of_employee OfNone = false

abbrev pub of_employer : Said → Bool
of_employer (OfA quarter) = false
of_employer (OfE employer) = true
of_employer (OfS employee) = false
of_employer OfT = false
of_employer OfF = false
of_employer (OfNote note) = false
of_employer OfNone = false

-- Whether it is a note, which parts no E from the S records under it.
abbrev pub of_note : Said → Bool
of_note (OfA quarter) = false
of_note (OfE employer) = false
of_note (OfS employee) = false
of_note OfT = false
of_note OfF = false
of_note (OfNote note) = true
of_note OfNone = false

-- What a record says of its employee; of none, zeros.
abbrev pub employee_in : Said → EmployeeOn
employee_in (OfA quarter) = record { id = 0; wages = 0; second = 0 }
employee_in (OfE employer) = record { id = 0; wages = 0; second = 0 }
employee_in (OfS employee) = employee
employee_in OfT = record { id = 0; wages = 0; second = 0 }
employee_in OfF = record { id = 0; wages = 0; second = 0 }
employee_in (OfNote note) = record { id = 0; wages = 0; second = 0 }
employee_in OfNone = record { id = 0; wages = 0; second = 0 }

-- A text with these columns blotted out; it begins at a column.
unfoldable pub blot_from : (ℕ → Bool) → ℕ → List ℕ → List ℕ
blot_from hides column [] = []
blot_from hides column (c ∷ text) = (if hides column then 32 else c) ∷ blot_from hides (column + 1) text

module _ (s : Shape) where
  -- "S records (lines of 290 characters)", with or without an end; E records and notes likewise. 290 is the format's length.
  abbrev pub is_employee : Line → Bool
  is_employee line = eqb (length line.text) s.length && of_employee (said_on s line)

  abbrev pub is_employer : Line → Bool
  is_employer line = eqb (length line.text) s.length && of_employer (said_on s line)

  abbrev pub is_note : Line → Bool
  is_note line = eqb (length line.text) s.length && of_note (said_on s line)

  -- What an S record says of the employee.
  abbrev pub employee_on : Line → EmployeeOn
  employee_on line = employee_in (said_on s line)

  -- "the identity number, names and wages": the hidden columns of a line, and whether a column of a line is one of these on an S record
  abbrev pub hides_on : Line → ℕ → Bool
  hides_on line = s.hides (capitals line.text)

  abbrev pub is_of_employee : Line → ℕ → Bool
  is_of_employee line column = is_employee line && hides_on line column

  -- An S record with these columns blotted out; any other line as it is.
  abbrev pub blot_for : Bool → Line → Line
  blot_for is line = if is then record { text = blot_from (hides_on line) 1 line.text; ending = line.ending } else line

  abbrev pub blot : Line → Line
  blot line = blot_for (is_employee line) line

  -- "Let all those fields hold only permitted characters and meet their own rules"
  pub record MeetsOwn (line : Line) : Type 0 where
    pub permitted : (at : ℕ) → hides_on line (at + 1) ≡ true → is_permitted (get_or line.text at 0) ≡ true
    pub own_rules : first_broken (s.hidden_own (capitals line.text)) ≡ fine
