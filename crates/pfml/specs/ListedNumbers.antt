-- Definitions: the numbers of each record's edits in order, a small table copied from the paper, with 64 and 65 of document 02, "right after 44 and before 45"
-- and "after 47 there".
use Rattle.std.specs.Prelude.{ℕ, List, [], ◌∷◌, ◌++◌}
use Rattle.pfml.specs.declared.kind.Kind.{Kind}
use Rattle.pfml.specs.declared.kind.Kind.TheVariants.{Transmitter, Employer, Employee, Total, Final, Unknown}

-- The table, in the paper's numbers: a line for each field, the record's letter left out.
-- A
abbrev pub numbers_of_a : List ℕ
numbers_of_a =
    30 ∷ 38 ∷ 39 ∷ 30 ∷ 44 ∷ 64 ∷ 34 ∷ 40 ∷ 41 ∷ 31 ∷ 32 ∷ 33 ∷ 32 ∷ 33 ∷ 32 ∷ 33 ∷ 35 ∷ 31 ∷ 36 ∷ 37 ∷ 32 ∷ 33 ∷ 30 ∷ 33 ∷ 31 ∷ []

-- E
abbrev pub numbers_of_e : List ℕ
numbers_of_e =
    30 ∷ 38 ∷ 42 ∷ 30 ∷ 44 ∷ 64 ∷ 45 ∷ 63 ∷ 31 ∷ 32 ∷ 33 ∷ 32 ∷ 33 ∷ 32 ∷ 33 ∷ 35 ∷ 31 ∷ 37 ∷ 36 ∷ 31 ∷ 34 ∷ 31 ∷ 30 ∷ 31 ∷ 47 ∷
    40 ∷ 43 ∷ 47 ∷ 47 ∷ 31 ∷ 32 ∷ 33 ∷ 32 ∷ 33 ∷ 30 ∷ 33 ∷ 31 ∷ 47 ∷ 65 ∷ 30 ∷ 50 ∷ 51 ∷ 48 ∷ 49 ∷ []

-- S
abbrev pub numbers_of_s : List ℕ
numbers_of_s =
    30 ∷ 52 ∷ 53 ∷ 62 ∷ 32 ∷ 33 ∷ 54 ∷ 32 ∷ 33 ∷ 54 ∷ 31 ∷ 40 ∷ 43 ∷ 30 ∷ 38 ∷ 42 ∷ 31 ∷ 30 ∷ 31 ∷ 34 ∷ 30 ∷ 46 ∷ 31 ∷ []

-- T
abbrev pub numbers_of_t : List ℕ
numbers_of_t =
    30 ∷ 55 ∷ 56 ∷ 34 ∷ 30 ∷ 46 ∷ 31 ∷ 30 ∷ 57 ∷ 31 ∷ []

-- F
abbrev pub numbers_of_f : List ℕ
numbers_of_f =
    30 ∷ 58 ∷ 30 ∷ 59 ∷ 34 ∷ 31 ∷ 30 ∷ 60 ∷ 31 ∷ []

abbrev pub numbers_for : Kind → List ℕ
numbers_for Transmitter = numbers_of_a
numbers_for Employer = numbers_of_e
numbers_for Employee = numbers_of_s
numbers_for Total = numbers_of_t
numbers_for Final = numbers_of_f
numbers_for Unknown = []

-- Before the fields, "characters, letter, place", and 61.
abbrev pub numbers_of_head : List ℕ
numbers_of_head =
    3 ∷ 4 ∷ 10 ∷ 11 ∷ 12 ∷ 13 ∷ 14 ∷ 15 ∷ 16 ∷ 17 ∷ 18 ∷ 19 ∷ 20 ∷ 61 ∷ []

-- The whole text: "characters, letter, place, then fields by first column"; and the line, with "length, end" before it.
abbrev pub numbers_of_text : Kind → List ℕ
numbers_of_text kind = numbers_of_head ++ numbers_for kind

abbrev pub numbers_of_line : Kind → List ℕ
numbers_of_line kind = 1 ∷ 2 ∷ numbers_of_text kind
