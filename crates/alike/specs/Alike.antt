-- Definitions: when two files of a format are alike but for the employees (demand 3).
use Rattle.std.specs.Prelude.{ℕ, ◌+◌, Bool, List, [], ◌∷◌, ◌++◌, map, ◌≡◌, eqb, if◌then◌else◌}
use Rattle.lines.specs.Lines.{Line, lines_of, joined}
use Rattle.shape.specs.Hidden.{is_employee, is_employer, is_note, employee_on, blot, MeetsOwn}
use Rattle.shape.specs.Shape.{Shape}
use Rattle.tables.specs.Tables.{is_among}

module _ (s : Shape) where
  -- The bytes of a file, with the hidden columns blotted out on its S records.
  abbrev pub blotted : List ℕ → List ℕ
  blotted file = joined (map (blot s) (lines_of file))

  -- The S records among lines.
  unfoldable pub employees : List Line → List Line
  employees [] = []
  employees (line ∷ lines) = if is_employee s line then line ∷ employees lines else employees lines

  -- "The S records under an E are those after it with no other line between"; in a format that has them a note parts none from its E.
  unfoldable pub under : List Line → List Line
  under [] = []
  under (line ∷ lines) = if is_employee s line then line ∷ under lines else (if is_note s line then under lines else [])

  -- For each E record, the S records under it.
  unfoldable pub employers : List Line → List (List Line)
  employers [] = []
  employers (line ∷ lines) = if is_employer s line then under lines ∷ employers lines else employers lines

  -- "meet their own rules"
  unfoldable pub AllMeet : List Line → Type 0
  AllMeet [] = Unit {0}
  AllMeet (line ∷ lines) = MeetsOwn s line × AllMeet lines

  -- The identity number of an S record, and whether it is 000000000.
  abbrev pub id_of : Line → ℕ
  id_of line = (employee_on s line).id

  abbrev pub is_zero : Line → Bool
  is_zero line = eqb (id_of line) 0

  -- Of each S record, whether its number stands on an earlier one.
  unfoldable pub repeats_after : List ℕ → List Line → List Bool
  repeats_after earlier [] = []
  repeats_after earlier (line ∷ lines) = is_among (id_of line) earlier ∷ repeats_after (earlier ++ (id_of line ∷ [])) lines

  abbrev pub repeats : List Line → List Bool
  repeats lines = repeats_after [] lines

  -- The total of their wages, and of the second amount, in a format that has one.
  unfoldable pub wages_of : List Line → ℕ
  wages_of [] = 0
  wages_of (line ∷ lines) = (employee_on s line).wages + wages_of lines

  unfoldable pub seconds_of : List Line → ℕ
  seconds_of [] = 0
  seconds_of (line ∷ lines) = (employee_on s line).second + seconds_of lines

  -- "Take two files of equal bytes except in the identity number, names and wages of S records (lines of 290 characters). Let all those fields hold only
  -- permitted characters and meet their own rules in both files, identity numbers be zero in the same places and repeat under an employer in the same
  -- places, and the wages under each employer have the same total": every amount that a format adds up, as (vi) of document 02 has it for S.
  pub record AlikeLines (one other : List Line) : Type 0 where
    pub equal_bytes : map (blot s) one ≡ map (blot s) other
    pub own_one : AllMeet (employees one)
    pub own_other : AllMeet (employees other)
    pub zero_alike : map is_zero (employees one) ≡ map is_zero (employees other)
    pub repeat_alike : map repeats (employers one) ≡ map repeats (employers other)
    pub wages_alike : map wages_of (employers one) ≡ map wages_of (employers other)
    pub seconds_alike : map seconds_of (employers one) ≡ map seconds_of (employers other)

  -- The same of two files. Told by places of the first file alone, as the order has it, it is `AsOrdered` (Ordered.antt), which holds of the same files.
  pub record Alike (one other : List ℕ) : Type 0 where
    pub equal_bytes : blotted one ≡ blotted other
    pub own_one : AllMeet (employees (lines_of one))
    pub own_other : AllMeet (employees (lines_of other))
    pub zero_alike : map is_zero (employees (lines_of one)) ≡ map is_zero (employees (lines_of other))
    pub repeat_alike : map repeats (employers (lines_of one)) ≡ map repeats (employers (lines_of other))
    pub wages_alike : map wages_of (employers (lines_of one)) ≡ map wages_of (employers (lines_of other))
    pub seconds_alike : map seconds_of (employers (lines_of one)) ≡ map seconds_of (employers (lines_of other))
