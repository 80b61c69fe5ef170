-- Definitions: demand 3 in the order's own words: which bytes may differ is told by places of the first file alone.
use Rattle.std.specs.Prelude.{ℕ, List, map, ◌≡◌}
use Rattle.lines.specs.HiddenPlaces.{EqualBut}
use Rattle.lines.specs.Lines.{lines_of}
use Rattle.chars.specs.Characters.{is_permitted}
use Rattle.edits.specs.declared.format.Format.TheVariants.{Pfml}
use Rattle.shape.specs.Hidden.{is_of_employee}
use Rattle.shape.specs.Shape.{Shape}
use Rattle.record.specs.ShapeOf.{shape_of}
use Rattle.alike.specs.Alike.{employees, employers, AllMeet, is_zero, repeats, wages_of, seconds_of}

module _ (s : Shape) where
  -- "Take two files of equal bytes except in the identity number, names and wages of S records (lines of 290 characters). Let all those fields hold only
  -- permitted characters": both are as long (`long`), every place but those in hidden columns of the first file's S records holds the same byte in both
  -- (`elsewhere`), and in those places the second file has permitted characters (`there`). That the first has them is among its own rules.
  abbrev pub EqualButEmployees : List ℕ → List ℕ → Type 0
  EqualButEmployees one other = EqualBut (is_of_employee s) is_permitted one other

  -- The rest is as in `Alike`: "and meet their own rules in both files, identity numbers be zero in the same places and repeat under an employer in the same
  -- places, and the wages under each employer have the same total", every amount that the format adds up.
  pub record AsOrderedIn (one other : List ℕ) : Type 0 where
    pub equal_but : EqualButEmployees one other
    pub own_one : AllMeet s (employees s (lines_of one))
    pub own_other : AllMeet s (employees s (lines_of other))
    pub zero_alike : map (is_zero s) (employees s (lines_of one)) ≡ map (is_zero s) (employees s (lines_of other))
    pub repeat_alike : map (repeats s) (employers s (lines_of one)) ≡ map (repeats s) (employers s (lines_of other))
    pub wages_alike : map (wages_of s) (employers s (lines_of one)) ≡ map (wages_of s) (employers s (lines_of other))
    pub seconds_alike : map (seconds_of s) (employers s (lines_of one)) ≡ map (seconds_of s) (employers s (lines_of other))

-- The order's own words, of the paid leave file: its S records have wages and no second amount. The hidden columns are 2 to 42 and 64 to 77 (`is_personal`), the
-- S records the lines of 290 characters that begin with S or s (`employee_begins`; both crate pfml).
pub record AsOrdered (one other : List ℕ) : Type 0 where
  pub equal_but : EqualButEmployees (shape_of Pfml) one other
  pub own_one : AllMeet (shape_of Pfml) (employees (shape_of Pfml) (lines_of one))
  pub own_other : AllMeet (shape_of Pfml) (employees (shape_of Pfml) (lines_of other))
  pub zero_alike : map (is_zero (shape_of Pfml)) (employees (shape_of Pfml) (lines_of one)) ≡ map (is_zero (shape_of Pfml)) (employees (shape_of Pfml) (lines_of other))
  pub repeat_alike : map (repeats (shape_of Pfml)) (employers (shape_of Pfml) (lines_of one)) ≡ map (repeats (shape_of Pfml)) (employers (shape_of Pfml) (lines_of other))
  pub wages_alike : map (wages_of (shape_of Pfml)) (employers (shape_of Pfml) (lines_of one)) ≡ map (wages_of (shape_of Pfml)) (employers (shape_of Pfml) (lines_of other))
