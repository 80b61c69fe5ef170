-- Definitions: that a record is built, what is asked of each of its fields, and that each reads back as the value given.
use Rattle.std.specs.Prelude.{ℕ, true, List, [], ◌∷◌, ◌≡◌}
use Rattle.laws.specs.Finding.{fine}
use Rattle.laws.specs.Spelling.{bytes}
use Rattle.chars.specs.Columns.{width_of, every_column}
use Rattle.chars.specs.declared.columns.Allowed.TheVariants.{Permitted}
use Rattle.edits.specs.Edit.{AllFine}
use Rattle.edits.specs.Own.{own}
use Rattle.edits.specs.declared.Landmarks.{Landmarks}
use Rattle.step.specs.Moves.{all_well}
use Rattle.build.specs.Building.{fits_in, building}
use Rattle.build.specs.Values.{Filled, form_of, read_by, as_read}

-- The record of a letter is built from values and texts: the call is answered by "accepted".
abbrev pub Built : ℕ → List ℕ → List ℕ → List ℕ → Type 0
Built letter values texts out = (building letter values texts out).says ≡ all_well

-- Of every field.
abbrev pub Each : (Filled → Type 0) → List Filled → Type 0
Each P [] = Unit {0}
Each P (field ∷ fields) = P field × Each P fields

-- The value fits its columns.
abbrev pub Fits : Filled → Type 0
Fits field = fits_in (width_of field.first field.last) field.value ≡ true

-- "Reading a built record gives the values back, with capitals for small letters and without trailing blanks."
abbrev pub ReadsBack : List ℕ → Filled → Type 0
ReadsBack line field = read_by (form_of field.class) line field.first field.last ≡ as_read field.value

-- What is asked of a field: its value fits, its characters are permitted, and its own rules refuse nothing in the padded record.
pub record Passes (landmarks : Landmarks) (line : List ℕ) (field : Filled) : Type 0 where
  pub fits : Fits field
  pub permitted : every_column Permitted line field.first field.last ≡ fine
  pub own_fine : AllFine (own landmarks (bytes "PFML") field.class line field.first field.last)
