-- Definitions: a field by its row in a list of fields, "class beside first and last column".
use Rattle.std.specs.Prelude.{ℕ, ◌-◌, List, replicate}
use Rattle.field.specs.declared.class.Class.{Class}
use Rattle.field.specs.declared.class.Class.TheVariants.{Ignored}
use Rattle.field.specs.declared.class.Field.{Field}
use Rattle.number.specs.Numbers.{value_in, put_number}
use Rattle.text.specs.Put.{put_text}

-- A row has the class and the two columns.
abbrev pub row : Class → ℕ → ℕ → Field
row class first last = record { class = class; first = first; last = last }

abbrev pub class_in : Field → Class
class_in field = field.class

abbrev pub first_in : Field → ℕ
first_in field = field.first

abbrev pub last_in : Field → ℕ
last_in field = field.last

-- How many columns a field has.
abbrev pub width_in : Field → ℕ
width_in field = last_in field - (first_in field - 1)

-- Past a list of rows there is no field.
abbrev pub no_row : Field
no_row = row Ignored 0 0

-- The number in a field, 0 where it reads as none.
abbrev pub value_at : List ℕ → Field → ℕ
value_at line field = value_in line (first_in field) (last_in field)

-- The line with a number put into a field.
abbrev pub put_at : List ℕ → Field → ℕ → List ℕ
put_at line field v = put_number line (first_in field) (last_in field) v

-- The line with a text put into a field, from its first column on.
abbrev pub put_text_at : List ℕ → Field → List ℕ → List ℕ
put_text_at line field t = put_text line (first_in field) t

-- The line with one character in every column of a field.
abbrev pub fill_at : List ℕ → Field → ℕ → List ℕ
fill_at line field c = put_text_at line field (replicate (width_in field) c)
