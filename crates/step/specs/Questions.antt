-- Follows the code; need not be believed. What a line asks of the tables, and what is found there: where it asks nothing, they are not looked at.
use Rattle.std.specs.Prelude.{ℕ, Bool, false, List, Option, Some, None, take}
use Rattle.chars.specs.Characters.{capitals}
use Rattle.edits.specs.declared.format.Format.{Format}
use Rattle.shape.specs.Shape.{fein_asked, id_asked}
use Rattle.record.specs.ShapeOf.{shape_of}
use Rattle.tables.specs.Tables.{is_among, feins_of}
use Rattle.tables.specs.declared.Employer.{Employer}

-- What the record in front of the bytes asks.
abbrev pub fein_asked_by : Format → List ℕ → Option ℕ
fein_asked_by format bytes = fein_asked ((shape_of format).says (capitals bytes))

abbrev pub id_asked_by : Format → List ℕ → Option ℕ
id_asked_by format bytes = id_asked ((shape_of format).says (capitals bytes))

-- What is found, in a table of which so many entries are in use.
abbrev pub fein_found : Option ℕ → ℕ → List Employer → Bool
fein_found None employers list = false
fein_found (Some fein) employers list = is_among fein (feins_of (take employers list))

abbrev pub id_found : Option ℕ → ℕ → List ℕ → Bool
id_found None used ids = false
id_found (Some id) used ids = is_among id (take used ids)
