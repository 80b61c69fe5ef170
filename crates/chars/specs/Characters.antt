-- Definitions: characters, and how they are read.
use Rattle.std.specs.Prelude.{ℕ, ◌-◌, Bool, ◌&&◌, ◌||◌, List, map, eqb, leb, if◌then◌else◌}

-- "Characters are hex 20 to 7E"
unfoldable pub is_permitted : ℕ → Bool
is_permitted c = leb 0x20 c && leb c 0x7e

-- "a to z read as A to Z everywhere, the record letter included"
unfoldable pub capital_of : ℕ → ℕ
capital_of c = if leb 97 c && leb c 122 then c - 32 else c

-- The line as it is read. Every test below is over a line read in capitals.
unfoldable pub capitals : List ℕ → List ℕ
capitals line = map capital_of line

unfoldable pub is_blank : ℕ → Bool
is_blank c = eqb c 0x20

unfoldable pub is_digit : ℕ → Bool
is_digit c = leb 48 c && leb c 57

unfoldable pub is_letter : ℕ → Bool
is_letter c = leb 65 c && leb c 90

-- "only letters, blank, hyphen, apostrophe"; "ASCII decides (apostrophe 27, hyphen 2D, hex)"
unfoldable pub is_of_name : ℕ → Bool
is_of_name c = is_letter c || (is_blank c || (eqb c 0x2d || eqb c 0x27))
