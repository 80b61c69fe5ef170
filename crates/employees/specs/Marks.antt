-- Follows the code; need not be believed. Marks of identity numbers, eight to a byte: a number whose mark is not set is not among those marked, so that
-- most searches are saved.
use Rattle.std.specs.Prelude.{ℕ, ◌/◌, ◌%◌, ◌^◌, Bool, true, ◌||◌, List, [], ◌∷◌, ◌≡◌, eqb, leb, length, get_or, set}
use Rattle.std.specs.Int.Bits.{bit_or}
use Rattle.tables.specs.Tables.{is_among}

-- The mark of a number: one of 262,144.
abbrev pub mark_of : ℕ → ℕ
mark_of id = id % 262144

-- A bit of a byte, and a byte with a bit set.
unfoldable pub has_bit : ℕ → ℕ → Bool
has_bit byte bit = eqb (byte / 2 ^ bit % 2) 1

unfoldable pub with_bit : ℕ → ℕ → ℕ
with_bit byte bit = bit_or byte (2 ^ bit)

-- Past the marks' end every number counts as marked.
abbrev pub is_set : List ℕ → ℕ → Bool
is_set marks mark = leb (length marks) (mark / 8) || has_bit (get_or marks (mark / 8) 0) (mark % 8)

abbrev pub is_marked : List ℕ → ℕ → Bool
is_marked marks id = is_set marks (mark_of id)

-- The marks with one more set; past their end nothing is written.
abbrev pub with_set : List ℕ → ℕ → List ℕ
with_set marks mark = set marks (mark / 8) (with_bit (get_or marks (mark / 8) 0) (mark % 8))

abbrev pub with_mark : ℕ → List ℕ → List ℕ
with_mark id marks = with_set marks (mark_of id)

-- With those of these numbers.
unfoldable pub with_marks : List ℕ → List ℕ → List ℕ
with_marks [] marks = marks
with_marks (id ∷ ids) marks = with_marks ids (with_mark id marks)

-- Every one of these numbers is marked.
abbrev pub Covers : List ℕ → List ℕ → Type 0
Covers marks ids = (id : ℕ) → is_among id ids ≡ true → is_marked marks id ≡ true
