-- Definitions: the codes of Appendix A, and what each stands for.
use Rattle.std.specs.Prelude.{ℕ, Bool, false, ◌&&◌, ◌||◌, true, not, List, [], ◌∷◌, eqb, get_or, if◌then◌else◌, Option, Some, None}
use Rattle.laws.specs.Spelling.{bytes}
use Rattle.codes.specs.declared.Region.{Region}
use Rattle.codes.specs.declared.Region.TheVariants.{State, Province}

-- Codes of two letters, with a blank between each two.
unfoldable pub codes_in : List ℕ → List (List ℕ)
codes_in (a ∷ b ∷ blank ∷ rest) = (a ∷ b ∷ []) ∷ codes_in rest
codes_in (a ∷ b ∷ []) = (a ∷ b ∷ []) ∷ []
codes_in (a ∷ []) = []
codes_in [] = []

-- "50 states, DC": 51 codes in the order of Appendix A
unfoldable pub states : List (List ℕ)
states = codes_in (bytes "AL AK AZ AR CA CO CT DE DC FL GA HI ID IL IN IA KS KY LA ME MD MA MI MN MS MO MT NE NV NH NJ NM NY NC ND OH OK OR PA RI SC SD TN TX UT VT VA WA WV WI WY")

-- "and 13 provinces"
unfoldable pub provinces : List (List ℕ)
provinces = codes_in (bytes "AB BC MB NB NL NS NT NU ON PE QC SK YT")

-- The letters ab are this code.
unfoldable pub is_code : ℕ → ℕ → List ℕ → Bool
is_code a b code = eqb (get_or code 0 0) a && eqb (get_or code 1 0) b

-- The letters ab are one of these codes.
unfoldable pub is_among : ℕ → ℕ → List (List ℕ) → Bool
is_among a b [] = false
is_among a b (code ∷ codes) = is_code a b code || is_among a b codes

-- "one of the 64 codes of Appendix A, 50 states, DC and 13 provinces (35)"
unfoldable pub region_of : ℕ → ℕ → Option Region
region_of a b = if is_among a b states then Some State else if is_among a b provinces then Some Province else None

-- No code of the list is among those after it.
unfoldable pub all_differ : List (List ℕ) → Bool
all_differ [] = true
all_differ (code ∷ codes) = not (is_among (get_or code 0 0) (get_or code 1 0) codes) && all_differ codes
