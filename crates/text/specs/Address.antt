-- Definitions: state, ZIP and extension.
use Rattle.std.specs.Prelude.{ℕ, ◌+◌, ◌-◌, true, List, get_or, if◌then◌else◌, Option, Some, None}
use Rattle.laws.specs.Finding.{Finding, fine, broken}
use Rattle.laws.specs.Spelling.{bytes}
use Rattle.codes.specs.declared.Region.{Region}
use Rattle.codes.specs.declared.Region.TheVariants.{State, Province}
use Rattle.codes.specs.Codes.{region_of}
use Rattle.chars.specs.Columns.{unless}
use Rattle.text.specs.Text.{has_pattern}

-- What the two letters of a state's field stand for.
abbrev pub region_in : List ℕ → ℕ → Option Region
region_in line first = region_of (get_or line (first - 1) 0) (get_or line (first - 1 + 1) 0)

-- "State: one of the 64 codes of Appendix A, 50 states, DC and 13 provinces (35)."
abbrev pub state_test : Option Region → ℕ → Finding
state_test (Some region) first = fine
state_test None first = broken first 35

-- "ZIP: with a state, five digits; with a province, letter digit letter blank digit (36)."
abbrev pub zip_test : Option Region → List ℕ → ℕ → Finding
zip_test (Some State) line first = unless (has_pattern line first (bytes "ddddd")) first 36
zip_test (Some Province) line first = unless (has_pattern line first (bytes "ldl d")) first 36
zip_test None line first = fine

-- "Extension: with a state, five blanks or hyphen and four digits; with a province, letter, digit, three blanks (37)."
abbrev pub extension_test : Option Region → List ℕ → ℕ → Finding
extension_test (Some State) line first =
    unless (if has_pattern line first (bytes "     ") then true else has_pattern line first (bytes "-dddd")) first 37
extension_test (Some Province) line first = unless (has_pattern line first (bytes "ld   ")) first 37
extension_test None line first = fine
