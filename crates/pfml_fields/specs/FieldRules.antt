-- Definitions: by which rule each field is held against its context: one rule for each row of the list of fields, in its order.
use Rattle.std.specs.Prelude.{ℕ, List, [], ◌∷◌, ◌++◌, replicate}
use Rattle.edits.specs.declared.Rule.{Rule}
use Rattle.edits.specs.declared.Rule.TheVariants.{Nothing, YearInTime, QuarterInTime, YearOfA, PeriodOfA, FeinNew, FeinOfE, DateInQuarter, IdentityNew, CountOfS, WagesOfS, FileCountOfS, FileCountOfE, FileWagesOfS, FinalIfCurrent}

-- So many fields in a row that nothing is asked of.
abbrev quiet : ℕ → List Rule
quiet n = replicate n Nothing

-- A: year and quarter are not after the current quarter's.
unfoldable pub rules_of_a : List Rule
rules_of_a = quiet 1 ++ (YearInTime ∷ quiet 2) ++ (QuarterInTime ∷ quiet 12)

-- E: the year is A's, the FEIN is new, the period is A's, the return is a final one if that is the current quarter, the cease date lies in A's quarter.
unfoldable pub rules_of_e : List Rule
rules_of_e =
    quiet 1 ++ (YearOfA ∷ FeinNew ∷ quiet 14) ++ (PeriodOfA ∷ quiet 8) ++
    (FinalIfCurrent ∷ DateInQuarter ∷ [])

-- S: the identity number is new under its E, period and year are A's, the FEIN is the open E's.
unfoldable pub rules_of_s : List Rule
rules_of_s =
    quiet 1 ++ (IdentityNew ∷ quiet 3) ++ (PeriodOfA ∷ YearOfA ∷ quiet 4) ++ (FeinOfE ∷ quiet 1)

-- T: count, FEIN and wages are those of the open E.
unfoldable pub rules_of_t : List Rule
rules_of_t = quiet 1 ++ (CountOfS ∷ quiet 1) ++ (FeinOfE ∷ quiet 1) ++ (WagesOfS ∷ quiet 1)

-- F: counts and wages are those of the file.
unfoldable pub rules_of_f : List Rule
rules_of_f = quiet 1 ++ (FileCountOfS ∷ FileCountOfE ∷ quiet 2) ++ (FileWagesOfS ∷ quiet 1)

unfoldable pub rules : List Rule
rules = rules_of_a ++ rules_of_e ++ rules_of_s ++ rules_of_t ++ rules_of_f
