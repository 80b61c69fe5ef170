-- Definitions: by which rule each field is held against its context: one rule for each row of the list of fields, in its order.
use Rattle.std.specs.Prelude.{ℕ, List, ◌∷◌, ◌++◌, replicate}
use Rattle.edits.specs.declared.Rule.{Rule}
use Rattle.edits.specs.declared.FurtherRule.TheVariants.{YearHeld, QuarterOfE, ListRoom, AccountOfE, QuarterEnd, SecondOfS}
use Rattle.edits.specs.declared.Rule.TheVariants.{Nothing, YearOfA, PeriodOfA, CountOfS, WagesOfS, FileCountOfS, FileCountOfE, FileWagesOfS, More}
use Rattle.wham_fields.specs.declared.Edition.{Edition}
use Rattle.wham_fields.specs.declared.Edition.TheVariants.{Of2024}

-- So many fields in a row that nothing is asked of.
abbrev quiet : ℕ → List Rule
quiet n = replicate n Nothing

-- A: the year is not above that of the last closed quarter.
unfoldable pub rules_of_a : List Rule
rules_of_a = quiet 1 ++ (More YearHeld ∷ quiet 14)

-- E: the year is A's, there is room for the employer, the first tells the file's quarter and the others have the same.
unfoldable pub rules_of_e : Edition → List Rule
rules_of_e Of2024 = quiet 1 ++ (YearOfA ∷ More ListRoom ∷ quiet 12) ++ (More QuarterOfE ∷ quiet 8)

-- S: month and year are the file's, the account is the open E's.
unfoldable pub rules_of_s : List Rule
rules_of_s = quiet 6 ++ (PeriodOfA ∷ YearOfA ∷ quiet 5) ++ (More AccountOfE ∷ quiet 1)

-- R: the date is the last day of the file's quarter.
unfoldable pub rules_of_r : List Rule
rules_of_r = quiet 1 ++ (More QuarterEnd ∷ quiet 3)

-- T: the count and both totals are those of the S records under the open E.
unfoldable pub rules_of_t : Edition → List Rule
rules_of_t Of2024 = quiet 1 ++ (CountOfS ∷ quiet 5) ++ (More SecondOfS ∷ quiet 1) ++ (WagesOfS ∷ quiet 1)

-- F: counts and total are those of the file.
unfoldable pub rules_of_f : List Rule
rules_of_f = quiet 1 ++ (FileCountOfS ∷ FileCountOfE ∷ quiet 2) ++ (FileWagesOfS ∷ quiet 1)

unfoldable pub rules : Edition → List Rule
rules edition = rules_of_a ++ rules_of_e edition ++ rules_of_s ++ rules_of_r ++ rules_of_t edition ++ rules_of_f
