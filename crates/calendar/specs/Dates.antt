-- Definitions: calendar dates, and the quarter that a date lies in.
use Rattle.std.specs.Prelude.{ℕ, ◌+◌, ◌/◌, ◌%◌, Bool, ◌&&◌, [], ◌∷◌, eqb, leb, get_or, if◌then◌else◌}
use Rattle.calendar.specs.declared.Quarter.{Quarter}

-- "by the Gregorian leap rule": every fourth year, of the full centuries every fourth.
unfoldable pub is_leap : ℕ → Bool
is_leap year = if eqb (year % 100) 0 then eqb (year % 400) 0 else eqb (year % 4) 0

-- The days of months 1 to 12 in a common year; any other number is no month and has none.
unfoldable pub month_days : ℕ → ℕ
month_days month = get_or (0 ∷ 31 ∷ 28 ∷ 31 ∷ 30 ∷ 31 ∷ 30 ∷ 31 ∷ 31 ∷ 30 ∷ 31 ∷ 30 ∷ 31 ∷ []) month 0

unfoldable pub days_in : ℕ → ℕ → ℕ
days_in month year = if eqb month 2 && is_leap year then 29 else month_days month

-- "MMDDYYYY", read as one number
abbrev pub month_of : ℕ → ℕ
month_of date = date / 1000000

abbrev pub day_of : ℕ → ℕ
day_of date = date / 10000 % 100

abbrev pub year_of : ℕ → ℕ
year_of date = date % 10000

-- "years 0000 to 9999": each is a year; a number of more than eight digits has no month.
unfoldable pub is_date : ℕ → Bool
is_date date = leb 1 (day_of date) && leb (day_of date) (days_in (month_of date) (year_of date))

-- "outside A's quarter 49": a quarter is named by its last month, and has the two months before it too.
unfoldable pub in_quarter : ℕ → Quarter → Bool
in_quarter date q = eqb (year_of date) q.year && leb (month_of date) q.month && leb q.month (month_of date + 2)

-- The last day of a quarter, which is named by its last month.
unfoldable pub is_last_day : ℕ → Quarter → Bool
is_last_day date q = eqb (year_of date) q.year && eqb (month_of date) q.month && eqb (day_of date) (days_in q.month q.year)
