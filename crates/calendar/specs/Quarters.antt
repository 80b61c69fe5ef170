-- Definitions: which quarters the paper allows, which of two is the later, and how one stands to the last closed.
use Rattle.std.specs.Prelude.{ℕ, ◌+◌, Bool, true, false, ◌&&◌, ◌||◌, eqb, leb, ltb, if◌then◌else◌}
use Rattle.calendar.specs.declared.Quarter.{Quarter}
use Rattle.calendar.specs.declared.Timing.{Timing}
use Rattle.calendar.specs.declared.Timing.TheVariants.{Closed, Current, Later}

abbrev pub first_year : ℕ
first_year = 2025

abbrev pub last_year : ℕ
last_year = 9999

-- "Year: below 2025 38"
unfoldable pub is_filing_year : ℕ → Bool
is_filing_year year = leb first_year year

-- "Period: not 03, 06, 09, 12 40"
unfoldable pub is_quarter_month : ℕ → Bool
is_quarter_month month = eqb month 3 || eqb month 6 || eqb month 9 || eqb month 12

-- "last closed quarter (year 2025 to 9999, month 3, 6, 9 or 12)"
unfoldable pub is_allowed : Quarter → Bool
is_allowed q = is_filing_year q.year && leb q.year last_year && is_quarter_month q.month

-- "after the last closed quarter": of a later year, or of the same year and a later month.
unfoldable pub is_after : Quarter → Quarter → Bool
is_after a b = ltb b.year a.year || eqb a.year b.year && ltb b.month a.month

-- Of the same year and the same month.
unfoldable pub is_same : Quarter → Quarter → Bool
is_same a b = eqb a.year b.year && eqb a.month b.month

-- (v) of document 02: "The current quarter is the one right after the last closed; after 12 of 9999 there is none." The last closed one then stands
-- in its place, and no quarter after that is the current one.
unfoldable pub current_quarter : Quarter → Quarter
current_quarter held =
    if ltb held.month 12
    then record { year = held.year; month = held.month + 3 }
    else (if ltb held.year last_year then record { year = held.year + 1; month = 3 } else held)

-- "The period test now answers closed, current or later"
unfoldable pub timing_of : Quarter → Quarter → Timing  -- the last closed quarter, then the one asked for
timing_of held q = if is_after q held then (if is_same q (current_quarter held) then Current else Later) else Closed

-- "41 is for quarters after the current": closed ones and the current one may be reported.
abbrev pub may_report : Timing → Bool
may_report Closed = true
may_report Current = true
may_report Later = false

-- "In a current-quarter file every E must be a final return."
abbrev pub must_be_final : Timing → Bool
must_be_final Closed = false
must_be_final Current = true
must_be_final Later = false

-- "A's quarter": one that A's edits pass under the last closed quarter: from 2025 on, a quarter's month, not after the current one.
unfoldable pub is_reportable : Quarter → Quarter → Bool  -- held, then the quarter
is_reportable held q = is_filing_year q.year && is_quarter_month q.month && may_report (timing_of held q)
