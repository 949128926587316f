-- The days of a hundred years, counted from 1 January of year 00, which is day 0.
use Rattle.std.specs.Prelude.{Bool, cond, List, [], ◌∷◌, ℕ, zero, suc, ◌+◌, ◌-◌, ◌*◌, ◌/◌, ◌%◌, ltb}
use Rattle.calendar.specs.Days.{last_days, leap_year}

-- Advancing by one second, a valid time: the sum of the first i of some lengths, as of months.
abbrev pub before : List ℕ → ℕ → ℕ
before [] i = 0
before (x ∷ xs) zero = 0
before (x ∷ xs) (suc i) = x + before xs i

-- Advancing by one second, a valid time: of some lengths laid end to end, the number of the one that n falls into.
abbrev pub part : List ℕ → ℕ → ℕ
part [] n = 0
part (x ∷ xs) n = cond (ltb n x) 0 (suc (part xs (n - x)))

-- Advancing by one second, a valid time: of some lengths laid end to end, how far n lies in the one that it falls into.
abbrev pub within : List ℕ → ℕ → ℕ
within [] n = n
within (x ∷ xs) n = cond (ltb n x) n (within xs (n - x))

-- Advancing by one second, a valid time: the days before a year are those of all years before it, month by month.
unfoldable pub days_before_year : ℕ → ℕ
days_before_year zero = 0
days_before_year (suc y) = days_before_year y + before (last_days (leap_year y)) 12

-- Advancing by one second, a valid time: the days before a date of a month from 1 to 12 of a year.
unfoldable pub day_of : ℕ → ℕ → ℕ → ℕ
day_of y month date = days_before_year y + before (last_days (leap_year y)) (month - 1) + (date - 1)

-- Advancing by one second, a valid time: the year of a day. Four years, of which the first is the leap year, have 1,461 days.
unfoldable pub year_of : ℕ → ℕ
year_of day = day / 1461 * 4 + (day % 1461 - 1) / 365

-- Advancing by one second, a valid time: the month, from 1, of a day of a year.
unfoldable pub month_in : Bool → ℕ → ℕ
month_in leap day = part (last_days leap) day + 1

-- Advancing by one second, a valid time: the date, from 1, of a day of a year.
unfoldable pub date_in : Bool → ℕ → ℕ
date_in leap day = within (last_days leap) day + 1

-- Advancing by one second, a valid time: the month of a day.
abbrev pub month_of : ℕ → ℕ
month_of day = month_in (leap_year (year_of day)) (day - days_before_year (year_of day))

-- Advancing by one second, a valid time: the date of a day.
abbrev pub date_of : ℕ → ℕ
date_of day = date_in (leap_year (year_of day)) (day - days_before_year (year_of day))
