-- The last day of a month, of numbers and of bytes.
use Rattle.std.specs.Prelude.{Bool, cond, ◌&&◌, List, [], ◌∷◌, ℕ, ◌-◌, ◌%◌, eqb, get_or}
use Rattle.fields.specs.declared.DataMode.{DataMode}
use Rattle.fields.specs.Bytes.{value_of, in_range}

-- Advancing by one second, last days: the twelve of a year, January first; February has 29 in a leap year.
unfoldable pub last_days : Bool → List ℕ
last_days leap = 31 ∷ cond leap 29 28 ∷ 31 ∷ 30 ∷ 31 ∷ 30 ∷ 31 ∷ 31 ∷ 30 ∷ 31 ∷ 30 ∷ 31 ∷ []

-- Advancing by one second, last days: that of the month with a number from 1 to 12.
abbrev pub last_day : Bool → ℕ → ℕ
last_day leap month = get_or (last_days leap) (month - 1) 0

-- Advancing by one second, last days: the years divisible by 4 are leap years, 00 among them.
abbrev pub leap_year : ℕ → Bool
leap_year y = eqb (y % 4) 0

-- Advancing by one second, last days: a year byte is that of a leap year if it is valid and its number is divisible by 4.
abbrev pub is_leap : DataMode → ℕ → Bool
is_leap mode year = in_range mode 0 99 year && leap_year (value_of mode year)

-- Advancing by one second, last days: the last day by the month and year bytes. A byte that is no month has 31 days.
unfoldable pub last_day_of : DataMode → ℕ → ℕ → ℕ
last_day_of mode month year =
    cond (in_range mode 1 12 month) (last_day (is_leap mode year) (value_of mode month)) 31
