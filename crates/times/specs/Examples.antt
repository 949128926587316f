-- The starred plate-room examples: one table, and what each row says.
use Rattle.std.specs.Prelude.{◌≡◌, Bool, true, false, List, [], ◌∷◌, ℕ, eqb}
use Rattle.fields.specs.declared.Mode.{Mode}
use Rattle.fields.specs.declared.DataMode.TheVariants.{Bcd, Binary}
use Rattle.fields.specs.declared.HourMode.TheVariants.{Twelve, TwentyFour}
use Rattle.calendar.specs.declared.Clock.{Clock}
use Rattle.calendar.specs.Daylight.{advance}
use Rattle.calendar.specs.Update.{matches_byte}
use Rattle.times.specs.declared.Time.{Time}
use Rattle.times.specs.Times.{is_valid, time_of}

-- ---- what a row says

-- Plate-room examples: a starred row.
pub data Example : Type 0 where
  -- one update, with DSE as given, takes the first clock to the second
  becomes : Mode → Bool → Clock → Clock → Example
  -- the alarm byte matches every byte
  matches_all : ℕ → Example
  -- the alarm byte matches itself alone
  matches_itself : ℕ → Example
  -- the clock is valid and tells the time
  tells : Mode → Clock → Time → Example

-- Plate-room examples: what a row says.
abbrev pub Says : Example → Type 0
Says (becomes m dse c d) = (advance m dse false c).clock ≡ d
Says (matches_all a) = (b : ℕ) → matches_byte a b ≡ true
Says (matches_itself a) = (b : ℕ) → matches_byte a b ≡ eqb a b
Says (tells m c t) = (is_valid m c ≡ true) × (time_of m c ≡ t)

-- Plate-room examples: every row of a list holds.
abbrev pub AllSay : List Example → Type 0
AllSay [] = Unit {0}
AllSay (e ∷ es) = Says e × AllSay es

-- ---- the rows

-- seconds, minutes, hours, weekday, date, month, year
abbrev clock : ℕ → ℕ → ℕ → ℕ → ℕ → ℕ → ℕ → Clock
clock s n h w d m y = record { seconds = s; minutes = n; hours = h; weekday = w; date = d; month = m; year = y }

abbrev bcd24 : Mode
bcd24 = record { «data» = Bcd; hours = TwentyFour }

abbrev bcd12 : Mode
bcd12 = record { «data» = Bcd; hours = Twelve }

abbrev binary24 : Mode
binary24 = record { «data» = Binary; hours = TwentyFour }

-- Plate-room examples: the rows with a star.
unfoldable pub starred : List Example
starred =
    -- the year's end
    becomes bcd24 false (clock 0x59 0x59 0x23 0x06 0x31 0x12 0x99) (clock 0x00 0x00 0x00 0x07 0x01 0x01 0x00)
    -- the twelve-hour clock: midnight, noon, and twelve to one in both halves of the day
    ∷ becomes bcd12 false (clock 0x59 0x59 0x91 0x02 0x14 0x07 0x26) (clock 0x00 0x00 0x12 0x03 0x15 0x07 0x26)
    ∷ becomes bcd12 false (clock 0x59 0x59 0x11 0x02 0x14 0x07 0x26) (clock 0x00 0x00 0x92 0x02 0x14 0x07 0x26)
    ∷ becomes bcd12 false (clock 0x59 0x59 0x12 0x02 0x14 0x07 0x26) (clock 0x00 0x00 0x01 0x02 0x14 0x07 0x26)
    ∷ becomes bcd12 false (clock 0x59 0x59 0x92 0x02 0x14 0x07 0x26) (clock 0x00 0x00 0x81 0x02 0x14 0x07 0x26)
    -- February's end in a leap year and in the year after it
    ∷ becomes binary24 false (clock 0x3B 0x3B 0x17 0x02 0x1C 0x02 0x00) (clock 0x00 0x00 0x00 0x03 0x1D 0x02 0x00)
    ∷ becomes binary24 false (clock 0x3B 0x3B 0x17 0x02 0x1C 0x02 0x01) (clock 0x00 0x00 0x00 0x03 0x01 0x03 0x01)
    -- second 9, in BCD and in binary
    ∷ becomes bcd24 false (clock 0x09 0x30 0x10 0x02 0x14 0x07 0x26) (clock 0x10 0x30 0x10 0x02 0x14 0x07 0x26)
    ∷ becomes binary24 false (clock 0x09 0x1E 0x0A 0x02 0x0E 0x07 0x1A) (clock 0x0A 0x1E 0x0A 0x02 0x0E 0x07 0x1A)
    -- daylight saving on the last Sunday in April, and on one too early
    ∷ becomes bcd24 true (clock 0x59 0x59 0x01 0x01 0x26 0x04 0x26) (clock 0x00 0x00 0x03 0x01 0x26 0x04 0x26)
    ∷ becomes bcd24 true (clock 0x59 0x59 0x01 0x01 0x23 0x04 0x26) (clock 0x00 0x00 0x02 0x01 0x23 0x04 0x26)
    -- the two sides of "don't care"
    ∷ matches_all 0xC0
    ∷ matches_itself 0xBF
    -- Thursday 15 February 79, 5:58:21
    ∷ tells binary24 (clock 21 58 5 5 15 2 79) (record { weekday = 5; seconds = 2496981501 })
    ∷ tells bcd24 (clock 0x21 0x58 0x05 0x05 0x15 0x02 0x79) (record { weekday = 5; seconds = 2496981501 })
    ∷ []
