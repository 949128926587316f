-- The clock one second on, with daylight saving.
use Rattle.std.specs.Prelude.{Bool, true, cond, ◌&&◌, not, ℕ, eqb}
use Rattle.fields.specs.declared.Mode.{Mode}
use Rattle.fields.specs.declared.DataMode.{DataMode}
use Rattle.fields.specs.Bytes.{byte_of, in_range}
use Rattle.fields.specs.Hours.{hour_byte}
use Rattle.calendar.specs.declared.Clock.{Clock}
use Rattle.calendar.specs.declared.Advanced.{Advanced}
use Rattle.calendar.specs.Advance.{ordinary}

-- Advancing by one second, DSE: weekday 1 and the three bytes of 1:59:59 AM in the mode.
abbrev pub at_change : Mode → Clock → Bool
at_change m c =
    eqb c.weekday 1
    && (eqb c.hours (hour_byte m 1) && (eqb c.minutes (byte_of m.data 59) && eqb c.seconds (byte_of m.data 59)))

-- Advancing by one second, DSE: a date byte that is valid and from first to last, in the month with a number.
abbrev pub in_days : DataMode → ℕ → ℕ → ℕ → Clock → Bool
in_days mode month first last c = eqb c.month (byte_of mode month) && in_range mode first last c.date

-- Advancing by one second, DSE: the change in April, from the 24th to the 30th.
unfoldable pub springs : Mode → Clock → Bool
springs m c = at_change m c && in_days m.data 4 24 30 c

-- Advancing by one second, DSE: the change in October, from the 25th to the 31st, unless this Sunday's repeat is used.
unfoldable pub repeats : Mode → Bool → Clock → Bool
repeats m used c = at_change m c && (in_days m.data 10 25 31 c && not used)

-- Advancing by one second, DSE: a full hour of the same day.
abbrev pub at_hour : Mode → ℕ → Clock → Clock
at_hour m hour c =
    record {
      seconds = 0;
      minutes = 0;
      hours = hour_byte m hour;
      weekday = c.weekday;
      date = c.date;
      month = c.month;
      year = c.year;
    }

-- Advancing by one second, DSE: with DSE 1 the April change leads to 3:00:00 AM, the October one to 1:00:00 AM, which
-- marks the repeat as used; every other second goes as ever.
unfoldable pub advance : Mode → Bool → Bool → Clock → Advanced
advance m dse used c =
    cond (dse && springs m c) (record { clock = at_hour m 3 c; used = used })
    (cond (dse && repeats m used c) (record { clock = at_hour m 1 c; used = true })
    (ordinary m used c))
