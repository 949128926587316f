-- What the clock's bytes mean as a time, and the bytes of a time.
use Rattle.std.specs.Prelude.{Bool, cond, ◌&&◌, ℕ, zero, suc, ◌+◌, ◌-◌, ◌*◌, ◌/◌, ◌%◌, eqb, leb, ltb}
use Rattle.fields.specs.declared.Mode.{Mode}
use Rattle.fields.specs.Bytes.{value_of, byte_of, in_range}
use Rattle.fields.specs.Hours.{hour_of, hour_byte, hour_in_range}
use Rattle.calendar.specs.declared.Clock.{Clock}
use Rattle.calendar.specs.Days.{last_day_of}
use Rattle.calendar.specs.Advance.{one_second_on}
use Rattle.times.specs.declared.Time.{Time}
use Rattle.times.specs.Days.{day_of, year_of, month_of, date_of}

-- Advancing by one second, a valid time: the seconds of a hundred years.
abbrev pub century : ℕ
century = 3155760000

-- Advancing by one second, a valid time: each byte is in its range for the mode, and the date is one of its month's.
unfoldable pub is_valid : Mode → Clock → Bool
is_valid m c =
    in_range m.data 0 59 c.seconds
    && (in_range m.data 0 59 c.minutes
    && (hour_in_range m c.hours
    && (in_range m.data 1 7 c.weekday
    && (in_range m.data 1 12 c.month
    && (in_range m.data 0 99 c.year
    && in_range m.data 1 (last_day_of m.data c.month c.year) c.date)))))

-- Advancing by one second, a valid time: the day that the date, the month and the year name.
abbrev pub day_number : Mode → Clock → ℕ
day_number m c = day_of (value_of m.data c.year) (value_of m.data c.month) (value_of m.data c.date)

-- Advancing by one second, a valid time: the seconds from the first midnight of year 00 to what the clock tells.
abbrev pub seconds_of : Mode → Clock → ℕ
seconds_of m c =
    ((day_number m c * 24 + hour_of m c.hours) * 60 + value_of m.data c.minutes) * 60 + value_of m.data c.seconds

-- Advancing by one second, a valid time: what it decodes to.
unfoldable pub time_of : Mode → Clock → Time
time_of m c = record { weekday = value_of m.data c.weekday; seconds = seconds_of m c }

-- Advancing by one second, a valid time: the times that have bytes: seven weekdays, and a century of seconds.
unfoldable pub is_time : Time → Bool
is_time t = leb 1 t.weekday && (leb t.weekday 7 && ltb t.seconds century)

-- Advancing by one second, a valid time: the bytes of a time.
unfoldable pub clock_of : Mode → Time → Clock
clock_of m t =
    record {
      seconds = byte_of m.data (t.seconds % 60);
      minutes = byte_of m.data (t.seconds / 60 % 60);
      hours = hour_byte m (t.seconds / 3600 % 24);
      weekday = byte_of m.data t.weekday;
      date = byte_of m.data (date_of (t.seconds / 86400));
      month = byte_of m.data (month_of (t.seconds / 86400));
      year = byte_of m.data (year_of (t.seconds / 86400));
    }

-- Advancing by one second: a time one second later, which goes round after a hundred years. The weekday moves at midnight alone.
unfoldable pub second_later : Time → Time
second_later t =
    record {
      weekday = cond (eqb ((t.seconds + 1) % 86400) 0) (t.weekday % 7 + 1) t.weekday;
      seconds = (t.seconds + 1) % century;
    }

-- Advancing by one second: a time n seconds later. The weekday has moved one for each day passed.
unfoldable pub later : ℕ → Time → Time
later n t =
    record {
      weekday = (t.weekday + 6 + ((t.seconds + n) / 86400 - t.seconds / 86400)) % 7 + 1;
      seconds = (t.seconds + n) % century;
    }

-- Advancing by one second: a clock after n of them.
unfoldable pub seconds_on : Mode → ℕ → Clock → Clock
seconds_on m zero c = c
seconds_on m (suc n) c = one_second_on m (seconds_on m n c)
