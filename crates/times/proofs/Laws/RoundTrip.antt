-- A clock to a time and back, and a time to a clock and back, in every mode.
use mathlib.Core.Path.{◌≡◌, ap, ◌∙◌}
use mathlib.Core.Bool.{true}
use Prim.Native.Nat.{ℕ, ◌+◌, ◌*◌, ◌/◌, ◌%◌, ◌≤◌, ◌<◌}
use native.Mathlib.Omega.{arith}
use Rattle.fields.specs.declared.Mode.{Mode}
use Rattle.fields.specs.Bytes.{value_of, byte_of}
use Rattle.fields.specs.Hours.{hour_of, hour_byte}
use Rattle.fields.proofs.Laws.Bytes.{value_of_byte, byte_of_value}
use Rattle.fields.proofs.Laws.Ranges.{byte_in_range}
use Rattle.fields.proofs.Laws.Hours.{hour_below_24, hour_of_byte, byte_of_hour}
use Rattle.calendar.specs.declared.Clock.{Clock}
use Rattle.calendar.specs.Days.{leap_year}
use Rattle.calendar.proofs.Laws.Days.{last_day_is_28_to_31}
use Rattle.times.specs.declared.Time.{Time}
use Rattle.times.specs.Days.{year_of, month_of, date_of}
use Rattle.times.specs.Times.{century, is_valid, is_time, time_of, clock_of, seconds_of, day_number}
use Rattle.times.proofs.Laws.Days.{day_has_date, day_of_its_date, date_of_its_day, day_below_36525}
use Rattle.times.proofs.Laws.Valid.{Valid, valid_test, valid_fact, valid_date, last_day_by_numbers, Timely, time_test, time_fact}

-- ---- from a time to a clock

made_valid : (m : Mode) (t : Time) → Timely t → Valid m (clock_of m t)
unfolding clock_of
made_valid m t o =
    let n : ℕ = t.seconds / 86400 in
    let d = day_has_date n (omega arith) in
    let l = last_day_is_28_to_31 (leap_year (year_of n)) (month_of n) d.january d.december in
    let month = byte_in_range m.data 1 12 (month_of n) d.january d.december in
    let year = byte_in_range m.data 0 99 (year_of n) (omega arith) d.year in
    record {
      seconds = byte_in_range m.data 0 59 _ (omega arith) (omega arith);
      minutes = byte_in_range m.data 0 59 _ (omega arith) (omega arith);
      hours = (hour_of_byte m (t.seconds / 3600 % 24) (omega arith)).1;
      weekday = byte_in_range m.data 1 7 _ o.sunday o.saturday;
      month = month;
      year = year;
      date =
          rw (last_day_by_numbers m.data (byte_of m.data (month_of n)) (byte_of m.data (year_of n)) month year, value_of_byte m.data (year_of n), value_of_byte m.data (month_of n))
          (byte_in_range m.data 1 _ _ d.first d.last);
    }

made_back : (m : Mode) (t : Time) → Timely t → time_of m (clock_of m t) ≡ t
unfolding time_of clock_of
made_back m t o =
    let n : ℕ = t.seconds / 86400 in
    let w = value_of_byte m.data t.weekday in
    let s : seconds_of m (clock_of m t) ≡ t.seconds =
    rw (value_of_byte m.data (year_of n), value_of_byte m.data (month_of n), value_of_byte m.data (date_of n), day_of_its_date n)
    (omega (arith, (hour_of_byte m (t.seconds / 3600 % 24) (omega arith)).0, value_of_byte m.data (t.seconds / 60 % 60), value_of_byte m.data (t.seconds % 60)))
    in
    λ i. record { weekday = w i; seconds = s i }

-- ---- from a clock to a time

pub told_timely : (m : Mode) (c : Clock) → Valid m c → Timely (time_of m c)
unfolding time_of
told_timely m c v =
    let d = day_below_36525 _ _ _ (valid_date m c v) in
    let h = hour_below_24 m c.hours v.hours in
    record { sunday = v.weekday.low; saturday = v.weekday.high; within = omega (arith, v.minutes.high, v.seconds.high) }

told_back : (m : Mode) (c : Clock) → Valid m c → clock_of m (time_of m c) ≡ c
unfolding time_of clock_of
told_back m c v =
    let h = hour_below_24 m c.hours v.hours in
    let n : seconds_of m c / 86400 ≡ day_number m c = omega (arith, v.minutes.high, v.seconds.high) in
    let d = date_of_its_day _ _ _ (valid_date m c v) in
    let s : seconds_of m c % 60 ≡ value_of m.data c.seconds = omega (arith, v.seconds.high) in
    let q : seconds_of m c / 60 ≡ (day_number m c * 24 + hour_of m c.hours) * 60 + value_of m.data c.minutes = omega (arith, v.seconds.high) in
    let n60 : seconds_of m c / 60 % 60 ≡ value_of m.data c.minutes = rw q (omega (arith, v.minutes.high)) in
    let p : seconds_of m c / 3600 ≡ day_number m c * 24 + hour_of m c.hours = omega (arith, v.minutes.high, v.seconds.high) in
    let h24 : seconds_of m c / 3600 % 24 ≡ hour_of m c.hours = rw p (omega arith) in
    let es = ap (byte_of m.data) s ∙ byte_of_value m.data c.seconds v.seconds.digits in
    let em = ap (byte_of m.data) n60 ∙ byte_of_value m.data c.minutes v.minutes.digits in
    let eh = ap (hour_byte m) h24 ∙ byte_of_hour m c.hours v.hours in
    let ew = byte_of_value m.data c.weekday v.weekday.digits in
    let ed = ap (byte_of m.data) (ap date_of n ∙ d.2) ∙ byte_of_value m.data c.date v.date.digits in
    let eo = ap (byte_of m.data) (ap month_of n ∙ d.1) ∙ byte_of_value m.data c.month v.month.digits in
    let ey = ap (byte_of m.data) (ap year_of n ∙ d.0) ∙ byte_of_value m.data c.year v.year.digits in
    λ i. record { seconds = es i; minutes = em i; hours = eh i; weekday = ew i; date = ed i; month = eo i; year = ey i }

-- ---- the laws, of the tests that the calls make

-- a time that can be turned into bytes becomes a valid clock, and that clock tells the same time
pub encode_then_decode : (m : Mode) (t : Time) → is_time t ≡ true → (is_valid m (clock_of m t) ≡ true) × (time_of m (clock_of m t) ≡ t)
encode_then_decode m t e = let o = time_fact t e in (valid_test m _ (made_valid m t o), made_back m t o)

-- a valid clock tells a time that can be turned into bytes, and they are the clock's own
pub decode_then_encode : (m : Mode) (c : Clock) → is_valid m c ≡ true → (is_time (time_of m c) ≡ true) × (clock_of m (time_of m c) ≡ c)
decode_then_encode m c e = let v = valid_fact m c e in (time_test _ (told_timely m c v), told_back m c v)

-- the seconds of a valid clock are from 0 to 3,155,759,999, and its weekday is from 1 to 7
pub valid_clock_is_in_range : (m : Mode) (c : Clock) → is_valid m c ≡ true
    → (1 ≤ (time_of m c).weekday) × ((time_of m c).weekday ≤ 7) × ((time_of m c).seconds < century)
valid_clock_is_in_range m c e = let o = told_timely m c (valid_fact m c e) in (o.sunday, o.saturday, o.within)

-- in every mode, each weekday with each number of seconds in that range is told by a valid clock
pub every_time_is_met : (m : Mode) (weekday seconds : ℕ) → 1 ≤ weekday → weekday ≤ 7 → seconds < century
    → (c : Clock) × (is_valid m c ≡ true) × (time_of m c ≡ record { weekday = weekday; seconds = seconds })
every_time_is_met m weekday seconds a b h =
    let t : Time = record { weekday = weekday; seconds = seconds } in
    let r = encode_then_decode m t (time_test t (record { sunday = a; saturday = b; within = h })) in
    (clock_of m t, r.0, r.1)
