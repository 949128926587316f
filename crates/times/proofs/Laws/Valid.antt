-- A valid time: the facts, and the tests that tell them, of a clock and of a weekday with seconds.
use mathlib.Core.Path.{◌≡◌}
use mathlib.Core.Bool.{true}
use Prim.Native.Nat.{ℕ, ◌≤◌, ◌<◌}
use lib.Dec.{leb}
use borrow.Author.Tests.{leb-true, le-leb, ltb-true, lt-ltb}
use Rattle.fields.specs.declared.Mode.{Mode}
use Rattle.fields.specs.declared.DataMode.{DataMode}
use Rattle.fields.specs.Bytes.{value_of, in_range}
use Rattle.fields.specs.Hours.{hour_in_range}
use Rattle.std.proofs.lemmas.Bool.{and_from, and_parts}
use Rattle.fields.proofs.Laws.Ranges.{InRange, range_test, range_fact}
use Rattle.fields.proofs.Laws.Hours.{HourInRange, hour_test, hour_fact}
use Rattle.calendar.specs.declared.Clock.{Clock}
use Rattle.calendar.specs.Days.{last_day, leap_year, last_day_of}
use Rattle.times.specs.declared.Time.{Time}
use Rattle.times.specs.Times.{century, is_valid, is_time}
use Rattle.times.proofs.Laws.Days.{IsDate}

pub record Valid (m : Mode) (c : Clock) : Type 0 where
  pub seconds : InRange m.data 0 59 c.seconds
  pub minutes : InRange m.data 0 59 c.minutes
  pub hours : HourInRange m c.hours
  pub weekday : InRange m.data 1 7 c.weekday
  pub month : InRange m.data 1 12 c.month
  pub year : InRange m.data 0 99 c.year
  pub date : InRange m.data 1 (last_day_of m.data c.month c.year) c.date

pub valid_test : (m : Mode) (c : Clock) → Valid m c → is_valid m c ≡ true
unfolding is_valid
valid_test m c v =
    and_from _ _ (range_test _ 0 59 _ v.seconds)
    (and_from _ _ (range_test _ 0 59 _ v.minutes)
    (and_from _ _ (hour_test m _ v.hours)
    (and_from _ _ (range_test _ 1 7 _ v.weekday)
    (and_from _ _ (range_test _ 1 12 _ v.month)
    (and_from _ _ (range_test _ 0 99 _ v.year)
    (range_test _ 1 _ _ v.date))))))

pub valid_fact : (m : Mode) (c : Clock) → is_valid m c ≡ true → Valid m c
unfolding is_valid
valid_fact m c e =
    let e1 = (and_parts (in_range m.data 0 59 c.seconds) _ e).1 in
    let e2 = (and_parts (in_range m.data 0 59 c.minutes) _ e1).1 in
    let e3 = (and_parts (hour_in_range m c.hours) _ e2).1 in
    let e4 = (and_parts (in_range m.data 1 7 c.weekday) _ e3).1 in
    let e5 = (and_parts (in_range m.data 1 12 c.month) _ e4).1 in
    record {
      seconds = range_fact _ 0 59 _ ((and_parts (in_range m.data 0 59 c.seconds) _ e).0);
      minutes = range_fact _ 0 59 _ ((and_parts (in_range m.data 0 59 c.minutes) _ e1).0);
      hours = hour_fact m _ ((and_parts (hour_in_range m c.hours) _ e2).0);
      weekday = range_fact _ 1 7 _ ((and_parts (in_range m.data 1 7 c.weekday) _ e3).0);
      month = range_fact _ 1 12 _ ((and_parts (in_range m.data 1 12 c.month) _ e4).0);
      year = range_fact _ 0 99 _ ((and_parts (in_range m.data 0 99 c.year) _ e5).0);
      date = range_fact _ 1 _ _ ((and_parts (in_range m.data 0 99 c.year) _ e5).1);
    }

-- at valid month and year bytes the last day is that of the numbers
pub last_day_by_numbers : (mode : DataMode) (month year : ℕ) → InRange mode 1 12 month → InRange mode 0 99 year
    → last_day_of mode month year ≡ last_day (leap_year (value_of mode year)) (value_of mode month)
unfolding last_day_of
last_day_by_numbers mode month year r s = rw (range_test mode 1 12 month r, range_test mode 0 99 year s)

pub valid_date : (m : Mode) (c : Clock) → Valid m c → IsDate (value_of m.data c.year) (value_of m.data c.month) (value_of m.data c.date)
valid_date m c v =
    record {
      year = v.year.high;
      january = v.month.low;
      december = v.month.high;
      first = v.date.low;
      last = rw (← last_day_by_numbers m.data c.month c.year v.month v.year) v.date.high;
    }

-- ---- a weekday and seconds

pub record Timely (t : Time) : Type 0 where
  pub sunday : 1 ≤ t.weekday
  pub saturday : t.weekday ≤ 7
  pub within : t.seconds < century

pub time_test : (t : Time) → Timely t → is_time t ≡ true
unfolding is_time
time_test t h = and_from _ _ (le-leb 1 _ h.sunday) (and_from _ _ (le-leb _ 7 h.saturday) (lt-ltb _ century h.within))

pub time_fact : (t : Time) → is_time t ≡ true → Timely t
unfolding is_time
time_fact t e =
    let r = (and_parts (leb 1 t.weekday) _ e).1 in
    record {
      sunday = leb-true 1 _ ((and_parts (leb 1 t.weekday) _ e).0);
      saturday = leb-true _ 7 ((and_parts (leb t.weekday 7) _ r).0);
      within = ltb-true _ century ((and_parts (leb t.weekday 7) _ r).1);
    }
