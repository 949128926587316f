-- A second on the clock is a second of time, in every mode; and so are n of them.
use mathlib.Core.Path.{◌≡◌, refl, ap, ◌∙◌}
use mathlib.Core.Bool.{Bool, true, false, cond}
use Prim.Native.Nat.{ℕ, zero, suc, ◌+◌, ◌-◌, ◌*◌, ◌/◌, ◌%◌, ◌≤◌, ◌<◌}
use native.Mathlib.Omega.{arith}
use lib.Dec.{eqb}
use borrow.Author.Tests.{eq-eqb, ne_eqb, eqb-true, eqb-false}
use Rattle.fields.specs.declared.Mode.{Mode}
use Rattle.fields.specs.Bytes.{value_of}
use Rattle.fields.specs.Hours.{hour_of}
use Rattle.fields.proofs.Laws.Steps.{carry_of, Adds, step_adds}
use Rattle.fields.proofs.Laws.Hours.{HourAdds, hour_step_adds, hour_below_24}
use Rattle.calendar.specs.declared.Clock.{Clock}
use Rattle.calendar.specs.Days.{last_day, leap_year, last_day_of}
use Rattle.calendar.specs.Advance.{seconds_step, minutes_step, hours_step, weekday_step, date_step, month_step, year_step, one_second_on}
use Rattle.calendar.proofs.Laws.Days.{last_day_of_is_28_to_31}
use Rattle.times.specs.declared.Time.{Time}
use Rattle.times.specs.Times.{century, is_valid, time_of, seconds_of, day_number, second_later, later, seconds_on}
use Rattle.times.proofs.Laws.Days.{Turn, turn_is_a_day, turn_keeps_date}
use Rattle.times.proofs.Laws.Valid.{Valid, valid_test, valid_fact, valid_date, last_day_by_numbers, Timely}
use Rattle.times.proofs.Laws.RoundTrip.{told_timely}

-- every field's step, at a valid time
record Fields (m : Mode) (c : Clock) : Type 0 where
  seconds : Adds m.data 0 59 true c.seconds
  minutes : Adds m.data 0 59 (seconds_step m c).carries c.minutes
  hours : HourAdds m (minutes_step m c).carries c.hours
  weekday : Adds m.data 1 7 (hours_step m c).carries c.weekday
  date : Adds m.data 1 (last_day_of m.data c.month c.year) (hours_step m c).carries c.date
  month : Adds m.data 1 12 (date_step m c).carries c.month
  year : Adds m.data 0 99 (month_step m c).carries c.year

fields_add : (m : Mode) (c : Clock) → Valid m c → Fields m c
fields_add m c v =
    let l = last_day_of_is_28_to_31 m.data c.month c.year in
    record {
      seconds = step_adds m.data 0 59 _ c.seconds (omega arith) v.seconds;
      minutes = step_adds m.data 0 59 _ c.minutes (omega arith) v.minutes;
      hours = hour_step_adds m _ c.hours v.hours;
      weekday = step_adds m.data 1 7 _ c.weekday (omega arith) v.weekday;
      date = step_adds m.data 1 _ _ c.date (omega arith) v.date;
      month = step_adds m.data 1 12 _ c.month (omega arith) v.month;
      year = step_adds m.data 0 99 _ c.year (omega arith) v.year;
    }

turns : (m : Mode) (c : Clock) → Valid m c
    → Turn (value_of m.data c.year) (value_of m.data c.month) (value_of m.data c.date)
    (value_of m.data (year_step m c).byte) (value_of m.data (month_step m c).byte) (value_of m.data (date_step m c).byte)
    (hours_step m c).carries (date_step m c).carries (month_step m c).carries (year_step m c).carries
turns m c v =
    let f = fields_add m c v in
    let l = last_day_by_numbers m.data c.month c.year v.month v.year in
    let e : last_day (leap_year (value_of m.data c.year)) (value_of m.data c.month) ≡ last_day_of m.data c.month c.year + 1 - 1 = omega arith in
    record {
      old = valid_date m c v;
      year = f.year.within.high;
      january = f.month.within.low;
      december = f.month.within.high;
      first = f.date.within.low;
      last = omega (arith, f.date.within.high);
      date_sum = ap (λ (n : ℕ). value_of m.data (date_step m c).byte + n * carry_of (date_step m c).carries) e ∙ f.date.sum;
      month_sum = f.month.sum;
      year_sum = f.year.sum;
    }

pub second_valid : (m : Mode) (c : Clock) → Valid m c → Valid m (one_second_on m c)
unfolding one_second_on
second_valid m c v =
    let f = fields_add m c v in
    let l = last_day_by_numbers m.data (month_step m c).byte (year_step m c).byte f.month.within f.year.within in
    record {
      seconds = f.seconds.within;
      minutes = f.minutes.within;
      hours = f.hours.within;
      weekday = f.weekday.within;
      month = f.month.within;
      year = f.year.within;
      date = record { digits = f.date.within.digits; low = f.date.within.low; high = rw l (turn_keeps_date _ _ _ _ _ _ _ _ _ _ (turns m c v)) };
    }

-- the carry out of the years takes a century off
wraps : (t t' : ℕ) (k : Bool) → t < century → t' < century → t' + century * carry_of k ≡ t + 1 → t' ≡ (t + 1) % century
wraps t t' true a b e = omega arith
wraps t t' false a b e = omega arith

-- the carry out of the hours is midnight
midnight : (t d x x' w w' : ℕ) (c k : Bool) → t ≡ d * 86400 + x → x < 86400 → x' < 86400 → x' + 86400 * carry_of c ≡ x + 1
    → 1 ≤ w → w ≤ 7 → 1 ≤ w' → w' ≤ 7 → w' + 7 * carry_of k ≡ w + carry_of c
    → w' ≡ cond (eqb ((t + 1) % 86400) 0) (w % 7 + 1) w
midnight t d x x' w w' true true e a b s f g h i j = rw (eq-eqb ((t + 1) % 86400) 0 (omega arith)) (omega arith)
midnight t d x x' w w' true false e a b s f g h i j = rw (eq-eqb ((t + 1) % 86400) 0 (omega arith)) (omega arith)
midnight t d x x' w w' false k e a b s f g h i j =
    let z : carry_of k ≡ 0 = omega arith in
    rw (ne_eqb ((t + 1) % 86400) 0 (omega arith)) (omega arith)

second_told : (m : Mode) (c : Clock) → Valid m c → time_of m (one_second_on m c) ≡ second_later (time_of m c)
unfolding time_of one_second_on second_later
second_told m c v =
    let f = fields_add m c v in
    let d = turn_is_a_day _ _ _ _ _ _ _ _ _ _ (turns m c v) in
    let old = told_timely m c v in
    let new = told_timely m (one_second_on m c) (second_valid m c v) in
    let sum : seconds_of m (one_second_on m c) + century * carry_of (year_step m c).carries ≡ seconds_of m c + 1 = omega (arith, f.seconds.sum, f.minutes.sum, f.hours.sum, d) in
    let e = wraps (seconds_of m c) (seconds_of m (one_second_on m c)) (year_step m c).carries (omega arith) (omega arith) sum in
    let o = hour_below_24 m c.hours v.hours in
    let o' = hour_below_24 m (hours_step m c).byte f.hours.within in
    let w =
    midnight (seconds_of m c) (day_number m c)
    ((hour_of m c.hours * 60 + value_of m.data c.minutes) * 60 + value_of m.data c.seconds)
    ((hour_of m (hours_step m c).byte * 60 + value_of m.data (minutes_step m c).byte) * 60 + value_of m.data (seconds_step m c).byte)
    (value_of m.data c.weekday) (value_of m.data (weekday_step m c).byte) (hours_step m c).carries (weekday_step m c).carries
    (omega arith) (omega (arith, v.minutes.high, v.seconds.high)) (omega (arith, f.minutes.within.high, f.seconds.within.high))
    (omega (arith, f.seconds.sum, f.minutes.sum, f.hours.sum))
    v.weekday.low v.weekday.high f.weekday.within.low f.weekday.within.high f.weekday.sum
    in
    λ i. record { weekday = w i; seconds = e i }

-- ---- n seconds

none_later : (t : Time) → Timely t → t ≡ later 0 t
unfolding later
none_later t o =
    let w : t.weekday ≡ (t.weekday + 6 + ((t.seconds + 0) / 86400 - t.seconds / 86400)) % 7 + 1 = omega arith in
    let s : t.seconds ≡ (t.seconds + 0) % century = omega arith in
    λ i. record { weekday = w i; seconds = s i }

one_weekday_later : (w x n : ℕ) (b : Bool) → eqb (((x + n) % century + 1) % 86400) 0 ≡ b
    → cond b (((w + 6 + ((x + n) / 86400 - x / 86400)) % 7 + 1) % 7 + 1) ((w + 6 + ((x + n) / 86400 - x / 86400)) % 7 + 1) ≡ (w + 6 + ((x + suc n) / 86400 - x / 86400)) % 7 + 1
one_weekday_later w x n true e =
    let q : ((x + n) % century + 1) % 86400 ≡ 0 = eqb-true _ _ e in
    let z : (x + suc n) / 86400 - x / 86400 ≡ (x + n) / 86400 - x / 86400 + 1 = omega arith in
    rw z (omega arith)
one_weekday_later w x n false e =
    let q : ((x + n) % century + 1) % 86400 ≡ 0 → ⊥ = eqb-false _ _ e in
    let z : (x + suc n) / 86400 - x / 86400 ≡ (x + n) / 86400 - x / 86400 = omega arith in
    rw z

one_more_later : (n : ℕ) (t : Time) → second_later (later n t) ≡ later (suc n) t
unfolding later second_later
one_more_later n t =
    let w = one_weekday_later t.weekday t.seconds n (eqb (((t.seconds + n) % century + 1) % 86400) 0) refl in
    let s : ((t.seconds + n) % century + 1) % century ≡ (t.seconds + suc n) % century = omega arith in
    λ i. record { weekday = w i; seconds = s i }

on_valid : (m : Mode) (n : ℕ) (c : Clock) → Valid m c → Valid m (seconds_on m n c) × (time_of m (seconds_on m n c) ≡ later n (time_of m c))
unfolding seconds_on
on_valid m zero c v = (v, none_later (time_of m c) (told_timely m c v))
on_valid m (suc n) c v =
    let r = on_valid m n c v in
    (second_valid m (seconds_on m n c) r.0, second_told m (seconds_on m n c) r.0 ∙ ap second_later r.1 ∙ one_more_later n (time_of m c))

-- ---- the laws

-- a second on a valid clock gives a valid clock, one second later, whose weekday moved exactly at midnight
pub one_second_on_lem : (m : Mode) (c : Clock) → is_valid m c ≡ true
    → (is_valid m (one_second_on m c) ≡ true) × (time_of m (one_second_on m c) ≡ second_later (time_of m c))
one_second_on_lem m c e = let v = valid_fact m c e in (valid_test m _ (second_valid m c v), second_told m c v)

-- n of them give a valid clock, n seconds later, whose weekday moved one for each day passed
pub n_seconds_on : (m : Mode) (n : ℕ) (c : Clock) → is_valid m c ≡ true
    → (is_valid m (seconds_on m n c) ≡ true) × (time_of m (seconds_on m n c) ≡ later n (time_of m c))
n_seconds_on m n c e = let r = on_valid m n c (valid_fact m c e) in (valid_test m _ r.0, r.1)
