-- The days of a hundred years: the date of a day, the day of a date, and one day on.
-- Stays: `one_off`, of one use.
use mathlib.Core.Path.{◌≡◌, refl, ap, ◌∙◌}
use mathlib.Core.Bool.{Bool, true, false}
use mathlib.Core.Logic.{◌⊎◌, inl, inr}
use Prim.Native.Nat.{ℕ, zero, suc, ◌+◌, ◌-◌, ◌*◌, ◌/◌, ◌%◌, ◌≤◌, ◌<◌}
use native.Mathlib.Numerals.{add-one}
use native.Mathlib.Omega.{arith}
use lib.Dec.{eqb}
use Rattle.cases.proofs.Tests.{eqb_case}
use Rattle.fields.proofs.Laws.Steps.{carry_of, carry_small}
use Rattle.calendar.specs.Days.{last_days, last_day, leap_year}
use Rattle.calendar.proofs.Laws.Days.{twelve_months, last_day_is_28_to_31}
use Rattle.times.specs.Days.{before, part, days_before_year, day_of, year_of, month_in, date_in, month_of, date_of}
use Rattle.times.proofs.Laws.Lengths.{before_next, before_fits, Falls, falls, falls_into}

-- ---- years

-- the length of a year, as a number that omega can count with
year_length : (y : ℕ) → ((y % 4 ≡ 0) × (before (last_days (leap_year y)) 12 ≡ 366)) ⊎ ((0 < y % 4) × (before (last_days (leap_year y)) 12 ≡ 365))
unfolding last_days
year_length y = go (eqb_case (y % 4) 0)
  where
    go : ((y % 4 ≡ 0) × (eqb (y % 4) 0 ≡ true)) ⊎ ((y % 4 ≡ 0 → ⊥) × (eqb (y % 4) 0 ≡ false))
        → ((y % 4 ≡ 0) × (before (last_days (leap_year y)) 12 ≡ 366)) ⊎ ((0 < y % 4) × (before (last_days (leap_year y)) 12 ≡ 365))
    go (inl t) = inl (t.0, rw t.1)
    go (inr t) = inr (omega (arith, t.0), rw t.1)

-- 365 days a year, and one more for each leap year before
pub years_closed : (y : ℕ) → days_before_year y ≡ 365 * y + (y + 3) / 4
unfolding days_before_year
years_closed zero = omega arith
years_closed (suc y) = go (years_closed y) (year_length y)
  where
    go : days_before_year y ≡ 365 * y + (y + 3) / 4
        → ((y % 4 ≡ 0) × (before (last_days (leap_year y)) 12 ≡ 366)) ⊎ ((0 < y % 4) × (before (last_days (leap_year y)) 12 ≡ 365))
        → days_before_year y + before (last_days (leap_year y)) 12 ≡ 365 * suc y + (suc y + 3) / 4
    go i (inl t) = omega arith
    go i (inr t) = omega arith

pub year_follows : (y : ℕ) → days_before_year (y + 1) ≡ days_before_year y + before (last_days (leap_year y)) 12
unfolding days_before_year
year_follows y = rw add-one

pub year_starts_before : (day : ℕ) → days_before_year (year_of day) ≤ day
unfolding year_of
year_starts_before day = rw years_closed (omega arith)

pub next_year_starts_after : (day : ℕ) → day < days_before_year (year_of day + 1)
unfolding year_of
next_year_starts_after day = rw years_closed (omega arith)

pub day_in_year : (day : ℕ) → day - days_before_year (year_of day) < before (last_days (leap_year (year_of day))) 12
day_in_year day = omega (arith, year_starts_before day, next_year_starts_after day, year_follows (year_of day))

year_is : (y day : ℕ) → days_before_year y ≤ day → day < days_before_year (y + 1) → year_of day ≡ y
unfolding year_of
year_is y day a b = let p = years_closed y in let q = years_closed (y + 1) in omega arith

pub year_below_100 : (day : ℕ) → day < 36525 → year_of day < 100
unfolding year_of
year_below_100 day h = omega arith

-- ---- dates

pub record IsDate (y month date : ℕ) : Type 0 where
  pub year : y ≤ 99
  pub january : 1 ≤ month
  pub december : month ≤ 12
  pub first : 1 ≤ date
  pub last : date ≤ last_day (leap_year y) month

in_its_year : (y month date : ℕ) → IsDate y month date → (days_before_year y ≤ day_of y month date) × (day_of y month date < days_before_year (y + 1))
unfolding day_of
in_its_year y month date d =
    let r = rw twelve_months at (before_fits (last_days (leap_year y)) (month - 1) (omega (arith, twelve_months (leap_year y)))) in
    (omega arith, omega (arith, year_follows y))

pub day_below_36525 : (y month date : ℕ) → IsDate y month date → day_of y month date < 36525
day_below_36525 y month date d = let i = in_its_year y month date d in omega (arith, years_closed (y + 1))

fallen : (day : ℕ) → Falls (last_days (leap_year (year_of day))) (day - days_before_year (year_of day))
fallen day = falls (last_days (leap_year (year_of day))) (day - days_before_year (year_of day)) (rw twelve_months (day_in_year day))

one_off : (n : ℕ) → n + 1 - 1 ≡ n
one_off n = omega arith

pub day_has_date : (day : ℕ) → day < 36525 → IsDate (year_of day) (month_of day) (date_of day)
unfolding month_in date_in
day_has_date day h =
    let f = fallen day in
    record {
      year = omega (arith, year_below_100 day h);
      january = omega arith;
      december = omega (arith, f.known, twelve_months (leap_year (year_of day)));
      first = omega arith;
      last = rw one_off (omega (arith, f.inside));
    }

pub day_of_its_date : (day : ℕ) → day_of (year_of day) (month_of day) (date_of day) ≡ day
unfolding day_of month_in date_in
day_of_its_date day = let f = fallen day in rw (one_off (part (last_days (leap_year (year_of day))) (day - days_before_year (year_of day)))) (omega (arith, f.sum, year_starts_before day))

pub date_of_its_day : (y month date : ℕ) → IsDate y month date
    → (year_of (day_of y month date) ≡ y) × (month_of (day_of y month date) ≡ month) × (date_of (day_of y month date) ≡ date)
unfolding month_in date_in
date_of_its_day y month date d =
    let i = in_its_year y month date d in
    let e : year_of (day_of y month date) ≡ y = year_is y (day_of y month date) i.0 i.1 in
    let r : day_of y month date - days_before_year y ≡ before (last_days (leap_year y)) (month - 1) + (date - 1) = unfold day_of in (omega arith) in
    let f = falls_into (last_days (leap_year y)) (month - 1) (date - 1) (omega (arith, twelve_months (leap_year y))) (omega arith) in
    rw (e, r) (refl, omega arith, omega arith)

-- ---- one day on

-- the date, the month and the year move to date', month' and y' where c is carried in, each carrying into the next
pub record Turn (y month date y' month' date' : ℕ) (c cd cm cy : Bool) : Type 0 where
  pub old : IsDate y month date
  pub year : y' ≤ 99
  pub january : 1 ≤ month'
  pub december : month' ≤ 12
  pub first : 1 ≤ date'
  pub last : date' ≤ last_day (leap_year y) month
  pub date_sum : date' + last_day (leap_year y) month * carry_of cd ≡ date + carry_of c
  pub month_sum : month' + 12 * carry_of cm ≡ month + carry_of cd
  pub year_sum : y' + 100 * carry_of cy ≡ y + carry_of cm

january_first : (leap : Bool) → before (last_days leap) 0 ≡ 0
unfolding last_days
january_first leap = refl

december_last : (leap : Bool) → (before (last_days leap) 12 ≡ before (last_days leap) 11 + 31) × (last_day leap 12 ≡ 31)
unfolding last_days
december_last leap = (omega arith, refl)

pub turn_is_a_day : (y month date y' month' date' : ℕ) (c cd cm cy : Bool) → Turn y month date y' month' date' c cd cm cy
    → day_of y' month' date' + 36525 * carry_of cy ≡ day_of y month date + carry_of c
unfolding day_of
turn_is_a_day y month date y' month' date' c false cm cy t =
    let x : carry_of cm ≡ 0 = omega arith in
    let z : carry_of cy ≡ 0 = omega arith in
    let m : month' ≡ month = omega arith in
    let n : y' ≡ y = omega arith in
    rw (m, n, z) (omega arith)
turn_is_a_day y month date y' month' date' c true false cy t =
    let z : carry_of cy ≡ 0 = omega arith in
    let m : month' ≡ month + 1 = omega arith in
    let n : y' ≡ y = omega arith in
    let w : month + 1 - 1 ≡ suc (month - 1) = omega arith in
    let b = before_next (last_days (leap_year y)) (month - 1) (omega (arith, twelve_months (leap_year y))) in
    let k = carry_small c in
    rw (m, n, z, w) (omega arith)
turn_is_a_day y month date y' month' date' c true true false t =
    let m : month ≡ 12 = omega arith in
    let m' : month' ≡ 1 = omega arith in
    let n : y' ≡ y + 1 = omega arith in
    let d = december_last (leap_year y) in
    let l : last_day (leap_year y) month ≡ 31 = ap (last_day (leap_year y)) m ∙ d.1 in
    let k = carry_small c in
    rw (m, m', n) (omega (arith, year_follows y, january_first (leap_year (y + 1))))
turn_is_a_day y month date y' month' date' c true true true t =
    let m : month ≡ 12 = omega arith in
    let m' : month' ≡ 1 = omega arith in
    let n : y' ≡ 0 = omega arith in
    let h : y ≡ 99 = omega arith in
    let d = december_last (leap_year 99) in
    let l : last_day (leap_year y) month ≡ 31 = rw (m, h) d.1 in
    let k = carry_small c in
    rw (m, m', n, h) (omega (arith, year_follows 99, years_closed 100, years_closed 0, january_first (leap_year 0)))

pub turn_keeps_date : (y month date y' month' date' : ℕ) (c cd cm cy : Bool) → Turn y month date y' month' date' c cd cm cy
    → date' ≤ last_day (leap_year y') month'
turn_keeps_date y month date y' month' date' c false cm cy t =
    let x : carry_of cm ≡ 0 = omega arith in
    let z : carry_of cy ≡ 0 = omega arith in
    let m : month' ≡ month = omega arith in
    let n : y' ≡ y = omega arith in
    rw (m, n) t.last
turn_keeps_date y month date y' month' date' c true cm cy t =
    let r = last_day_is_28_to_31 (leap_year y') month' t.january t.december in
    let k = carry_small c in
    omega arith
