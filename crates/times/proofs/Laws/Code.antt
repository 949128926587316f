-- What the loops of the code leave.
use mathlib.Core.Path.{◌≡◌, refl, sym, ap, ◌∙◌}
use mathlib.Core.Bool.{Bool, true, false}
use mathlib.Core.List.{List, [], ◌∷◌}
use Prim.Native.Nat.{ℕ, suc, ◌+◌, ◌-◌, ◌≤◌, ◌<◌}
use native.Mathlib.Omega.{arith}
use lib.ListN.{length, get_or}
use Rattle.calendar.specs.Bytes.{clock_at, bytes_of}
use Rattle.calendar.specs.Days.{last_days, last_day, leap_year}
use Rattle.calendar.proofs.Laws.Days.{twelve_months, month_is_28_to_31, last_day_is_28_to_31}
use Rattle.times.specs.Days.{before, part, within, days_before_year, year_of, month_in, date_in, month_of, date_of}
use Rattle.times.proofs.Laws.Days.{years_closed, day_has_date}
use Rattle.times.proofs.Laws.Lengths.{before_next, before_fits, falls_into}

-- ---- seven bytes

pub seven_are_a_clock : (l : List ℕ) → length l ≡ 7 → bytes_of (clock_at l) ≡ l
seven_are_a_clock (_ ∷ _ ∷ _ ∷ _ ∷ _ ∷ _ ∷ _ ∷ []) h = refl
seven_are_a_clock [] h = absurd (omega arith)
seven_are_a_clock (_ ∷ []) h = absurd (omega arith)
seven_are_a_clock (_ ∷ _ ∷ []) h = absurd (omega arith)
seven_are_a_clock (_ ∷ _ ∷ _ ∷ []) h = absurd (omega arith)
seven_are_a_clock (_ ∷ _ ∷ _ ∷ _ ∷ []) h = absurd (omega arith)
seven_are_a_clock (_ ∷ _ ∷ _ ∷ _ ∷ _ ∷ []) h = absurd (omega arith)
seven_are_a_clock (_ ∷ _ ∷ _ ∷ _ ∷ _ ∷ _ ∷ []) h = absurd (omega arith)
seven_are_a_clock (_ ∷ _ ∷ _ ∷ _ ∷ _ ∷ _ ∷ _ ∷ _ ∷ _) h = absurd (omega arith)

-- ---- the months, one after the other

pub year_at_most_366 : (leap : Bool) → before (last_days leap) 12 ≤ 366
unfolding last_days
year_at_most_366 true = omega arith
year_at_most_366 false = omega arith

pub month_ends_by_366 : (leap : Bool) (i : ℕ) → i < 12 → before (last_days leap) i + get_or (last_days leap) i 0 ≤ 366
month_ends_by_366 leap i h =
    let r = rw twelve_months at (before_fits (last_days leap) i (omega (arith, twelve_months leap))) in
    omega (arith, year_at_most_366 leap)

pub one_month_more : (leap : Bool) (month n l : ℕ) → 1 ≤ month → month ≤ 12 → n ≡ before (last_days leap) (month - 1) → l ≡ last_day leap month
    → (n + l ≡ before (last_days leap) month) × (n + l ≤ 366)
one_month_more leap month n l a z e f =
    let q : suc (month - 1) ≡ month = omega arith in
    let b = before_next (last_days leap) (month - 1) (omega (arith, twelve_months leap)) in
    (rw (e, f) (sym b ∙ ap (before (last_days leap)) q), omega (arith, month_ends_by_366 leap (month - 1) (omega arith)))

pub no_month : (leap : Bool) → 0 ≡ before (last_days leap) 0
unfolding last_days
no_month leap = refl

-- a month is reached with `left` days of the day n still to go
pub record Reached (leap : Bool) (n month left : ℕ) : Type 0 where
  pub sum : before (last_days leap) (month - 1) + left ≡ n
  pub january : 1 ≤ month
  pub december : month ≤ 12

pub reached_first : (leap : Bool) (n : ℕ) → Reached leap n 1 n
reached_first leap n = record { sum = omega (arith, no_month leap); january = omega arith; december = omega arith }

pub reached_next : (leap : Bool) (n month left l : ℕ) → Reached leap n month left → month < 12 → l ≡ last_day leap month → l ≤ left
    → Reached leap n (month + 1) (left - l)
reached_next leap n month left l r h e k =
    let m = one_month_more leap month (before (last_days leap) (month - 1)) l r.january r.december refl e in
    let q : month + 1 - 1 ≡ month = omega arith in
    record { sum = rw q (omega (arith, r.sum, m.0)); january = omega arith; december = omega arith }

-- December takes what is left
pub reached_december : (leap : Bool) (n left : ℕ) → n < before (last_days leap) 12 → Reached leap n 12 left → left < last_day leap 12
reached_december leap n left h r =
    let m = one_month_more leap 12 (before (last_days leap) 11) (last_day leap 12) (omega arith) (omega arith) refl refl in
    omega (arith, m.0, r.sum)

module _ (leap : Bool) (n month left l : ℕ) (r : Reached leap n month left) (e : l ≡ last_day leap month) (h : left < l) where
  into : (part (last_days leap) n ≡ month - 1) × (within (last_days leap) n ≡ left)
  into =
      rw (← r.sum)
      (falls_into (last_days leap) (month - 1) left (omega (arith, twelve_months leap, r.january, r.december)) (omega (arith, e)))

  pub reached_month : month ≡ month_in leap n
  unfolding month_in
  reached_month = rw into.0 (omega (arith, r.january))

  pub reached_date : left + 1 ≡ date_in leap n
  unfolding date_in
  reached_date = rw into.1

  pub reached_small : left < 31
  reached_small = let m = month_is_28_to_31 leap (month - 1) (omega (arith, r.january, r.december)) in omega (arith, e)

-- where the eleven other months are passed, December is the one
pub reached_last : (leap : Bool) (n month left : ℕ) → n < before (last_days leap) 12 → Reached leap n month left → 12 ≤ month
    → (12 ≡ month_in leap n) × (left + 1 ≡ date_in leap n) × (left < 31)
reached_last leap n month left h r z =
    let q : month ≡ 12 = omega (arith, r.december) in
    let d : Reached leap n 12 left = rw q at r in
    let k = reached_december leap n left h d in
    (reached_month leap n 12 left _ d refl k, reached_date leap n 12 left _ d refl k, reached_small leap n 12 left _ d refl k)

-- ---- the sum of the days before a date fits its type

pub days_fit : (y month : ℕ) → y ≤ 99 → month ≤ 12 → days_before_year y + before (last_days (leap_year y)) (month - 1) < 37000
days_fit y month h k = omega (arith, years_closed y, month_ends_by_366 (leap_year y) (month - 1) (omega arith))

-- ---- the numbers of a date fit a byte

pub date_fits : (day : ℕ) → day < 36525 → (date_of day < 100) × (month_of day < 100) × (year_of day < 100)
date_fits day h =
    let d = day_has_date day h in
    let l = last_day_is_28_to_31 (leap_year (year_of day)) (month_of day) d.january d.december in
    (omega arith, omega arith, omega arith)
