-- What the two daylight changes do to the time that a valid clock tells.
use mathlib.Core.Path.{◌≡◌, refl, ap}
use mathlib.Core.Bool.{Bool, true, false}
use mathlib.Core.Logic.{◌⊎◌, inl, inr}
use Prim.Native.Nat.{ℕ, ◌+◌, ◌*◌, ◌<◌}
use native.Mathlib.Omega.{arith}
use lib.Dec.{eqb}
use borrow.Author.Tests.{eqb-true}
use Rattle.fields.specs.declared.Mode.{Mode}
use Rattle.fields.specs.declared.DataMode.{DataMode}
use Rattle.fields.specs.declared.DataMode.TheVariants.{Bcd, Binary}
use Rattle.fields.specs.Bytes.{value_of, byte_of}
use Rattle.fields.specs.Hours.{hour_byte}
use Rattle.std.proofs.lemmas.Bool.{and_parts, cases_Bool}
use Rattle.fields.proofs.Laws.Bytes.{value_of_byte}
use Rattle.fields.proofs.Laws.Ranges.{InRange, byte_in_range}
use Rattle.fields.proofs.Laws.Hours.{hour_of_byte}
use Rattle.calendar.specs.declared.Clock.{Clock}
use Rattle.calendar.specs.declared.Advanced.{Advanced}
use Rattle.calendar.specs.Advance.{ordinary}
use Rattle.calendar.specs.Daylight.{at_change, springs, repeats, at_hour, advance}
use Rattle.calendar.proofs.Laws.Daylight.{off_is_ordinary, spring_goes_to_three, repeat_goes_to_one, other_seconds_are_ordinary}
use Rattle.times.specs.Times.{is_valid, time_of, seconds_of, day_number}
use Rattle.times.proofs.Laws.Valid.{Valid, valid_test, valid_fact}
use Rattle.times.proofs.Laws.Advance.{second_valid}

zero_in_range : (mode : DataMode) (last : ℕ) → InRange mode 0 last 0 × (value_of mode 0 ≡ 0)
zero_in_range Binary last = (byte_in_range Binary 0 last 0 (omega arith) (omega arith), refl)
zero_in_range Bcd last = (byte_in_range Bcd 0 last 0 (omega arith) (omega arith), refl)

-- a full hour of the day of a valid clock
full_hour_valid : (m : Mode) (hour : ℕ) (c : Clock) → hour < 24 → Valid m c → Valid m (at_hour m hour c)
full_hour_valid m hour c h v =
    record {
      seconds = (zero_in_range m.data 59).0;
      minutes = (zero_in_range m.data 59).0;
      hours = (hour_of_byte m hour h).1;
      weekday = v.weekday;
      month = v.month;
      year = v.year;
      date = v.date;
    }

full_hour_told : (m : Mode) (hour : ℕ) (c : Clock) → hour < 24 → seconds_of m (at_hour m hour c) ≡ (day_number m c * 24 + hour) * 3600
full_hour_told m hour c h = let z = (zero_in_range m.data 59).1 in rw ((hour_of_byte m hour h).0, z) (omega arith)

-- the clock is a second before two
change_told : (m : Mode) (c : Clock) → at_change m c ≡ true → seconds_of m c ≡ (day_number m c * 24 + 1) * 3600 + 3599
change_told m c e =
    let e1 = (and_parts (eqb c.weekday 1) _ e).1 in
    let e2 = (and_parts (eqb c.hours (hour_byte m 1)) _ e1).1 in
    let h = eqb-true c.hours (hour_byte m 1) ((and_parts (eqb c.hours (hour_byte m 1)) _ e1).0) in
    let n = eqb-true c.minutes (byte_of m.data 59) ((and_parts (eqb c.minutes (byte_of m.data 59)) _ e2).0) in
    let s = eqb-true c.seconds (byte_of m.data 59) ((and_parts (eqb c.minutes (byte_of m.data 59)) _ e2).1) in
    rw (h, n, s, (hour_of_byte m 1 (omega arith)).0, value_of_byte m.data 59) (omega arith)

-- ---- the laws

-- from 1:59:59 to 3:00:00: an hour and a second later, on the same weekday
pub spring_skips_an_hour : (m : Mode) (used : Bool) (c : Clock) → is_valid m c ≡ true → springs m c ≡ true
    → (is_valid m (advance m true used c).clock ≡ true)
    × (time_of m (advance m true used c).clock ≡ record { weekday = (time_of m c).weekday; seconds = (time_of m c).seconds + 3601 })
unfolding time_of springs
spring_skips_an_hour m used c e s =
    let a = ap (λ (x : Advanced). x.clock) (spring_goes_to_three m used c s) in
    let t = change_told m c ((and_parts (at_change m c) _ s).0) in
    let f = full_hour_told m 3 c (omega arith) in
    let q : seconds_of m (at_hour m 3 c) ≡ seconds_of m c + 3601 = omega arith in
    rw a (valid_test m _ (full_hour_valid m 3 c (omega arith) (valid_fact m c e)), λ i. record { weekday = value_of m.data c.weekday; seconds = q i })

-- from 1:59:59 back to 1:00:00, on the same weekday
pub repeat_goes_back : (m : Mode) (used : Bool) (c : Clock) → is_valid m c ≡ true → repeats m used c ≡ true
    → (is_valid m (advance m true used c).clock ≡ true)
    × (record { weekday = (time_of m (advance m true used c).clock).weekday; seconds = (time_of m (advance m true used c).clock).seconds + 3599 } ≡ time_of m c)
unfolding time_of repeats
repeat_goes_back m used c e r =
    let a = ap (λ (x : Advanced). x.clock) (repeat_goes_to_one m used c r) in
    let t = change_told m c ((and_parts (at_change m c) _ r).0) in
    let f = full_hour_told m 1 c (omega arith) in
    let q : seconds_of m (at_hour m 1 c) + 3599 ≡ seconds_of m c = omega arith in
    rw a (valid_test m _ (full_hour_valid m 1 c (omega arith) (valid_fact m c e)), λ i. record { weekday = value_of m.data c.weekday; seconds = q i })

-- with daylight saving on or off, a valid clock stays valid
pub advance_keeps_valid : (m : Mode) (dse used : Bool) (c : Clock) → is_valid m c ≡ true → is_valid m (advance m dse used c).clock ≡ true
unfolding ordinary
advance_keeps_valid m false used c e = rw off_is_ordinary (valid_test m _ (second_valid m c (valid_fact m c e)))
advance_keeps_valid m true used c e = go (cases_Bool (springs m c)) (cases_Bool (repeats m used c))
  where
    go : (springs m c ≡ true) ⊎ (springs m c ≡ false) → (repeats m used c ≡ true) ⊎ (repeats m used c ≡ false) → is_valid m (advance m true used c).clock ≡ true
    go (inl s) r = (spring_skips_an_hour m used c e s).0
    go (inr s) (inl r) = (repeat_goes_back m used c e r).0
    go (inr s) (inr r) = rw (other_seconds_are_ordinary m true used c s r) (valid_test m _ (second_valid m c (valid_fact m c e)))
