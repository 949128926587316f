-- Daylight saving: every second but the two changes is an ordinary one, and what becomes of the mark.
-- Stays: `same_date`, since no law of the library is of a carry.
use mathlib.Core.Path.{◌≡◌, refl, sym, ap, ◌∙◌}
use mathlib.Core.Bool.{Bool, true, false, cond, ◌&&◌, ◌||◌, not}
use mathlib.Core.Logic.{◌⊎◌, inl, inr}
use Prim.Native.Nat.{ℕ}
use native.Mathlib.Omega.{arith}
use lib.Dec.{eqb}
use borrow.Author.Tests.{eqb-true, eq-eqb, ne_eqb}
use Rattle.fields.specs.declared.Mode.{Mode}
use Rattle.fields.specs.Bytes.{byte_of}
use Rattle.fields.specs.Steps.{step}
use Rattle.std.proofs.lemmas.Bool.{and_parts, cases_Bool}
use Rattle.fields.proofs.Laws.Bytes.{byte_in_order}
use Rattle.fields.proofs.Laws.Steps.{step_moves, step_rests}
use Rattle.calendar.specs.declared.Clock.{Clock}
use Rattle.calendar.specs.Days.{last_day_of}
use Rattle.calendar.specs.Advance.{hours_step, date_step, one_second_on, ordinary}
use Rattle.calendar.specs.Daylight.{at_change, springs, repeats, at_hour, advance}
use Rattle.calendar.proofs.Laws.Days.{last_day_of_is_28_to_31}

-- ---- which second is which

pub off_is_ordinary : (m : Mode) (used : Bool) (c : Clock) → advance m false used c ≡ ordinary m used c
unfolding advance
off_is_ordinary m used c = refl

pub spring_goes_to_three : (m : Mode) (used : Bool) (c : Clock) → springs m c ≡ true → advance m true used c ≡ record { clock = at_hour m 3 c; used = used }
unfolding advance
spring_goes_to_three m used c s = rw s

-- the two changes never meet: their months are not the same
pub spring_is_no_repeat : (m : Mode) (used : Bool) (c : Clock) → springs m c ≡ true → repeats m used c ≡ false
unfolding springs repeats
spring_is_no_repeat m used c s =
    let april = eqb-true c.month (byte_of m.data 4) ((and_parts (eqb c.month (byte_of m.data 4)) _ ((and_parts (at_change m c) _ s).1)).0) in
    let apart = byte_in_order m.data {x = 4} {y = 10} (omega arith) in
    let not-october = ne_eqb c.month (byte_of m.data 10) (omega arith) in
    rw ((and_parts (at_change m c) _ s).0, not-october)

pub repeat_goes_to_one : (m : Mode) (used : Bool) (c : Clock) → repeats m used c ≡ true → advance m true used c ≡ record { clock = at_hour m 1 c; used = true }
unfolding advance
repeat_goes_to_one m used c r = go (cases_Bool (springs m c))
  where
    go : (springs m c ≡ true) ⊎ (springs m c ≡ false)
        → cond (springs m c) (record { clock = at_hour m 3 c; used = used }) (cond (repeats m used c) (record { clock = at_hour m 1 c; used = true }) (ordinary m used c))
        ≡ record { clock = at_hour m 1 c; used = true }
    go (inl s) = let z : true ≡ false = sym r ∙ spring_is_no_repeat m used c s in cc
    go (inr s) = rw (s, r)

pub other_seconds_are_ordinary : (m : Mode) (dse used : Bool) (c : Clock) → springs m c ≡ false → repeats m used c ≡ false → advance m dse used c ≡ ordinary m used c
unfolding advance
other_seconds_are_ordinary m true used c s r = rw (s, r)
other_seconds_are_ordinary m false used c s r = refl

-- ---- the mark

-- the date byte stays exactly if the hours do not carry, whatever the bytes are
date_stays : (m : Mode) (c : Clock) → eqb (date_step m c).byte c.date ≡ not (hours_step m c).carries
date_stays m c = go (hours_step m c).carries
  where
    last : ℕ
    last = last_day_of m.data c.month c.year

    go : (carried : Bool) → eqb (step m.data 1 last carried c.date).byte c.date ≡ not carried
    go true = ne_eqb _ _ (step_moves m.data 1 last c.date (omega (arith, last_day_of_is_28_to_31 m.data c.month c.year)))
    go false = eq-eqb _ _ (step_rests m.data 1 last c.date)

same_date : (used : Bool) (n : ℕ) → used ≡ used && eqb n n
same_date true n = sym (eq-eqb n n refl)
same_date false n = refl

-- after an update the mark is set exactly if this update repeated the hour, or it was set and the date stayed
pub mark_after : (m : Mode) (dse used : Bool) (c : Clock)
    → (advance m dse used c).used ≡ (dse && repeats m used c) || (used && eqb (advance m dse used c).clock.date c.date)
unfolding advance ordinary one_second_on
mark_after m false used c = ap (λ (t : Bool). used && t) (sym (date_stays m c))
mark_after m true used c = go (cases_Bool (springs m c)) (cases_Bool (repeats m used c))
  where
    go : (springs m c ≡ true) ⊎ (springs m c ≡ false) → (repeats m used c ≡ true) ⊎ (repeats m used c ≡ false)
        → (advance m true used c).used ≡ repeats m used c || (used && eqb (advance m true used c).clock.date c.date)
    go (inl s) r = rw (s, spring_is_no_repeat m used c s) (same_date used c.date)
    go (inr s) (inl r) = rw (s, r)
    go (inr s) (inr r) = rw (s, r) (ap (λ (t : Bool). used && t) (sym (date_stays m c)))
