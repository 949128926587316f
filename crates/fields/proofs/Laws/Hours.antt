-- The hours in either hour mode, over either data mode: there and back, and the step.
-- `low_part` and `high_part` stay: each is one step of arithmetic under a name.
use mathlib.Core.Path.{◌≡◌, sym, ap, ◌∙◌}
use mathlib.Core.Bool.{Bool, true, false}
use mathlib.Core.Logic.{◌⊎◌, inl, inr}
use Prim.Native.Nat.{ℕ, ◌+◌, ◌-◌, ◌*◌, ◌/◌, ◌%◌, ◌≤◌, ◌<◌}
use native.Mathlib.Omega.{arith}
use lib.Dec.{leb, ltb, eqb}
use borrow.Author.Tests.{eq-eqb, ne_eqb, ltb-true, lt-ltb}
use Rattle.std.proofs.lemmas.Bool.{and_from, and_parts}
use Rattle.cases.proofs.Tests.{leb_case, eqb_case}
use Rattle.fields.proofs.Laws.Bytes.{Digits, value_of_byte, byte_of_value, byte_has_digits, leb_of_byte, next_is_one_more, value_small}
use Rattle.fields.proofs.Laws.Ranges.{InRange, range_test, range_fact, byte_in_range}
use Rattle.fields.proofs.Laws.Steps.{carry_of, step_adds}
use Rattle.fields.specs.declared.Mode.{Mode}
use Rattle.fields.specs.declared.DataMode.{DataMode}
use Rattle.fields.specs.declared.HourMode.{HourMode}
use Rattle.fields.specs.declared.HourMode.TheVariants.{Twelve, TwentyFour}
use Rattle.fields.specs.Bytes.{value_of, byte_of, ordinary_next}
use Rattle.fields.specs.Hours.{hour_of, hour_byte, hour_in_range}
use Rattle.fields.specs.Steps.{half_day_step, hour_step}

abbrev mode_by : DataMode → HourMode → Mode
mode_by mode hours = record { «data» = mode; hours = hours }

abbrev HourFacts : DataMode → HourMode → ℕ → Type 0
HourFacts mode TwentyFour b = InRange mode 0 23 b
HourFacts mode Twelve b = (b < 256) × InRange mode 1 12 (b % 128)

abbrev pub HourInRange : Mode → ℕ → Type 0
HourInRange m b = HourFacts m.data m.hours b

-- ---- the test

test_by : (mode : DataMode) (hours : HourMode) (b : ℕ) → HourFacts mode hours b → hour_in_range (mode_by mode hours) b ≡ true
test_by mode TwentyFour b r = range_test mode 0 23 b r
test_by mode Twelve b r = and_from _ _ (lt-ltb b 256 r.0) (range_test mode 1 12 (b % 128) r.1)

pub hour_test : (m : Mode) (b : ℕ) → HourInRange m b → hour_in_range m b ≡ true
hour_test m b r = test_by m.data m.hours b r

fact_by : (mode : DataMode) (hours : HourMode) (b : ℕ) → hour_in_range (mode_by mode hours) b ≡ true → HourFacts mode hours b
fact_by mode TwentyFour b e = range_fact mode 0 23 b e
fact_by mode Twelve b e = (ltb-true b 256 ((and_parts (ltb b 256) _ e).0), range_fact mode 1 12 (b % 128) ((and_parts (ltb b 256) _ e).1))

pub hour_fact : (m : Mode) (b : ℕ) → hour_in_range m b ≡ true → HourInRange m b
hour_fact m b e = fact_by m.data m.hours b e

-- ---- there and back

low_part : (l pm : ℕ) → l < 128 → (l + 128 * pm) % 128 ≡ l
low_part l pm h = omega arith

high_part : (l pm : ℕ) → l < 128 → (l + 128 * pm) / 128 ≡ pm
high_part l pm h = omega arith

-- a twelve-hour byte put together from a byte that stands for x and PM
joined : (mode : DataMode) (l pm x : ℕ) → pm < 2 → Digits mode l → value_of mode l ≡ x → 1 ≤ x → x ≤ 12
    → (hour_of (mode_by mode Twelve) (l + 128 * pm) ≡ x % 12 + 12 * pm) × HourFacts mode Twelve (l + 128 * pm)
joined mode l pm x q d e a z =
    let s : l < 128 = value_small mode d (omega arith) in
    rw (low_part l pm s, high_part l pm s)
    (ap (λ (n : ℕ). n % 12 + 12 * pm) e, (omega arith, record { digits = d; low = omega arith; high = omega arith }))

small_by : (mode : DataMode) (hours : HourMode) (b : ℕ) → HourFacts mode hours b → hour_of (mode_by mode hours) b < 24
small_by mode TwentyFour b r = omega arith
small_by mode Twelve b r = omega arith

pub hour_below_24 : (m : Mode) (b : ℕ) → HourInRange m b → hour_of m b < 24
hour_below_24 m b r = small_by m.data m.hours b r

back_by : (mode : DataMode) (hours : HourMode) (x : ℕ) → x < 24
    → (hour_of (mode_by mode hours) (hour_byte (mode_by mode hours) x) ≡ x) × HourFacts mode hours (hour_byte (mode_by mode hours) x)
back_by mode TwentyFour x h = (value_of_byte mode x, byte_in_range mode 0 23 x (omega arith) (omega arith))
back_by mode Twelve x h =
    let k : ℕ = (x + 11) % 12 + 1 in
    let j = joined mode (byte_of mode k) (x / 12) k (omega arith) (byte_has_digits mode k) (value_of_byte mode k) (omega arith) (omega arith) in
    (j.0 ∙ omega arith, j.1)

pub hour_of_byte : (m : Mode) (x : ℕ) → x < 24 → (hour_of m (hour_byte m x) ≡ x) × HourInRange m (hour_byte m x)
hour_of_byte m x h = back_by m.data m.hours x h

there_by : (mode : DataMode) (hours : HourMode) (b : ℕ) → HourFacts mode hours b → hour_byte (mode_by mode hours) (hour_of (mode_by mode hours) b) ≡ b
there_by mode TwentyFour b r = byte_of_value mode b r.digits
there_by mode Twelve b r =
    let x : ℕ = value_of mode (b % 128) in
    let p : (x % 12 + 12 * (b / 128) + 11) % 12 + 1 ≡ x = omega (arith, r.1.low, r.1.high) in
    let q : (x % 12 + 12 * (b / 128)) / 12 ≡ b / 128 = omega arith in
    let e : byte_of mode x ≡ b % 128 = byte_of_value mode (b % 128) r.1.digits in
    rw (p, q) (omega arith)

pub byte_of_hour : (m : Mode) (b : ℕ) → HourInRange m b → hour_byte m (hour_of m b) ≡ b
byte_of_hour m b r = there_by m.data m.hours b r

-- ---- the step

pub record HourAdds (m : Mode) (carried : Bool) (b : ℕ) : Type 0 where
  pub sum : hour_of m (hour_step m carried b).byte + 24 * carry_of (hour_step m carried b).carries ≡ hour_of m b + carry_of carried
  pub within : HourInRange m (hour_step m carried b).byte

carry_of_pm : (pm : ℕ) → pm < 2 → carry_of (eqb pm 1) ≡ pm
carry_of_pm pm h = go (eqb_case pm 1)
  where
    go : ((pm ≡ 1) × (eqb pm 1 ≡ true)) ⊎ ((pm ≡ 1 → ⊥) × (eqb pm 1 ≡ false)) → carry_of (eqb pm 1) ≡ pm
    go (inl t) = rw t.1 (omega arith)
    go (inr t) = rw t.1 (omega arith)

half_day_adds : (mode : DataMode) (b : ℕ) → HourFacts mode Twelve b → HourAdds (mode_by mode Twelve) true b
unfolding hour_step half_day_step
half_day_adds mode b r = go (leb_case 12 (value_of mode (b % 128))) (eqb_case (value_of mode (b % 128)) 11)
  where
    h : ℕ
    h = b % 128

    pm : ℕ
    pm = b / 128

    d : Digits mode h
    d = r.1.digits

    not11 : (value_of mode h ≡ 11 → ⊥) → eqb h (byte_of mode 11) ≡ false
    not11 f = ne_eqb h (byte_of mode 11) (λ e. f (ap (value_of mode) e ∙ value_of_byte mode 11))

    is11 : value_of mode h ≡ 11 → eqb h (byte_of mode 11) ≡ true
    is11 e = eq-eqb h (byte_of mode 11) (sym (byte_of_value mode h d) ∙ ap (byte_of mode) e)

    go : ((12 ≤ value_of mode h) × (leb 12 (value_of mode h) ≡ true)) ⊎ ((value_of mode h < 12) × (leb 12 (value_of mode h) ≡ false))
        → ((value_of mode h ≡ 11) × (eqb (value_of mode h) 11 ≡ true)) ⊎ ((value_of mode h ≡ 11 → ⊥) × (eqb (value_of mode h) 11 ≡ false))
        → HourAdds (mode_by mode Twelve) true b
    go (inl x) y =
        let e : leb (byte_of mode 12) h ≡ true = leb_of_byte mode 12 h d ∙ x.1 in
        let j = joined mode (byte_of mode 1) pm 1 (omega arith) (byte_has_digits mode 1) (value_of_byte mode 1) (omega arith) (omega arith) in
        record { sum = rw e (omega (arith, r.1.high)); within = rw e j.1 }
    go (inr x) (inl y) =
        let e : leb (byte_of mode 12) h ≡ false = leb_of_byte mode 12 h d ∙ x.1 in
        let j = joined mode (byte_of mode 12) (1 - pm) 12 (omega arith) (byte_has_digits mode 12) (value_of_byte mode 12) (omega arith) (omega arith) in
        record { sum = rw (e, is11 y.0) (omega (arith, carry_of_pm pm (omega arith))); within = rw (e, is11 y.0) j.1 }
    go (inr x) (inr y) =
        let e : leb (byte_of mode 12) h ≡ false = leb_of_byte mode 12 h d ∙ x.1 in
        let n = next_is_one_more mode h d in
        let j = joined mode (ordinary_next mode h) pm (value_of mode h + 1) (omega arith) n.1 n.0 (omega arith) (omega arith) in
        record { sum = rw (e, not11 y.0) (omega arith); within = rw (e, not11 y.0) j.1 }

adds_by : (mode : DataMode) (hours : HourMode) (carried : Bool) (b : ℕ) → HourFacts mode hours b → HourAdds (mode_by mode hours) carried b
unfolding hour_step
adds_by mode TwentyFour carried b r = let s = step_adds mode 0 23 carried b (omega arith) r in record { sum = s.sum; within = s.within }
adds_by mode Twelve false b r = record { sum = omega arith; within = r }
adds_by mode Twelve true b r = half_day_adds mode b r

pub hour_step_adds : (m : Mode) (carried : Bool) (b : ℕ) → HourInRange m b → HourAdds m carried b
hour_step_adds m carried b r = adds_by m.data m.hours carried b r
