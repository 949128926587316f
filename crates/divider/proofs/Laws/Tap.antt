-- The taps: the count of trailing zero bits tells exactly when the selected tap rises. Assumes nothing.
use mathlib.Core.Path.{◌≡◌, refl, sym, ap, ◌∙◌}
use mathlib.Core.Bool.{Bool, true, false, cond, ◌&&◌, not}
use Prim.Native.Nat.{ℕ, suc, ◌+◌, ◌-◌, ◌*◌, ◌/◌, ◌%◌, ◌^◌, ◌≤◌, ◌<◌}
use native.Mathlib.Omega.{arith}
use lib.Dec.{leb, eqb}
use lib.Pow.{pow_pos, pow-add, mod-mod-pow}
use borrow.Author.Tests.{eqb-false, leb-true}
use Rattle.std.specs.Prelude.{Option, Some, None}
use Rattle.divider.specs.declared.Base.{Base}
use Rattle.divider.specs.declared.Base.TheVariants.{Fastest, Middle, Slowest}
use Rattle.divider.specs.declared.Divider.{Divider}
use Rattle.divider.specs.Divider.{span, running, step_of, moved, acts_as, tap_of, rose, wave, count_of}
use Rattle.divider.proofs.Laws.Numbers.{zeros_are_a_remainder, low_bits_from_the_top, top_of_low_bits, bit_rises_where_the_rest_is_0}
use Rattle.divider.proofs.Laws.Count.{count_of_moved, rose_by_count, wave_by_count}
use Rattle.divider.proofs.Laws.Base.{OfBase, running_is_base}
use Rattle.divider.proofs.Laws.Keeps.{Kept, kept_is_multiple}

-- ---- which tap a rate selects

pub acts_as_at_most_7_more : (base : Option Base) (rate : ℕ) → acts_as base rate ≤ rate + 7
unfolding acts_as
acts_as_at_most_7_more None rate = omega arith
acts_as_at_most_7_more (Some Fastest) rate = omega arith
acts_as_at_most_7_more (Some Middle) rate = omega arith
acts_as_at_most_7_more (Some Slowest) rate = go (leb 1 rate && leb rate 2)
  where
    go : (b : Bool) → cond b (rate + 7) rate ≤ rate + 7
    go true = omega arith
    go false = omega arith

-- the highest bit of the count, 21, is no tap
pub tap_at_most_20 : (base : Option Base) (rate : ℕ) → rate ≤ 15 → tap_of base rate ≤ 20
unfolding tap_of acts_as
tap_at_most_20 None rate h = omega arith
tap_at_most_20 (Some Fastest) rate h = omega arith
tap_at_most_20 (Some Middle) rate h = omega arith
tap_at_most_20 (Some Slowest) rate h = go (leb 1 rate) (leb rate 2) refl
  where
    go : (a b : Bool) → leb rate 2 ≡ b → 5 + cond (a && b) (rate + 7) rate ≤ 20
    go true true e = omega (arith, leb-true rate 2 e)
    go true false e = omega arith
    go false b e = omega arith

-- ---- a tap has risen

-- for every rate of the register
pub rose_is_remainder : (base : Option Base) (rate : ℕ) (d : Divider) → rate ≤ 15
    → rose base rate d ≡ not (eqb rate 0) && eqb (count_of d % 2 ^ suc (tap_of base rate)) (2 ^ tap_of base rate)
rose_is_remainder base rate d h =
    let t : tap_of base rate < 32 = omega (arith, tap_at_most_20 base rate h) in
    rw (rose_by_count base rate d, zeros_are_a_remainder 32 (count_of d) (tap_of base rate) t)

-- going around the span changes no bit that is a tap
around_span_low_bits : (n k : ℕ) → k ≤ 20 → n % span % 2 ^ suc k ≡ n % 2 ^ suc k
around_span_low_bits n k h =
    let e : 21 - k + suc k ≡ 22 = omega arith in
    rw e at (mod-mod-pow n (21 - k) (suc k))

around_span_bit : (n k : ℕ) → k ≤ 20 → n % span / 2 ^ k % 2 ≡ n / 2 ^ k % 2
around_span_bit n k h =
    sym (top_of_low_bits (n % span) k) ∙ ap (λ (x : ℕ). x / 2 ^ k) (around_span_low_bits n k h) ∙ top_of_low_bits n k

-- half a period of the tap, in steps
half_period_is_multiple : (base : Option Base) (rate : ℕ) (b : OfBase base) → 0 < rate → 2 ^ tap_of base rate ≡ 2 ^ (tap_of base rate - b.exponent) * step_of base
half_period_is_multiple base rate b p =
    let e : tap_of base rate - b.exponent + b.exponent ≡ tap_of base rate = omega (arith, b.taps_not_below_step rate p) in
    rw b.step_is_power (ap (λ (x : ℕ). 2 ^ x) (sym e) ∙ pow-add 2 (tap_of base rate - b.exponent) b.exponent)

-- at each tick of a running divider, for every rate: PF's test is true exactly if the tap was 0 and is 1
pub rose_is_rising_edge : (base : Option Base) (rate : ℕ) (d : Divider) → running base ≡ true → rate ≤ 15 → Kept base d
    → rose base rate (moved base d) ≡ wave base rate (moved base d) && not (wave base rate d)
rose_is_rising_edge base rate d r h k =
    rw (rose_is_remainder base rate (moved base d) h, wave_by_count base rate (moved base d), wave_by_count base rate d, count_of_moved base d r)
    (go (eqb rate 0) refl)
  where
    s : ℕ
    s = step_of base

    t : ℕ
    t = tap_of base rate

    n : ℕ
    n = count_of d + s

    go : (z : Bool) → eqb rate 0 ≡ z → not z && eqb (n % span % 2 ^ suc t) (2 ^ t) ≡ (not z && eqb (n % span / 2 ^ t % 2) 1) && not (not z && eqb (count_of d / 2 ^ t % 2) 1)
    go true e = refl
    go false e =
        let b = running_is_base base r in
        let p : 0 < rate = omega (arith, eqb-false rate 0 e) in
        let u = tap_at_most_20 base rate h in
        rw (around_span_low_bits n t u, around_span_bit n t u, low_bits_from_the_top n t)
        (bit_rises_where_the_rest_is_0 (2 ^ t) s (2 ^ (t - b.exponent)) (count_of d / s) (count_of d) (pow_pos t) b.step_positive (half_period_is_multiple base rate b p) (kept_is_multiple base d r k))
