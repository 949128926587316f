-- What the three running bases have in common: the step is a power of two that divides the span and E, and no tap lies below it.
-- Assumes nothing.
use mathlib.Core.Path.{◌≡◌, refl}
use mathlib.Core.Bool.{Bool, true, false, cond, false≢true}
use Prim.Native.Nat.{ℕ, ◌+◌, ◌*◌, ◌%◌, ◌^◌, ◌≤◌, ◌<◌}
use native.Mathlib.Nat.{mod-add-mod}
use native.Mathlib.Omega.{arith}
use lib.Dec.{leb}
use borrow.Author.Tests.{leb-false, le-leb}
use Rattle.std.specs.Prelude.{Option, Some, None}
use Rattle.divider.specs.declared.Base.{Base}
use Rattle.divider.specs.declared.Base.TheVariants.{Fastest, Middle, Slowest}
use Rattle.divider.specs.Divider.{span, running, step_of, end_of, tap_of, acts_as}

-- `exponent` is the number of low bits that stay 0; the span and E are given in steps.
pub record OfBase (base : Option Base) : Type 0 where
  pub exponent : ℕ
  pub steps_of_span : ℕ
  pub steps_of_end : ℕ
  pub runs : running base ≡ true
  pub step_is_power : step_of base ≡ 2 ^ exponent
  pub step_positive : 0 < step_of base
  pub step_at_most_128 : step_of base ≤ 128
  pub step_divides_span : steps_of_span * step_of base ≡ span
  pub step_divides_end : steps_of_end * step_of base ≡ end_of base
  pub end_positive : 0 < end_of base
  pub end_below_span : end_of base < span
  pub taps_not_below_step : (rate : ℕ) → 0 < rate → exponent ≤ tap_of base rate

pub fastest_is_base : OfBase (Some Fastest)
unfolding step_of end_of tap_of acts_as
fastest_is_base =
    record {
      exponent = 0;
      steps_of_span = 4194304;
      steps_of_end = 2064;
      runs = refl;
      step_is_power = refl;
      step_positive = omega arith;
      step_at_most_128 = omega arith;
      step_divides_span = refl;
      step_divides_end = refl;
      end_positive = omega arith;
      end_below_span = omega arith;
      taps_not_below_step = λ rate p. omega arith;
    }

pub middle_is_base : OfBase (Some Middle)
unfolding step_of end_of tap_of acts_as
middle_is_base =
    record {
      exponent = 2;
      steps_of_span = 1048576;
      steps_of_end = 516;
      runs = refl;
      step_is_power = refl;
      step_positive = omega arith;
      step_at_most_128 = omega arith;
      step_divides_span = refl;
      step_divides_end = refl;
      end_positive = omega arith;
      end_below_span = omega arith;
      taps_not_below_step = λ rate p. omega arith;
    }

-- without the exception rate 1 would select bit 6, which a step of 128 never moves
slowest_taps : (rate : ℕ) → 0 < rate → 7 ≤ tap_of (Some Slowest) rate
unfolding tap_of acts_as
slowest_taps rate p = rw (le-leb 1 rate p) (go (leb rate 2) refl)
  where
    go : (b : Bool) → leb rate 2 ≡ b → 7 ≤ 5 + cond b (rate + 7) rate
    go true e = omega arith
    go false e = omega (arith, leb-false rate 2 e)

pub slowest_is_base : OfBase (Some Slowest)
unfolding step_of end_of tap_of acts_as
slowest_is_base =
    record {
      exponent = 7;
      steps_of_span = 32768;
      steps_of_end = 73;
      runs = refl;
      step_is_power = refl;
      step_positive = omega arith;
      step_at_most_128 = omega arith;
      step_divides_span = refl;
      step_divides_end = refl;
      end_positive = omega arith;
      end_below_span = omega arith;
      taps_not_below_step = slowest_taps;
    }

pub running_is_base : (base : Option Base) → running base ≡ true → OfBase base
running_is_base None e = absurd (false≢true e)
running_is_base (Some Fastest) e = fastest_is_base
running_is_base (Some Middle) e = middle_is_base
running_is_base (Some Slowest) e = slowest_is_base

-- what the proof of a tick uses: the sum does not wrap, and a count that is cut down first moves to the same place
pub fits : (base : Option Base) (n s : ℕ) (b : Bool) → b ≡ running base → b ≡ true → s ≡ step_of base → n % span + s < 2 ^ 32
fits base n s b p t e = omega (arith, (running_is_base base (rw (← p) t)).step_at_most_128)

pub moved_from_remainder : (n s : ℕ) → (n % span + s) % span ≡ (n + s) % span
moved_from_remainder n s = mod-add-mod n span s
