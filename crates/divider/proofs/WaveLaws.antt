-- What the proof of `wave` uses.
-- Stays: `no`, of one use.
use mathlib.Core.Path.{◌≡◌, refl}
use native.Mathlib.Omega.{arith}
use mathlib.Core.Bool.{Bool, true, false, ◌&&◌, not}
use Prim.Native.Nat.{ℕ, ◌^◌, ◌≤◌, ◌<◌}
use native.Mathlib.Nat.{div-eq_of_lt, lt_of_lt_of_le}
use lib.Dec.{eqb}
use lib.Pow.{pow_mono}
use Rattle.std.specs.Prelude.{Option}
use Rattle.divider.specs.declared.Base.{Base}
use Rattle.divider.specs.declared.Divider.{Divider}
use Rattle.divider.specs.Divider.{tap_of, wave}

-- a count of 32 bits has no bit at such a tap
pub above : (base : Option Base) (rate tap : ℕ) (d : Divider) → d.count < 2 ^ 32 → tap ≡ tap_of base rate → 31 < tap → false ≡ wave base rate d
unfolding wave
above base rate tap d small e h =
    let k : 32 ≤ tap_of base rate = omega arith in
    rw (div-eq_of_lt (lt_of_lt_of_le small (pow_mono k))) (no (not (eqb rate 0)))
  where
    no : (b : Bool) → false ≡ b && false
    no true = refl
    no false = refl
