-- Bits at their places in a byte.
-- Stays: the library has no law of a bit put at its place.
use mathlib.Core.Bool.{Bool, true, false, cond}
use Prim.Native.Nat.{ℕ, ◌≤◌}
use native.Mathlib.Omega.{arith}

pub placed_at_most : (on : Bool) (place : ℕ) → cond on place 0 ≤ place
placed_at_most true place = omega arith
placed_at_most false place = omega arith
