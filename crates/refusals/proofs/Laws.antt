-- The numbers of the refusals are from 1 to 10: none is the 0 of an accepted call.
use mathlib.Core.Path.{◌≡◌}
use Prim.Native.Nat.{◌≤◌}
use native.Mathlib.Omega.{arith}
use Rattle.refusals.specs.declared.Refusal.{Refusal}
use Rattle.refusals.specs.declared.Refusal.TheVariants.{Length, Address, Reset, Window, ReadOnly, TestPattern, Ticks, Rules, Time, Kind}
use Rattle.refusals.specs.Numbers.{number_of}

pub number_is_1_to_10 : (r : Refusal) → (1 ≤ number_of r) × (number_of r ≤ 10)
number_is_1_to_10 Length = omega arith
number_is_1_to_10 Address = omega arith
number_is_1_to_10 Reset = omega arith
number_is_1_to_10 Window = omega arith
number_is_1_to_10 ReadOnly = omega arith
number_is_1_to_10 TestPattern = omega arith
number_is_1_to_10 Ticks = omega arith
number_is_1_to_10 Rules = omega arith
number_is_1_to_10 Time = omega arith
number_is_1_to_10 Kind = omega arith

pub refusal_has_number : (r : Refusal) → number_of r ≡ 0 → ⊥
refusal_has_number r e = omega (arith, number_is_1_to_10 r)
