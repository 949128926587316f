-- What an open location tells: one whose access is not refused.
use mathlib.Core.Path.{◌≡◌, refl}
use mathlib.Core.Bool.{Bool, true, false, cond, ◌&&◌, ◌||◌}
use Prim.Native.Nat.{ℕ, ◌<◌}
use native.Mathlib.Omega.{arith}
use lib.Dec.{eqb, ltb}
use borrow.Author.Tests.{ltb-false, eq-eqb}
use Rattle.std.specs.Prelude.{Result, Ok, Err}
use Rattle.refusals.specs.declared.Refusal.{Refusal}
use Rattle.refusals.specs.Numbers.{then_ask}
use Rattle.divider.specs.Divider.{test_pattern}
use Rattle.refusals.specs.declared.Refusal.TheVariants.{Address, Reset, ReadOnly, TestPattern}
use Rattle.registers.specs.declared.Regs.{Regs}
use Rattle.registers.specs.Bits.{dv_of}
use Rattle.registers.specs.Access.{access, write_access}

-- a verdict that refuses is not open
refused_is_not_open : {A : Type 0} {why : Refusal} → ◌≡◌ {A = Result (Unit {0}) Refusal} (Err why) (Ok tt) → A
refused_is_not_open e = let z : ◌≡◌ {A = ℕ} 0 1 = cc in absurd (omega arith)

-- where a test would refuse and all is open, the test fails
passed : (test : Bool) (why : Refusal) (next : Result (Unit {0}) Refusal) → cond test (Err why) next ≡ Ok tt → (test ≡ false) × (next ≡ Ok tt)
passed true why next e = refused_is_not_open e
passed false why next e = (refl, e)

pub open_is_below_64 : (r : Regs) (address : ℕ) → access r address ≡ Ok tt → address < 64
unfolding access
open_is_below_64 r address e = let l = ltb-false 63 address (passed (ltb 63 address) Address _ e).0 in omega arith

pub open_has_reset_high : (r : Regs) (address : ℕ) → access r address ≡ Ok tt → r.resetlow ≡ false
unfolding access
open_has_reset_high r address e = (passed r.resetlow Reset _ (passed (ltb 63 address) Address _ e).1).0

first_open : (v w : Result (Unit {0}) Refusal) → then_ask v w ≡ Ok tt → v ≡ Ok tt
first_open (Ok tt) w e = refl
first_open (Err why) w e = e

then_open : (v w : Result (Unit {0}) Refusal) → then_ask v w ≡ Ok tt → w ≡ Ok tt
then_open (Ok tt) w e = e
then_open (Err why) w e = refused_is_not_open e

pub write_open_is_open : (r : Regs) (address value : ℕ) → write_access r address value ≡ Ok tt → access r address ≡ Ok tt
unfolding write_access
write_open_is_open r address value e = first_open _ _ e

pub open_a_has_no_pattern : (r : Regs) (address value : ℕ) → address ≡ 10 → write_access r address value ≡ Ok tt → test_pattern (dv_of value) ≡ false
unfolding write_access
open_a_has_no_pattern r address value h e =
    let o = (passed (eqb address 12 || eqb address 13) ReadOnly _ (then_open (access r address) _ e)).1 in
    let p = (passed (eqb address 10 && test_pattern (dv_of value)) TestPattern (Ok tt) o).0 in
    rw (eq-eqb address 10 h) at p
