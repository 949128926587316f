-- Many ticks: they leave register A, and do nothing where the divider is held.
use mathlib.Core.Path.{◌≡◌, refl, sym, ◌∙◌}
use mathlib.Core.Bool.{Bool, true, false, cond}
use Prim.Native.Nat.{ℕ, zero, suc}
use Rattle.std.specs.Prelude.{Some, None}
use Rattle.divider.specs.declared.Base.{Base}
use Rattle.divider.specs.Divider.{running}
use Rattle.registers.specs.declared.Regs.{Regs}
use Rattle.registers.specs.Bits.{base_of}
use Rattle.ticks.specs.Tick.{counted, flagged, awaiting, updated, finished, tick, ticks}

one_of_two : (t : Bool) (x y : Regs) (a : ℕ) → x.a ≡ a → y.a ≡ a → (cond t x y).a ≡ a
one_of_two true x y a p q = p
one_of_two false x y a p q = q

tick_leaves_a : (r : Regs) → (tick r).a ≡ r.a
unfolding tick counted flagged awaiting updated finished
tick_leaves_a r = one_of_two (running (base_of r.a)) _ r r.a (one_of_two _ _ _ r.a refl refl) refl

pub ticks_leave_a : (n : ℕ) (r : Regs) → (ticks n r).a ≡ r.a
unfolding ticks
ticks_leave_a zero r = refl
ticks_leave_a (suc n) r = tick_leaves_a (ticks n r) ∙ ticks_leave_a n r

pub held_ticks_do_nothing : (n : ℕ) (r : Regs) → None ≡ base_of r.a → r ≡ ticks n r
unfolding ticks tick
held_ticks_do_nothing zero r e = refl
held_ticks_do_nothing (suc n) r e = rw (← held_ticks_do_nothing n r e, ← e)

-- the base that the first tick had is that of every other
pub base_stays : (n : ℕ) (r now : Regs) (base : Base) → Some base ≡ base_of r.a → now ≡ ticks n r → base_of now.a ≡ Some base
base_stays n r now base e t = rw (t, ticks_leave_a n r) (sym e)
