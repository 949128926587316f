-- n ticks, one after the other.
use mathlib.Core.Path.{◌≡◌, refl, ap}
use Prim.Native.Nat.{ℕ, zero, suc}
use Rattle.ticks.specs.Tick as tick
use Rattle.chip.specs.declared.Chip.{Chip}
use Rattle.chip.specs.Chips.{ticked, ticks}

-- the RAM is out of the ticks' reach
pub ticks_work_on_registers : (n : ℕ) (chip : Chip) → ticks n chip ≡ record { regs = tick.ticks n chip.regs; ram = chip.ram }
unfolding ticks tick.ticks
ticks_work_on_registers zero chip = refl
ticks_work_on_registers (suc n) chip = ap ticked (ticks_work_on_registers n chip)
