-- The byte at a location, in the registers and in the RAM.
use mathlib.Core.Path.{◌≡◌, refl, sym, ap, ◌∙◌}
use Prim.Native.Nat.{ℕ, ◌+◌, ◌-◌, ◌≤◌, ◌<◌}
use native.Mathlib.Omega.{arith}
use lib.ListN.{length, get_or, get_or-append}
use lib.Seq.{get_or-append-add}
use Rattle.registers.specs.declared.Regs.{Regs}
use Rattle.registers.specs.Locations.{register_bytes}
use Rattle.chip.specs.declared.Chip.{Chip}
use Rattle.chip.specs.Chips.{locations, location}

pub fourteen_registers : (r : Regs) → length (register_bytes r) ≡ 14
unfolding register_bytes
fourteen_registers r = refl

pub location_in_registers : (chip : Chip) (address : ℕ) → address < 14 → get_or (register_bytes chip.regs) address 0 ≡ location chip address
unfolding location locations
location_in_registers chip address h = sym (get_or-append (register_bytes chip.regs) chip.ram 0 address (omega (arith, fourteen_registers chip.regs)))

pub location_in_ram : (chip : Chip) (address : ℕ) → 14 ≤ address → get_or chip.ram (address - 14) 0 ≡ location chip address
unfolding location locations
location_in_ram chip address h =
    let e : length (register_bytes chip.regs) + (address - 14) ≡ address = omega (arith, fourteen_registers chip.regs) in
    sym (get_or-append-add (register_bytes chip.regs) chip.ram (address - 14) 0) ∙ ap (λ (k : ℕ). get_or (locations chip) k 0) e
