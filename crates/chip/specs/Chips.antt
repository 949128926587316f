-- The chip: its 64 locations, and what writes and ticks make of it.
use Rattle.std.specs.Prelude.{cond, List, ◌++◌, ℕ, zero, suc, ◌-◌, leb, get_or, set, replicate}
use Rattle.registers.specs.Locations.{register_bytes}
use Rattle.registers.specs.Calls as registers
use Rattle.ticks.specs.Tick as tick
use Rattle.chip.specs.declared.Chip.{Chip}

-- Locations: 0 to 13 are the registers, 14 to 63 the user RAM.
unfoldable pub locations : Chip → List ℕ
locations chip = register_bytes chip.regs ++ chip.ram

-- Locations: the byte that stands at an address.
unfoldable pub location : Chip → ℕ → ℕ
location chip address = get_or (locations chip) address 0

-- Locations, fresh chip: fresh registers, and zeros in the RAM.
unfoldable pub fresh : Chip
fresh = record { regs = registers.fresh; ram = replicate 50 0 }

-- Locations: a byte written at an address goes to the user RAM or to the registers.
unfoldable pub written : Chip → ℕ → ℕ → Chip
written chip address value =
    cond (leb 14 address)
    (record { regs = chip.regs; ram = set chip.ram (address - 14) value })
    (record { regs = registers.written chip.regs address value; ram = chip.ram })

-- Divider and ticks: a tick works on the registers alone.
abbrev pub ticked : Chip → Chip
ticked chip = record { regs = tick.tick chip.regs; ram = chip.ram }

-- Divider and ticks: n ticks, one after the other.
unfoldable pub ticks : ℕ → Chip → Chip
ticks zero chip = chip
ticks (suc n) chip = ticked (ticks n chip)
