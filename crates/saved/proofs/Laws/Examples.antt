-- A record byte by byte: that of a fresh chip, which loads.
use mathlib.Core.Path.{◌≡◌, refl}
use mathlib.Core.List.{◌∷◌, ◌++◌}
use lib.ListN.{replicate}
use Rattle.std.specs.Prelude.{Ok}
use Rattle.divider.specs.Divider as divider
use Rattle.registers.specs.Lines.{irqf}
use Rattle.registers.specs.Locations.{register_bytes}
use Rattle.registers.specs.Calls as registers
use Rattle.chip.specs.Chips.{locations, fresh}
use Rattle.saved.specs.Record.{tail_of, record_of, divider_in, regs_in, chip_of}
use Rattle.saved.specs.Rules.{keeps_rules}
use Rattle.saved.specs.Calls.{load}

-- A is hex 60 and B hex 80, and the count is 2,097,152
pub fresh_record : record_of fresh ≡ replicate 10 0 ++ 0x60 ∷ 0x80 ∷ replicate 54 0 ++ 0x20 ∷ replicate 5 0
unfolding record_of tail_of locations register_bytes irqf fresh registers.fresh divider.fresh divider.count_of
fresh_record = refl

pub fresh_record_loads : load (record_of fresh) ≡ Ok fresh
unfolding load keeps_rules chip_of regs_in divider_in record_of tail_of locations register_bytes irqf fresh registers.fresh divider.fresh divider.count_of divider.of_count divider.keeps_count divider.before_end divider.end_of
fresh_record_loads = refl
