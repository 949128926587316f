-- The interrupt line and the square wave.
use Rattle.std.specs.Prelude.{Bool, ◌&&◌, ◌||◌}
use Rattle.divider.specs.Divider.{wave}
use Rattle.registers.specs.declared.Regs.{Regs}
use Rattle.registers.specs.Bits.{base_of, rate_of, pie_on, aie_on, uie_on, sqwe_on}

-- Locations: IRQF, and with it the line, is on where some flag is up whose enable is set too, and nowhere else.
unfoldable pub irqf : Regs → Bool
irqf r = (pie_on r.b && r.pf) || ((aie_on r.b && r.af) || (uie_on r.b && r.uf))

-- Divider and ticks, SQW: high exactly if SQWE is 1 and the divider's selected bit is.
unfoldable pub sqw : Regs → Bool
sqw r = sqwe_on r.b && wave (base_of r.a) (rate_of r.a) r.divider
