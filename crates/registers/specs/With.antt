-- The registers with one part of them put anew, and all the rest as it was.
use Rattle.std.specs.Prelude.{Bool, ℕ}
use Rattle.calendar.specs.declared.Clock.{Clock}
use Rattle.calendar.specs.declared.Alarm.{Alarm}
use Rattle.divider.specs.declared.Divider.{Divider}
use Rattle.registers.specs.declared.Regs.{Regs}

-- Locations: other clock bytes.
abbrev pub with_clock : Regs → Clock → Regs
with_clock r clock = record r { clock = clock }

-- Locations: other alarm bytes.
abbrev pub with_alarm : Regs → Alarm → Regs
with_alarm r alarm = record r { alarm = alarm }

-- Locations: other DV and rate bits.
abbrev pub with_a : Regs → ℕ → Regs
with_a r a = record r { a = a }

-- Locations: another register B.
abbrev pub with_b : Regs → ℕ → Regs
with_b r b = record r { b = b }

-- Locations: other flags PF, AF and UF.
abbrev pub with_flags : Regs → Bool → Bool → Bool → Regs
with_flags r pf af uf = record r { pf = pf; af = af; uf = uf }

-- Locations: another VRT.
abbrev pub with_vrt : Regs → Bool → Regs
with_vrt r vrt = record r { vrt = vrt }

-- Divider and ticks: another count.
abbrev pub with_divider : Regs → Divider → Regs
with_divider r divider = record r { divider = divider }

-- Divider and ticks: an update pending or not.
abbrev pub with_pending : Regs → Bool → Regs
with_pending r pending = record r { pending = pending }

-- Locations: RESET low or not, and PS.
abbrev pub with_low : Regs → Bool → Bool → Regs
with_low r resetlow pslow = record r { resetlow = resetlow; pslow = pslow }

-- Advancing by one second, DSE: the repeat used or not.
abbrev pub with_used : Regs → Bool → Regs
with_used r used = record r { used = used }
