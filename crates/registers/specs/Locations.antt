-- The bytes at locations 0 to 13.
use Rattle.std.specs.Prelude.{cond, List, [], ◌∷◌, ℕ, ◌+◌, ◌%◌}
use Rattle.registers.specs.declared.Regs.{Regs}
use Rattle.registers.specs.Lines.{irqf}

-- Locations: bit 7 of A is UIP, which is 1 exactly while an update is pending; below it are DV and rate.
abbrev pub register_a : Regs → ℕ
register_a r = cond r.pending 128 0 + r.a % 128

-- Locations: C is IRQF, PF, AF and UF, from bit 7 down.
abbrev pub register_c : Regs → ℕ
register_c r = cond (irqf r) 128 0 + (cond r.pf 64 0 + (cond r.af 32 0 + cond r.uf 16 0))

-- Locations: D has VRT in bit 7 and nothing else.
abbrev pub register_d : Regs → ℕ
register_d r = cond r.vrt 128 0

-- Locations: clock and alarm bytes, then A to D.
unfoldable pub register_bytes : Regs → List ℕ
register_bytes r =
    r.clock.seconds
    ∷ r.alarm.seconds
    ∷ r.clock.minutes
    ∷ r.alarm.minutes
    ∷ r.clock.hours
    ∷ r.alarm.hours
    ∷ r.clock.weekday
    ∷ r.clock.date
    ∷ r.clock.month
    ∷ r.clock.year
    ∷ register_a r
    ∷ r.b
    ∷ register_c r
    ∷ register_d r
    ∷ []
