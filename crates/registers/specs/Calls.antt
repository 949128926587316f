-- What the calls leave in the registers.
use Rattle.std.specs.Prelude.{Bool, false, cond, ◌&&◌, ◌||◌, not, ℕ, ◌+◌, ◌*◌, ◌/◌, ◌%◌, eqb}
use Rattle.divider.specs.Divider as divider
use Rattle.registers.specs.declared.Regs.{Regs}
use Rattle.registers.specs.Bits.{dv_of, base_of, set_on}
use Rattle.registers.specs.With.{with_clock, with_alarm, with_a, with_b, with_flags, with_vrt, with_divider, with_pending, with_low}

-- Locations, fresh chip: A is hex 60 and B hex 80, the rest 0; both pins are high and nothing is pending.
unfoldable pub fresh : Regs
fresh =
    record {
      clock = record { seconds = 0; minutes = 0; hours = 0; weekday = 0; date = 0; month = 0; year = 0 };
      alarm = record { seconds = 0; minutes = 0; hours = 0 };
      a = 0x60;
      b = 0x80;
      pf = false;
      af = false;
      uf = false;
      vrt = false;
      divider = divider.fresh;
      pending = false;
      resetlow = false;
      pslow = false;
      used = false;
    }

-- Locations: a read of C clears all flags, whether enabled or not; a read of D sets VRT if PS is high. No other read changes anything.
unfoldable pub after_read : Regs → ℕ → Regs
after_read r address =
    with_vrt
    (with_flags r (r.pf && not (eqb address 12)) (r.af && not (eqb address 12)) (r.uf && not (eqb address 12)))
    (r.vrt || (eqb address 13 && not r.pslow))

-- Divider and ticks, house rule: with other DV bits than before, a write to A ends the wait for an update and puts the divider on its new base.
-- UIP is not written.
unfoldable pub write_a : Regs → ℕ → Regs
write_a r value =
    with_pending
    (with_divider (with_a r (value % 128))
    (cond (eqb (dv_of value) (dv_of r.a)) r.divider (divider.based (base_of value) r.divider)))
    (cond (eqb (dv_of value) (dv_of r.a)) r.pending false)

-- Locations: SET goes from 0 to 1.
abbrev pub set_rises : Regs → ℕ → Bool
set_rises r value = set_on value && not (set_on r.b)

-- Locations: a write to B stores the byte; where SET goes from 0 to 1, UIE is stored as 0 and a pending update dropped.
unfoldable pub write_b : Regs → ℕ → Regs
write_b r value =
    with_pending
    (with_b r (cond (set_rises r value) (value / 32 * 32 + value % 16) value))
    (cond (set_rises r value) false r.pending)

-- Locations: a clock or alarm location takes the byte, location 0 without its bit 7. Any other address leaves all as it is.
unfoldable pub write_plain : Regs → ℕ → ℕ → Regs
write_plain r address value =
    with_alarm
    (with_clock r
    (record {
      seconds = cond (eqb address 0) (value % 128) r.clock.seconds;
      minutes = cond (eqb address 2) value r.clock.minutes;
      hours = cond (eqb address 4) value r.clock.hours;
      weekday = cond (eqb address 6) value r.clock.weekday;
      date = cond (eqb address 7) value r.clock.date;
      month = cond (eqb address 8) value r.clock.month;
      year = cond (eqb address 9) value r.clock.year;
    }))
    (record {
      seconds = cond (eqb address 1) value r.alarm.seconds;
      minutes = cond (eqb address 3) value r.alarm.minutes;
      hours = cond (eqb address 5) value r.alarm.hours;
    })

-- Locations: a write to any address.
unfoldable pub written : Regs → ℕ → ℕ → Regs
written r address value = cond (eqb address 10) (write_a r value) (cond (eqb address 11) (write_b r value) (write_plain r address value))

-- Locations: a RESET that is low takes bits 6 to 3 out of B and puts every flag to 0; a PS that is low puts VRT to 0. The levels stay
-- until the next change.
unfoldable pub with_pins : Regs → Bool → Bool → Regs
with_pins r reset ps =
    with_low
    (with_vrt
    (with_flags
    (with_b r (cond reset r.b (r.b / 128 * 128 + r.b % 8)))
    (r.pf && reset)
    (r.af && reset)
    (r.uf && reset))
    (r.vrt && ps))
    (not reset)
    (not ps)
