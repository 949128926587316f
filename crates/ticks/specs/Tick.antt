-- One tick, in four steps: first the count, then PF, then whether an update waits, and last the update.
use Rattle.std.specs.Prelude.{false, cond, ◌&&◌, ◌||◌, not, ℕ, zero, suc}
use Rattle.fields.specs.Modes.{mode_of}
use Rattle.calendar.specs.declared.Updated.{Updated}
use Rattle.calendar.specs.Update.{update}
use Rattle.divider.specs.Divider.{running, moved, rose, at_zero, at_end}
use Rattle.registers.specs.declared.Regs.{Regs}
use Rattle.registers.specs.Bits.{base_of, rate_of, set_on, dse_on}
use Rattle.registers.specs.With.{with_clock, with_flags, with_divider, with_pending, with_used}

-- Divider and ticks: the count moves by the step of the base.
unfoldable pub counted : Regs → Regs
counted r = with_divider r (moved (base_of r.a) r.divider)

-- Divider and ticks, PF: set where the selected tap has just risen; but no flag rises while RESET is low.
unfoldable pub flagged : Regs → Regs
flagged r = with_flags r (r.pf || (rose (base_of r.a) (rate_of r.a) r.divider && not r.resetlow)) r.af r.uf

-- Divider and ticks: the count reaching 0 with SET 0 makes an update pending.
unfoldable pub awaiting : Regs → Regs
awaiting r = with_pending r (r.pending || (at_zero r.divider && not (set_on r.b)))

-- Divider and ticks: what the calendar makes of the clock, in the mode and with the daylight saving of register B.
abbrev pub new_time : Regs → Updated
new_time r = update (mode_of r.b) (dse_on r.b) r.used r.alarm r.clock

-- Divider and ticks: an update advances the clock, sets UF, and sets AF if the alarm matches the new time; it is then no
-- longer pending. While RESET is low the clock goes on and the flags stay.
unfoldable pub updated : Regs → Regs
updated r =
    with_pending
    (with_flags
    (with_used (with_clock r (new_time r).clock) (new_time r).used)
    r.pf
    (r.af || ((new_time r).matched && not r.resetlow))
    (r.uf || not r.resetlow))
    false

-- Divider and ticks: a pending update takes place where the count equals E.
unfoldable pub finished : Regs → Regs
finished r = cond (r.pending && at_end (base_of r.a) r.divider) (updated r) r

-- Divider and ticks: a whole tick. Where the divider is held, it does nothing.
unfoldable pub tick : Regs → Regs
tick r = cond (running (base_of r.a)) (finished (awaiting (flagged (counted r)))) r

-- Divider and ticks: n ticks.
unfoldable pub ticks : ℕ → Regs → Regs
ticks zero r = r
ticks (suc n) r = tick (ticks n r)
