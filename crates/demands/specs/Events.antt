-- A chip that keeps time: what may happen to it, what it shows, and what it then has kept.
use Rattle.std.specs.Prelude.{◌≡◌, Bool, true, false, cond, ◌&&◌, ◌||◌, List, [], ◌∷◌, ℕ, ◌+◌, ◌-◌, ◌*◌, ◌/◌, ◌≤◌, ◌<◌, eqb, leb}
use Rattle.refusals.specs.Numbers.{answer_number}
use Rattle.fields.specs.Modes.{mode_of}
use Rattle.times.specs.declared.Time.{Time}
use Rattle.times.specs.Times.{is_valid, time_of, later}
use Rattle.divider.specs.Divider.{running, step_of, end_of, span, count_of}
use Rattle.registers.specs.Bits.{base_of, set_on, dse_on}
use Rattle.chip.specs.declared.Chip.{Chip}
use Rattle.chip.specs.Chips.{location}
use Rattle.chip.specs.Calls.{read, write, run, pins}
use Rattle.chip.specs.Rules.{Rules}

-- ---- what may happen

-- Calls and their refusals: a run of ticks, a read, new levels of RESET and PS (true is high), or a write.
pub data Event : Type 0 where
  runs : ℕ → Event
  reads : ℕ → Event
  levels : Bool → Bool → Event
  writes : ℕ → ℕ → Event

-- Locations: 1, 3 and 5 are the alarm, 14 to 63 the user RAM. An address above them is refused, and may be tried.
abbrev pub alarm_or_ram : ℕ → Bool
alarm_or_ram address = eqb address 1 || (eqb address 3 || (eqb address 5 || leb 14 address))

-- A chip that keeps time: the writes among the events go to the alarm or to user RAM. All other events are free.
abbrev pub may_happen : Event → Bool
may_happen (runs n) = true
may_happen (reads address) = true
may_happen (levels reset ps) = true
may_happen (writes address value) = alarm_or_ram address

-- A chip that keeps time: any list of such events.
abbrev pub all_may_happen : List Event → Bool
all_may_happen [] = true
all_may_happen (e ∷ es) = may_happen e && all_may_happen es

-- Calls and their refusals: what an event leaves, accepted or refused.
abbrev pub after : Event → Chip → Chip
after (runs n) chip = (run chip n).chip
after (reads address) chip = (read chip address).chip
after (levels reset ps) chip = pins chip reset ps
after (writes address value) chip = (write chip address value).chip

-- Calls and their refusals: and a list of events, one after the other.
abbrev pub after_all : List Event → Chip → Chip
after_all [] chip = chip
after_all (e ∷ es) chip = after_all es (after e chip)

-- ---- what is counted

-- Calls and their refusals: the ticks of an event: those of a run that is accepted, which is one of up to 65,536.
abbrev pub ticks_of : Event → ℕ
ticks_of (runs n) = cond (leb n 65536) n 0
ticks_of (reads address) = 0
ticks_of (levels reset ps) = 0
ticks_of (writes address value) = 0

-- Divider and ticks, tick formula: the accepted ticks in all.
abbrev pub accepted_ticks : List Event → ℕ
accepted_ticks [] = 0
accepted_ticks (e ∷ es) = ticks_of e + accepted_ticks es

-- Divider and ticks, tick formula: the updates that n ticks complete, from the count at the start; none where that is negative.
abbrev pub updates_after : Chip → ℕ → ℕ
updates_after chip n =
    (count_of chip.regs.divider + n * step_of (base_of chip.regs.a) - end_of (base_of chip.regs.a)) / span

-- Locations: the byte at a user RAM location after an event: the one written, where the event is an accepted write there.
abbrev pub kept_byte : ℕ → ℕ → Chip → Event → ℕ
kept_byte address byte chip (runs n) = byte
kept_byte address byte chip (reads a) = byte
kept_byte address byte chip (levels reset ps) = byte
kept_byte address byte chip (writes a value) = cond (eqb a address && eqb (answer_number (write chip a value).answer) 0) value byte

-- Locations: that byte after all events, from the one at the start on.
abbrev pub last_accepted : ℕ → ℕ → Chip → List Event → ℕ
last_accepted address byte chip [] = byte
last_accepted address byte chip (e ∷ es) = last_accepted address (kept_byte address byte chip e) (after e chip) es

-- ---- what it shows

-- Advancing by one second, a valid time: the time that the clock's bytes tell in the chip's own mode.
abbrev pub time_shown : Chip → Time
time_shown chip = time_of (mode_of chip.regs.b) chip.regs.clock

-- Advancing by one second, a valid time: its seconds, from the first midnight of year 00 on.
abbrev pub seconds_shown : Chip → ℕ
seconds_shown chip = (time_shown chip).seconds

-- Advancing by one second, a valid time: and whether they tell one.
abbrev pub ShowsATime : Chip → Type 0
ShowsATime chip = is_valid (mode_of chip.regs.b) chip.regs.clock ≡ true

-- A chip that keeps time: any list of events that may happen.
abbrev pub NoneSetsTheTime : List Event → Type 0
NoneSetsTheTime events = all_may_happen events ≡ true

-- Divider and ticks, tick formula: the updates that the events complete.
abbrev pub updates : Chip → List Event → ℕ
updates start events = updates_after start (accepted_ticks events)

-- Advancing by one second: the midnights that are passed in them.
abbrev pub midnights : Chip → List Event → ℕ
midnights start events = (seconds_shown start + updates start events) / 86400 - seconds_shown start / 86400

-- ---- what is asked, and what is kept

-- A chip that keeps time, premises: what is asked of the chip at the start. Every chip keeps the rules; the other five say that it is set up to tell the time.
pub record KeepsTime (chip : Chip) : Type 0 where
  pub rules : Rules chip
  pub valid_time : is_valid (mode_of chip.regs.b) chip.regs.clock ≡ true
  pub divider_runs : running (base_of chip.regs.a) ≡ true
  pub set_off : set_on chip.regs.b ≡ false
  pub daylight_saving_off : dse_on chip.regs.b ≡ false
  pub nothing_pending : chip.regs.pending ≡ false

-- A chip that keeps time, promise: of the chip `now` after events on the chip `start`.
pub record TimeWasKept (start now : Chip) (events : List Event) : Type 0 where
  -- the mode is the same, and the clock bytes are a valid time in it
  pub same_mode : mode_of now.regs.b ≡ mode_of start.regs.b
  pub valid_time : is_valid (mode_of now.regs.b) now.regs.clock ≡ true
  -- it tells the time that it told at first, as many seconds later as the formula counts updates: `later` says what becomes of seconds and weekday
  pub time : time_of (mode_of now.regs.b) now.regs.clock ≡ later (updates_after start (accepted_ticks events)) (time_of (mode_of start.regs.b) start.regs.clock)
  -- a user RAM location has the byte of the last write that was accepted there, and its first byte where there was none
  pub ram : (address : ℕ) → 14 ≤ address → address < 64 → location now address ≡ last_accepted address (location start address) start events
