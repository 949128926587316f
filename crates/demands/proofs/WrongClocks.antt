-- Four wrong clocks, each refuted by what is proved of ours: one that refuses everything, one that gives a fixed byte, one that does nothing,
-- and one that makes all its updates on the first tick. The chip that refutes the last two also shows that the premises of a chip that
-- keeps time can be met.
use mathlib.Core.Path.{◌≡◌, refl, sym, ap, ◌∙◌}
use mathlib.Core.Bool.{true, false, cond}
use mathlib.Core.List.{List, [], ◌∷◌}
use Prim.Native.Nat.{ℕ, ◌+◌, ◌-◌, ◌*◌, ◌/◌, ◌%◌, ◌<◌}
use native.Mathlib.Omega.{arith}
use lib.Dec.{leb}
use lib.ListN.{length, length-replicate}
use Rattle.std.proofs.lemmas.Bool.{false≢true}
use Rattle.refusals.specs.Numbers.{answer_number}
use Rattle.fields.specs.Modes.{mode_of}
use Rattle.calendar.specs.Days.{last_days, last_day_of}
use Rattle.times.specs.declared.Time.{Time}
use Rattle.times.specs.Days.{days_before_year, day_of}
use Rattle.times.specs.Times.{century, is_valid, time_of, later}
use Rattle.std.specs.Prelude.{Some}
use Rattle.divider.specs.declared.Base.TheVariants.{Slowest}
use Rattle.divider.specs.Divider as divider
use Rattle.divider.specs.Divider.{step_of, end_of, count_of, span}
use Rattle.divider.proofs.Laws.Keeps.{kept_gives_keeps_count, fresh_keeps}
use Rattle.registers.specs.Access.{access, write_access}
use Rattle.registers.specs.Locations.{register_bytes}
use Rattle.registers.specs.Calls as registers
use Rattle.registers.proofs.Laws.Sound.{Sound}
use Rattle.chip.specs.declared.Chip.{Chip}
use Rattle.chip.specs.Chips.{locations, location, fresh, written}
use Rattle.chip.specs.Calls.{read_byte, read, write, run}
use Rattle.chip.proofs.Laws.Rules.{sound_keeps_rules}
use Rattle.chip.proofs.Laws.Refusals.{read_refusals}
use Rattle.demands.specs.Events.{Event, runs, after_all, accepted_ticks, updates_after, updates, time_shown, seconds_shown, NoneSetsTheTime, KeepsTime}
use Rattle.demands.specs.Released.{released}
use Rattle.demands.proofs.Demand3.{time_is_kept}

-- ---- a chip that keeps time: the premises can be met

released_sound : Sound released.regs
unfolding released
released_sound =
    record {
      seconds = omega arith;
      a = omega arith;
      pattern = refl;
      count = kept_gives_keeps_count (Some Slowest) divider.fresh (fresh_keeps (Some Slowest));
      vrt = λ e. refl;
      enables = λ e. refl;
      pf = λ e. refl;
      af = λ e. refl;
      uf = λ e. refl;
      set = λ e. refl;
      runs = λ e. refl;
      before_the_end = λ e. absurd (false≢true e);
    }

released_ram : length released.ram ≡ 50
unfolding released
released_ram = length-replicate {A = ℕ} 50 0

pub released_keeps_time : KeepsTime released
unfolding released is_valid last_day_of last_days
released_keeps_time =
    record {
      rules = sound_keeps_rules released released_sound released_ram;
      valid_time = refl;
      divider_runs = refl;
      set_off = refl;
      daylight_saving_off = refl;
      nothing_pending = refl;
    }

starts_at_0 : seconds_shown released ≡ 0
unfolding released time_of day_of days_before_year last_days
starts_at_0 = refl

later_by : (k : ℕ) (t : Time) → (later k t).seconds ≡ (t.seconds + k) % century
unfolding later
later_by k t = refl

formula : (n : ℕ) → updates_after released n ≡ (2097152 + n * 128 - 9344) / 4194304
unfolding released step_of end_of count_of divider.fresh
formula n = refl

-- from the start on, half a second and what is left of it up to the update's end; then a second every 32,768 ticks
pub a_second_every_32768_ticks : (events : List Event) → NoneSetsTheTime events → seconds_shown (after_all events released) ≡ (accepted_ticks events + 16311) / 32768 % century
a_second_every_32768_ticks events h =
    ap (λ (t : Time). t.seconds) (time_is_kept released released_keeps_time events h).time
    ∙ later_by (updates released events) (time_shown released)
    ∙ rw (starts_at_0, formula (accepted_ticks events)) (omega arith)

shows : (n : ℕ) → leb n 65536 ≡ true → seconds_shown (run released n).chip ≡ (2097152 + n * 128 - 9344) / 4194304 % century
shows n small =
    let k = time_is_kept released released_keeps_time (runs n ∷ []) refl in
    let z : n + 0 ≡ n = omega arith in
    ap (λ (t : Time). t.seconds) k.time
    ∙ later_by (updates_after released (cond (leb n 65536) n 0 + 0)) (time_of (mode_of released.regs.b) released.regs.clock)
    ∙ rw (starts_at_0, small, z, formula n) (omega arith)

-- ---- what the fresh chip's RAM answers

holding : ℕ → Chip
holding value = record { regs = registers.fresh; ram = value ∷ [] }

reads_back : (value : ℕ) → read_byte (read (holding value) 14).answer ≡ value
unfolding holding read access registers.fresh location locations register_bytes
reads_back value = refl

writes_ram : (value : ℕ) → (write (holding 0) 14 value).chip ≡ holding value
unfolding holding write write_access access registers.fresh written
writes_ram value = refl

fresh_is_awake : fresh.regs.resetlow ≡ false
unfolding fresh registers.fresh
fresh_is_awake = refl

-- ---- the wrong clocks

-- a clock that refuses every call: our fresh chip lets its RAM be read
pub not_a_clock_that_refuses_everything : ((chip : Chip) (address : ℕ) → 0 < answer_number (read chip address).answer) → ⊥
not_a_clock_that_refuses_everything h = let z = h fresh 14 in omega (arith, rw (read_refusals fresh 14, fresh_is_awake) at z)

-- a clock that always gives the same byte: two RAM bytes of ours differ
pub not_a_clock_that_gives_a_fixed_byte : (byte : ℕ) → ((chip : Chip) (address : ℕ) → read_byte (read chip address).answer ≡ byte) → ⊥
not_a_clock_that_gives_a_fixed_byte byte h =
    let zero : 0 ≡ byte = sym (reads_back 0) ∙ h (holding 0) 14 in
    let one : 1 ≡ byte = sym (reads_back 1) ∙ h (holding 1) 14 in
    omega arith

-- a clock that does nothing: a write is kept, and time goes on
pub not_a_clock_that_ignores_writes : ((chip : Chip) (address value : ℕ) → read_byte (read (write chip address value).chip address).answer ≡ read_byte (read chip address).answer) → ⊥
not_a_clock_that_ignores_writes h =
    let e : ◌≡◌ {A = ℕ} 1 0 = sym (reads_back 1) ∙ ap (λ (c : Chip). read_byte (read c 14).answer) (sym (writes_ram 1)) ∙ h (holding 0) 14 1 ∙ reads_back 0 in
    omega arith

pub not_a_clock_that_stands_still : ((chip : Chip) (n : ℕ) → seconds_shown (run chip n).chip ≡ seconds_shown chip) → ⊥
not_a_clock_that_stands_still h =
    let e : ◌≡◌ {A = ℕ} 1 0 = sym (shows 16457 refl) ∙ h released 16457 ∙ starts_at_0 in
    omega arith

-- a clock that makes all updates of a run on its first tick: ours shows the first one at tick 16,457 and not before
pub not_a_clock_that_updates_on_the_first_tick : ((chip : Chip) (n : ℕ) → seconds_shown (run chip 1).chip ≡ seconds_shown (run chip n).chip) → ⊥
not_a_clock_that_updates_on_the_first_tick h =
    let e : ◌≡◌ {A = ℕ} 0 1 = sym (shows 1 refl) ∙ h released 16457 ∙ shows 16457 refl in
    omega arith

-- ---- tick by tick, the numbers of the plate-room examples

-- after release at 32.768 kHz, updates end with ticks 16,457 and 49,225 and not a tick before
pub updates_end_at_16457_and_49225 : (seconds_shown (run released 16456).chip ≡ 0) × (seconds_shown (run released 16457).chip ≡ 1)
    × (seconds_shown (run released 49224).chip ≡ 1) × (seconds_shown (run released 49225).chip ≡ 2)
updates_end_at_16457_and_49225 = (shows 16456 refl, shows 16457 refl, shows 49224 refl, shows 49225 refl)

-- what a released chip shows
pub ruleset shown = (released_keeps_time, a_second_every_32768_ticks, updates_end_at_16457_and_49225)

-- the wrong clocks
pub ruleset refuted = (not_a_clock_that_refuses_everything, not_a_clock_that_gives_a_fixed_byte, not_a_clock_that_ignores_writes, not_a_clock_that_stands_still, not_a_clock_that_updates_on_the_first_tick)
