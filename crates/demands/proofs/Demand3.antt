-- A chip that keeps time goes on keeping it, whatever events of the allowed kinds happen, and its user RAM keeps what it was given; and so
-- does the chip in the 72 bytes of a C host.
use mathlib.Core.Path.{◌≡◌, refl, sym, subst, ap, ◌∙◌}
use mathlib.Core.Bool.{Bool, true, false}
use lib.Dec.{eqb}
use mathlib.Core.List.{List, [], ◌∷◌}
use Prim.Native.Nat.{ℕ, ◌+◌, ◌/◌, ◌%◌, ◌≤◌, ◌<◌}
use native.Mathlib.Omega.{arith}
use Rattle.std.specs.Prelude.{Option, Result, Ok, Err}
use Rattle.refusals.specs.declared.Refusal.{Refusal}
use Rattle.refusals.specs.Numbers.{answer_number}
use Rattle.refusals.proofs.Laws.{number_is_1_to_10}
use Rattle.fields.specs.Modes.{mode_of}
use Rattle.times.specs.declared.Time.{Time}
use Rattle.times.specs.Times.{century, later, seconds_on}
use Rattle.times.proofs.Laws.Advance.{n_seconds_on}
use Rattle.divider.specs.declared.Base.{Base}
use Rattle.divider.proofs.Laws.Base.{running_is_base}
use Rattle.divider.proofs.Laws.Keeps.{keeps_count_gives_kept}
use Rattle.divider.proofs.Laws.Formula as course
use Rattle.divider.proofs.Laws.Formula.{Course, completed_updates_at_rest}
use Rattle.registers.specs.Bits.{base_of}
use Rattle.chip.specs.declared.Chip.{Chip}
use Rattle.chip.specs.Chips.{location}
use Rattle.chip.proofs.Laws.Rules.{rules_are_sound}
use Rattle.chip.specs.Calls.{read, write, run, pins}
use Rattle.chip.proofs.Laws.Refusals.{refused_read_changes_nothing, refused_write_changes_nothing, refused_run_changes_nothing}
use Rattle.chip.specs.Rules.{Rules}
use Rattle.saved.specs.Record.{record_of}
use Rattle.saved.specs.Calls.{load}
use Rattle.saved.proofs.Laws.Calls.{store_then_load, load_then_store, loaded_keeps_rules}
use Rattle.mc146818.specs.Calls as host
use Rattle.mc146818.specs.Calls.{bytes_after, stored}
use Rattle.demands.specs.Events.{Event, runs, reads, levels, writes, all_may_happen, after, after_all, accepted_ticks, updates_after, last_accepted, time_shown, seconds_shown, ShowsATime, NoneSetsTheTime, updates, midnights, KeepsTime, TimeWasKept}
use Rattle.demands.specs.Saving.{Holds}
use Rattle.demands.specs.HostEvents.{levels_word, host_after, host_after_all, AreBytes}
use Rattle.demands.proofs.Laws.Course.{Follows}
use Rattle.demands.proofs.Laws.Events.{events_follow, event_keeps_rules, events_keep_rules}
use Rattle.demands.proofs.Laws.Ram.{events_byte}

module _ (chip : Chip) (p : KeepsTime chip) where
  base : Option Base
  base = base_of chip.regs.a

  start : Course
  start = record { divider = chip.regs.divider; pending = chip.regs.pending; updates = 0 }

  begins : course.Start base start
  unfolding base start
  begins =
      record {
        kept = keeps_count_gives_kept _ _ (rules_are_sound chip p.rules).count;
        pending_before_end = λ e. absurd (let z : true ≡ false = sym e ∙ p.nothing_pending in let n : ◌≡◌ {A = ℕ} 0 1 = cc in omega arith);
        none_yet = refl;
      }

  at_first : Follows base (mode_of chip.regs.b) chip.regs.clock (course.ticks base 0 start) chip.regs
  unfolding base start course.ticks seconds_on
  at_first =
      record { on_base = refl; mode = refl; set_off = p.set_off; dse_off = p.daylight_saving_off; divider = refl; pending = refl; clock = refl }

  completed : (n : ℕ) → (course.ticks base n start).updates ≡ updates_after chip n
  unfolding base start
  completed n = completed_updates_at_rest base n start (running_is_base base p.divider_runs) begins p.nothing_pending

  pub time_is_kept : (events : List Event) → all_may_happen events ≡ true → TimeWasKept chip (after_all events chip) events
  unfolding base
  time_is_kept events h =
      let n = accepted_ticks events in
      let z : n + 0 ≡ n = omega arith in
      let f = events_follow base (mode_of chip.regs.b) chip.regs.clock start p.divider_runs events chip 0 h at_first in
      let c : (after_all events chip).regs.clock ≡ seconds_on (mode_of chip.regs.b) (updates_after chip n) chip.regs.clock
      = f.clock ∙ ap (λ (k : ℕ). seconds_on (mode_of chip.regs.b) k chip.regs.clock) (ap (λ (k : ℕ). (course.ticks base k start).updates) z ∙ completed n)
      in
      let t = n_seconds_on (mode_of chip.regs.b) (updates_after chip n) chip.regs.clock p.valid_time in
      record {
        same_mode = f.mode;
        valid_time = rw (f.mode, c) t.0;
        time = rw (f.mode, c) t.1;
        ram = λ address low high. events_byte address low high events chip p.rules;
      }

-- ---- what was kept, fact by fact

module _ (start : Chip) (events : List Event) (k : KeepsTime start) (h : NoneSetsTheTime events) where
  pub time_shown_is_later : time_shown (after_all events start) ≡ later (updates start events) (time_shown start)
  time_shown_is_later = (time_is_kept start k events h).time

  pub seconds_shown_are_more : seconds_shown (after_all events start) ≡ (seconds_shown start + updates start events) % century
  unfolding later
  seconds_shown_are_more = ap (λ (t : Time). t.seconds) time_shown_is_later

  pub weekday_shown_is_later : (time_shown (after_all events start)).weekday ≡ ((time_shown start).weekday + 6 + midnights start events) % 7 + 1
  unfolding later
  weekday_shown_is_later = ap (λ (t : Time). t.weekday) time_shown_is_later

  pub a_time_is_shown : ShowsATime (after_all events start)
  a_time_is_shown = (time_is_kept start k events h).valid_time

  pub mode_is_kept : mode_of (after_all events start).regs.b ≡ mode_of start.regs.b
  mode_is_kept = (time_is_kept start k events h).same_mode

  pub ram_is_kept : (address : ℕ) → 14 ≤ address → address < 64 → location (after_all events start) address ≡ last_accepted address (location start address) start events
  ram_is_kept = (time_is_kept start k events h).ram

-- ---- carried to the 72 bytes that a C host holds

reset_high_lem : (reset ps : Bool) → eqb (levels_word reset ps % 2) 1 ≡ reset
reset_high_lem true true = refl
reset_high_lem true false = refl
reset_high_lem false true = refl
reset_high_lem false false = refl

ps_high_lem : (reset ps : Bool) → eqb (levels_word reset ps / 2 % 2) 1 ≡ ps
ps_high_lem true true = refl
ps_high_lem true false = refl
ps_high_lem false true = refl
ps_high_lem false false = refl

-- a call that leaves the chip where it is refused leaves the bytes of its chip
stored_after : {A : Type 0} (answer : Result A Refusal) (c now : Chip) → (0 < answer_number answer → now ≡ c) → stored (record_of c) answer now ≡ record_of now
stored_after (Ok given) c now same = refl
stored_after (Err why) c now same = ap record_of (sym (same (omega (arith, number_is_1_to_10 why))))

-- a chip's own bytes load, and the call is made on that chip
on_its_bytes : {A : Type 0} (c : Chip) (ask : Chip → Result A Refusal) (next : Chip → Chip) → Rules c → (0 < answer_number (ask c) → next c ≡ c)
    → bytes_after (record_of c) (load (record_of c)) ask next ≡ record_of (next c)
on_its_bytes c ask next k same = ap (λ (r : Result Chip Refusal). bytes_after (record_of c) r ask next) (store_then_load c k) ∙ stored_after (ask c) c (next c) same

-- a host's call on a chip's bytes leaves the bytes of the chip that the call leaves
host_event : (e : Event) (c : Chip) → Rules c → host_after e (record_of c) ≡ record_of (after e c)
unfolding host.run host.read host.pins host.write
host_event (runs n) c k = on_its_bytes c (λ x. (run x n).answer) (λ x. (run x n).chip) k (refused_run_changes_nothing c n)
host_event (reads address) c k = on_its_bytes c (λ x. (read x address).answer) (λ x. (read x address).chip) k (refused_read_changes_nothing c address)
host_event (levels reset ps) c k =
    on_its_bytes c host.accepted (λ x. pins x (host.reset_high (levels_word reset ps)) (host.ps_high (levels_word reset ps))) k (λ h. absurd (omega arith))
    ∙ rw (reset_high_lem reset ps, ps_high_lem reset ps)
host_event (writes address value) c k =
    on_its_bytes c (λ x. (write x address value).answer) (λ x. (write x address value).chip) k (refused_write_changes_nothing c address value)

host_events : (es : List Event) (c : Chip) → Rules c → host_after_all es (record_of c) ≡ record_of (after_all es c)
host_events [] c k = refl
host_events (e ∷ es) c k = ap (host_after_all es) (host_event e c k) ∙ host_events es (after e c) (event_keeps_rules e c k)

-- bytes that load go on loading, as the chip that the same events leave
pub bytes_follow_the_chip : (bytes : List ℕ) (chip : Chip) (events : List Event) → AreBytes bytes → load bytes ≡ Ok chip
    → load (host_after_all events bytes) ≡ Ok (after_all events chip)
bytes_follow_the_chip bytes chip events small loaded =
    let k = loaded_keeps_rules bytes small chip loaded in
    ap (λ (l : List ℕ). load (host_after_all events l)) (sym (load_then_store bytes small chip loaded))
    ∙ ap load (host_events events chip k)
    ∙ store_then_load (after_all events chip) (events_keep_rules events chip k)

-- from bytes that load, the bytes after the calls load too, and the chip in them has kept the time
pub time_is_kept_in_the_record : (bytes : List ℕ) (chip : Chip) → AreBytes bytes → load bytes ≡ Ok chip → KeepsTime chip
    → (events : List Event) → all_may_happen events ≡ true
    → (load (host_after_all events bytes) ≡ Ok (after_all events chip)) × TimeWasKept chip (after_all events chip) events
time_is_kept_in_the_record bytes chip small loaded p events h = (bytes_follow_the_chip bytes chip events small loaded, time_is_kept chip p events h)

-- whatever chip is in the bytes then
pub time_is_kept_in_the_bytes : (bytes : List ℕ) (start now : Chip) (events : List Event) → AreBytes bytes → Holds bytes start → KeepsTime start → NoneSetsTheTime events
    → Holds (host_after_all events bytes) now → TimeWasKept start now events
time_is_kept_in_the_bytes bytes start now events small loaded k h then_loaded =
    let t = time_is_kept_in_the_record bytes start small loaded k events h in
    let e : ◌≡◌ {A = Result Chip Refusal} (Ok (after_all events start)) (Ok now) = sym t.0 ∙ then_loaded in
    let same : after_all events start ≡ now = cc in
    subst (λ (c : Chip). TimeWasKept start c events) same t.1

-- time and RAM are kept
pub ruleset kept = (time_shown_is_later, seconds_shown_are_more, weekday_shown_is_later, a_time_is_shown, mode_is_kept, ram_is_kept)
