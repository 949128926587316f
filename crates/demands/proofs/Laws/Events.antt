-- Every event that may happen leaves the registers on the divider's course, and the rules kept.
-- Stays: `bits_under_reset`, since no law of the library is of this mask.
use mathlib.Core.Path.{◌≡◌, ◌∙◌}
use mathlib.Core.Bool.{Bool, true, false, cond}
use mathlib.Core.Logic.{◌⊎◌, inl, inr}
use mathlib.Core.List.{List, [], ◌∷◌}
use Prim.Native.Nat.{ℕ, ◌+◌, ◌*◌, ◌/◌, ◌%◌, ◌≤◌, ◌<◌}
use native.Mathlib.Omega.{arith}
use lib.Dec.{eqb, leb}
use borrow.Author.Tests.{eqb-true, lt-ltb, le-ltb}
use Rattle.std.proofs.lemmas.Bool.{and_parts, cases_Bool}
use Rattle.cases.proofs.Tests.{leb_case}
use Rattle.std.specs.Prelude.{Option, Result, Ok, Err}
use Rattle.refusals.specs.declared.Refusal.{Refusal}
use Rattle.fields.specs.declared.Mode.{Mode}
use Rattle.fields.specs.Modes.{mode_of}
use Rattle.calendar.specs.declared.Clock.{Clock}
use Rattle.divider.specs.declared.Base.{Base}
use Rattle.divider.specs.Divider.{running}
use Rattle.divider.proofs.Laws.Formula as course
use Rattle.divider.proofs.Laws.Formula.{Course}
use Rattle.registers.specs.declared.Regs.{Regs}
use Rattle.registers.specs.Access.{access, write_access}
use Rattle.registers.specs.Calls.{after_read, write_plain, with_pins}
use Rattle.registers.specs.Calls as registers
use Rattle.chip.specs.declared.Chip.{Chip}
use Rattle.chip.specs.Chips.{written}
use Rattle.chip.specs.Calls.{read_by, read, write_by, write, run, pins}
use Rattle.chip.specs.Rules.{Rules}
use Rattle.chip.proofs.Laws.Run.{ticks_work_on_registers}
use Rattle.chip.proofs.Laws.Rules.{read_keeps_rules, write_keeps_rules, run_keeps_rules, pins_keep_rules}
use Rattle.demands.specs.Events.{Event, runs, reads, levels, writes, alarm_or_ram, may_happen, all_may_happen, after, after_all, ticks_of, accepted_ticks}
use Rattle.demands.proofs.Laws.Course.{Follows, ticks_follow}

-- ---- the rules

pub event_keeps_rules : (e : Event) (chip : Chip) → Rules chip → Rules (after e chip)
event_keeps_rules (runs n) chip k = run_keeps_rules chip n k
event_keeps_rules (reads address) chip k = read_keeps_rules chip address k
event_keeps_rules (levels reset ps) chip k = pins_keep_rules chip reset ps k
event_keeps_rules (writes address value) chip k = write_keeps_rules chip address value k

pub events_keep_rules : (es : List Event) (chip : Chip) → Rules chip → Rules (after_all es chip)
events_keep_rules [] chip k = k
events_keep_rules (e ∷ es) chip k = events_keep_rules es (after e chip) (event_keeps_rules e chip k)

-- ---- the course

-- RESET low takes the enables out of B; SET, the mode and DSE stay
mode_under_reset : (b : ℕ) → mode_of (b / 128 * 128 + b % 8) ≡ mode_of b
mode_under_reset b =
    let x : (b / 128 * 128 + b % 8) / 4 % 2 ≡ b / 4 % 2 = omega arith in
    let y : (b / 128 * 128 + b % 8) / 2 % 2 ≡ b / 2 % 2 = omega arith in
    rw (x, y)

bits_under_reset : (b : ℕ) → ((b / 128 * 128 + b % 8) / 128 % 2 ≡ b / 128 % 2) × ((b / 128 * 128 + b % 8) % 2 ≡ b % 2)
bits_under_reset b = (omega arith, omega arith)

module _ (base : Option Base) (m : Mode) (first : Clock) (c : Course) where
  read_follows : (r : Regs) (address : ℕ) → Follows base m first c r → Follows base m first c (after_read r address)
  unfolding after_read
  read_follows r address f =
      record { on_base = f.on_base; mode = f.mode; set_off = f.set_off; dse_off = f.dse_off; divider = f.divider; pending = f.pending; clock = f.clock }

  pins_follow : (r : Regs) (reset ps : Bool) → Follows base m first c r → Follows base m first c (with_pins r reset ps)
  unfolding with_pins
  pins_follow r true ps f =
      record { on_base = f.on_base; mode = f.mode; set_off = f.set_off; dse_off = f.dse_off; divider = f.divider; pending = f.pending; clock = f.clock }
  pins_follow r false ps f =
      let q = bits_under_reset r.b in
      record {
        on_base = f.on_base;
        mode = mode_under_reset r.b ∙ f.mode;
        set_off = rw q.0 f.set_off;
        dse_off = rw q.1 f.dse_off;
        divider = f.divider;
        pending = f.pending;
        clock = f.clock;
      }

  chip_pins_follow : (chip : Chip) (reset ps : Bool) → Follows base m first c chip.regs → Follows base m first c (pins chip reset ps).regs
  unfolding pins
  chip_pins_follow chip reset ps f = pins_follow chip.regs reset ps f

  alarm_follows : (r : Regs) (address value : ℕ) → (address ≡ 1) ⊎ ((address ≡ 3) ⊎ (address ≡ 5)) → Follows base m first c r → Follows base m first c (registers.written r address value)
  unfolding registers.written write_plain
  alarm_follows r address value (inl e) f =
      rw e (record { on_base = f.on_base; mode = f.mode; set_off = f.set_off; dse_off = f.dse_off; divider = f.divider; pending = f.pending; clock = f.clock })
  alarm_follows r address value (inr (inl e)) f =
      rw e (record { on_base = f.on_base; mode = f.mode; set_off = f.set_off; dse_off = f.dse_off; divider = f.divider; pending = f.pending; clock = f.clock })
  alarm_follows r address value (inr (inr e)) f =
      rw e (record { on_base = f.on_base; mode = f.mode; set_off = f.set_off; dse_off = f.dse_off; divider = f.divider; pending = f.pending; clock = f.clock })

  which_alarm : (address : ℕ) → alarm_or_ram address ≡ true → leb 14 address ≡ false → (address ≡ 1) ⊎ ((address ≡ 3) ⊎ (address ≡ 5))
  which_alarm address e l = go (cases_Bool (eqb address 1)) (cases_Bool (eqb address 3)) (cases_Bool (eqb address 5))
    where
      go : (eqb address 1 ≡ true) ⊎ (eqb address 1 ≡ false) → (eqb address 3 ≡ true) ⊎ (eqb address 3 ≡ false) → (eqb address 5 ≡ true) ⊎ (eqb address 5 ≡ false)
          → (address ≡ 1) ⊎ ((address ≡ 3) ⊎ (address ≡ 5))
      go (inl x) y z = inl (eqb-true address 1 x)
      go (inr x) (inl y) z = inr (inl (eqb-true address 3 y))
      go (inr x) (inr y) (inl z) = inr (inr (eqb-true address 5 z))
      go (inr x) (inr y) (inr z) = let q : false ≡ true = rw (x, y, z, l) at e in let n : ◌≡◌ {A = ℕ} 0 1 = cc in absurd (omega arith)

  written_follows : (chip : Chip) (address value : ℕ) → alarm_or_ram address ≡ true → Follows base m first c chip.regs → Follows base m first c (written chip address value).regs
  unfolding written
  written_follows chip address value e f = go (cases_Bool (leb 14 address))
    where
      go : (leb 14 address ≡ true) ⊎ (leb 14 address ≡ false) → Follows base m first c (written chip address value).regs
      go (inl l) = rw l f
      go (inr l) = rw l (alarm_follows chip.regs address value (which_alarm address e l) f)

  write_follows : (chip : Chip) (address value : ℕ) → alarm_or_ram address ≡ true → Follows base m first c chip.regs → Follows base m first c (write chip address value).chip.regs
  unfolding write
  write_follows chip address value e f = go (write_access chip.regs address value)
    where
      go : (v : Result (Unit {0}) Refusal) → Follows base m first c (write_by v chip address value).chip.regs
      go (Ok _) = written_follows chip address value e f
      go (Err why) = f

  accepted_read_follows : (chip : Chip) (address : ℕ) → Follows base m first c chip.regs → Follows base m first c (read chip address).chip.regs
  unfolding read
  accepted_read_follows chip address f = go (access chip.regs address)
    where
      go : (v : Result (Unit {0}) Refusal) → Follows base m first c (read_by v chip address).chip.regs
      go (Ok _) = read_follows chip.regs address f
      go (Err why) = f

module _ (base : Option Base) (m : Mode) (first : Clock) (c : Course) (on : running base ≡ true) where
  run_follows : (chip : Chip) (done n : ℕ) → Follows base m first (course.ticks base done c) chip.regs
      → Follows base m first (course.ticks base (cond (leb n 65536) n 0 + done) c) (run chip n).chip.regs
  unfolding run
  run_follows chip done n f = go (leb_case n 65536)
    where
      go : ((n ≤ 65536) × (leb n 65536 ≡ true)) ⊎ ((65536 < n) × (leb n 65536 ≡ false)) → Follows base m first (course.ticks base (cond (leb n 65536) n 0 + done) c) (run chip n).chip.regs
      go (inl t) = rw (t.1, le-ltb 65536 n t.0, ticks_work_on_registers n chip) (ticks_follow base m first c chip.regs done n on f)
      go (inr t) = let e : 0 + done ≡ done = omega arith in rw (t.1, lt-ltb 65536 n t.0, e) f

  event_follows : (e : Event) (chip : Chip) (done : ℕ) → may_happen e ≡ true → Follows base m first (course.ticks base done c) chip.regs
      → Follows base m first (course.ticks base (ticks_of e + done) c) (after e chip).regs
  event_follows (runs n) chip done h f = run_follows chip done n f
  event_follows (reads address) chip done h f = let e : 0 + done ≡ done = omega arith in rw e (accepted_read_follows base m first _ chip address f)
  event_follows (levels reset ps) chip done h f = let e : 0 + done ≡ done = omega arith in rw e (chip_pins_follow base m first _ chip reset ps f)
  event_follows (writes address value) chip done h f = let e : 0 + done ≡ done = omega arith in rw e (write_follows base m first _ chip address value h f)

  pub events_follow : (es : List Event) (chip : Chip) (done : ℕ) → all_may_happen es ≡ true → Follows base m first (course.ticks base done c) chip.regs
      → Follows base m first (course.ticks base (accepted_ticks es + done) c) (after_all es chip).regs
  events_follow [] chip done h f = let e : 0 + done ≡ done = omega arith in rw e f
  events_follow (e ∷ es) chip done h f =
      let q : ticks_of e + accepted_ticks es + done ≡ accepted_ticks es + (ticks_of e + done) = omega arith in
      rw q (events_follow es (after e chip) (ticks_of e + done) ((and_parts (may_happen e) _ h).1) (event_follows e chip done ((and_parts (may_happen e) _ h).0) f))
