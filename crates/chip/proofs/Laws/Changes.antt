-- What the calls change, and what they leave alone.
use mathlib.Core.Path.{◌≡◌, refl, sym, ap}
use mathlib.Core.Bool.{Bool, true, false, ◌||◌, not}
use mathlib.Core.Logic.{◌⊎◌, inl, inr}
use Prim.Native.Nat.{ℕ, ◌≤◌, ◌<◌}
use lib.Dec.{ltb}
use lib.ListN.{length, set}
use lib.Seq.{get_or-set_same, get_or-set_other}
use borrow.Author.Tests.{le-leb, ne_eqb}
use Rattle.std.proofs.lemmas.List.{set-append_right}
use Rattle.std.specs.Prelude.{Result, Ok, Err}
use Rattle.refusals.specs.declared.Refusal.{Refusal}
use Rattle.std.proofs.Math.Bool.{and-false, and-true, or-false}
use Rattle.std.proofs.lemmas.Bool.{cases_Bool}
use Rattle.refusals.specs.Numbers.{answer_number}
use Rattle.refusals.proofs.Laws.{refusal_has_number}
use Rattle.registers.specs.declared.Regs.{Regs}
use Rattle.registers.specs.Locations.{register_bytes}
use Rattle.registers.specs.Lines.{irqf}
use Rattle.registers.specs.Access.{access, write_access}
use Rattle.registers.specs.With.{with_flags, with_vrt}
use Rattle.registers.specs.Calls.{after_read, write_plain}
use Rattle.registers.specs.Calls as registers
use Rattle.chip.specs.declared.Chip.{Chip}
use Rattle.chip.specs.Chips.{locations, location, written}
use Rattle.chip.specs.Calls.{read_by, read, write_by, write, run, pins}
use Rattle.chip.proofs.Laws.Run.{ticks_work_on_registers}
use Rattle.chip.proofs.Laws.Locations.{fourteen_registers}

-- ---- reads

other_read : (r : Regs) (address : ℕ) → (address ≡ 12 → ⊥) → (address ≡ 13 → ⊥) → after_read r address ≡ r
unfolding after_read
other_read r address h k = rw (ne_eqb address 12 h, ne_eqb address 13 k, and-true r.pf, and-true r.af, and-true r.uf, or-false r.vrt)

-- only C and D are changed by being read
pub read_elsewhere_changes_nothing : (chip : Chip) (address : ℕ) → (address ≡ 12 → ⊥) → (address ≡ 13 → ⊥) → (read chip address).chip ≡ chip
unfolding read
read_elsewhere_changes_nothing chip address h k = go (access chip.regs address)
  where
    go : (v : Result (Unit {0}) Refusal) → (read_by v chip address).chip ≡ chip
    go (Ok _) = ap (λ (r : Regs). record { regs = r; ram = chip.ram }) (other_read chip.regs address h k)
    go (Err why) = refl

-- reading C clears the three flags and nothing else
pub read_of_c_clears_flags_alone : (chip : Chip) → access chip.regs 12 ≡ Ok tt
    → (read chip 12).chip
    ≡ record { regs = with_flags chip.regs false false false; ram = chip.ram }
unfolding read after_read
read_of_c_clears_flags_alone chip o = rw (o, and-false chip.regs.pf, and-false chip.regs.af, and-false chip.regs.uf, or-false chip.regs.vrt)

-- reading D sets VRT where PS is high and nothing else
pub read_of_d_sets_vrt_alone : (chip : Chip) → access chip.regs 13 ≡ Ok tt
    → (read chip 13).chip
    ≡ record { regs = with_vrt chip.regs (chip.regs.vrt || not chip.regs.pslow); ram = chip.ram }
unfolding read after_read
read_of_d_sets_vrt_alone chip o = rw (o, and-true chip.regs.pf, and-true chip.regs.af, and-true chip.regs.uf)

-- ---- writes

-- what a chip has beside its 64 locations
pub record SameBeside (chip other : Chip) : Type 0 where
  pub divider : other.regs.divider ≡ chip.regs.divider
  pub pending : other.regs.pending ≡ chip.regs.pending
  pub resetlow : other.regs.resetlow ≡ chip.regs.resetlow
  pub pslow : other.regs.pslow ≡ chip.regs.pslow
  pub used : other.regs.used ≡ chip.regs.used

pub data AlarmOrRam (address : ℕ) : Type 0 where
  alarm_seconds : address ≡ 1 → AlarmOrRam address
  alarm_minutes : address ≡ 3 → AlarmOrRam address
  alarm_hours : address ≡ 5 → AlarmOrRam address
  ram : 14 ≤ address → AlarmOrRam address

alarm_written : (chip : Chip) (address value : ℕ) → (address ≡ 1) ⊎ ((address ≡ 3) ⊎ (address ≡ 5))
    → (locations (written chip address value) ≡ set (locations chip) address value) × SameBeside chip (written chip address value)
unfolding locations written registers.written write_plain register_bytes irqf
alarm_written chip address value (inl e) = rw e (refl, record { divider = refl; pending = refl; resetlow = refl; pslow = refl; used = refl })
alarm_written chip address value (inr (inl e)) = rw e (refl, record { divider = refl; pending = refl; resetlow = refl; pslow = refl; used = refl })
alarm_written chip address value (inr (inr e)) = rw e (refl, record { divider = refl; pending = refl; resetlow = refl; pslow = refl; used = refl })

ram_written : (chip : Chip) (address value : ℕ) → 14 ≤ address
    → (locations (written chip address value) ≡ set (locations chip) address value) × SameBeside chip (written chip address value)
unfolding locations written
ram_written chip address value h =
    let q = sym (set-append_right (register_bytes chip.regs) chip.ram 14 address value (fourteen_registers chip.regs) h) in
    rw (le-leb 14 address h) (q, record { divider = refl; pending = refl; resetlow = refl; pslow = refl; used = refl })

-- an accepted write to an alarm or RAM location changes that byte alone
pub write_changes_that_byte_alone : (chip : Chip) (address value : ℕ) → AlarmOrRam address → answer_number (write chip address value).answer ≡ 0
    → (locations (write chip address value).chip ≡ set (locations chip) address value) × SameBeside chip (write chip address value).chip
unfolding write
write_changes_that_byte_alone chip address value at e = go (write_access chip.regs address value) e
  where
    plain_written : AlarmOrRam address → (locations (written chip address value) ≡ set (locations chip) address value) × SameBeside chip (written chip address value)
    plain_written (alarm_seconds q) = alarm_written chip address value (inl q)
    plain_written (alarm_minutes q) = alarm_written chip address value (inr (inl q))
    plain_written (alarm_hours q) = alarm_written chip address value (inr (inr q))
    plain_written (ram h) = ram_written chip address value h

    go : (v : Result (Unit {0}) Refusal) → answer_number (write_by v chip address value).answer ≡ 0
        → (locations (write_by v chip address value).chip ≡ set (locations chip) address value) × SameBeside chip (write_by v chip address value).chip
    go (Ok _) e = plain_written at
    go (Err why) e = absurd (refusal_has_number why e)

-- user RAM reads back what was last written, and no other byte of it moves
pub ram_reads_back : (chip : Chip) (address other value : ℕ) → 14 ≤ address → address < length (locations chip) → answer_number (write chip address value).answer ≡ 0
    → (location (write chip address value).chip address ≡ value) × ((other ≡ address → ⊥) → location (write chip address value).chip other ≡ location chip other)
unfolding location
ram_reads_back chip address other value h l e =
    let w = (write_changes_that_byte_alone chip address value (ram h) e).0 in
    rw w (get_or-set_same (locations chip) address value 0 l, λ q. get_or-set_other (locations chip) address other value 0 q)

-- reads, pins and ticks leave the RAM
pub read_leaves_ram : (chip : Chip) (address : ℕ) → (read chip address).chip.ram ≡ chip.ram
unfolding read
read_leaves_ram chip address = go (access chip.regs address)
  where
    go : (v : Result (Unit {0}) Refusal) → (read_by v chip address).chip.ram ≡ chip.ram
    go (Ok _) = refl
    go (Err why) = refl

pub run_leaves_ram : (chip : Chip) (n : ℕ) → (run chip n).chip.ram ≡ chip.ram
unfolding run
run_leaves_ram chip n = go (cases_Bool (ltb 65536 n))
  where
    go : (ltb 65536 n ≡ true) ⊎ (ltb 65536 n ≡ false) → (run chip n).chip.ram ≡ chip.ram
    go (inl t) = rw t
    go (inr t) = rw (t, ticks_work_on_registers n chip)

pub pins_leave_ram : (chip : Chip) (reset ps : Bool) → (pins chip reset ps).ram ≡ chip.ram
unfolding pins
pins_leave_ram chip reset ps = refl
