-- The record rules hold of a fresh chip, and every call leaves a chip that keeps them.
-- The laws of bits at their places stay: the library has none of a sum of places.
use mathlib.Core.Path.{◌≡◌, refl, sym, ◌∙◌}
use mathlib.Core.Bool.{Bool, true, false, cond}
use mathlib.Core.Logic.{◌⊎◌, inl, inr}
use Prim.Native.Nat.{ℕ, ◌+◌, ◌-◌, ◌*◌, ◌%◌, ◌≤◌, ◌<◌}
use native.Mathlib.Omega.{arith}
use lib.Dec.{leb, ltb}
use lib.ListN.{length, set, length-set, length-replicate}
use borrow.Author.Tests.{le-leb, lt-leb}
use Rattle.std.specs.Prelude.{Result, Ok, Err}
use Rattle.refusals.specs.declared.Refusal.{Refusal}
use Rattle.std.proofs.Math.Bool.{and-false}
use Rattle.std.proofs.lemmas.Bool.{cases_Bool}
use Rattle.cases.proofs.Tests.{leb_case}
use Rattle.registers.specs.declared.Regs.{Regs}
use Rattle.registers.specs.Bits.{dv_of, pie_on, aie_on, uie_on}
use Rattle.registers.specs.Lines.{irqf}
use Rattle.registers.specs.Locations.{register_c, register_bytes}
use Rattle.registers.specs.Access.{access, write_access}
use Rattle.registers.proofs.Laws.Bits.{placed_at_most}
use Rattle.registers.proofs.Laws.Sound.{Sound, fresh_is_sound, read_keeps_sound, pins_keep_sound, write_keeps_sound}
use Rattle.ticks.proofs.Laws.Sound.{ticks_keep_sound}
use Rattle.chip.specs.declared.Chip.{Chip}
use Rattle.chip.specs.Chips.{locations, location, fresh, written, ticks}
use Rattle.chip.specs.Calls.{read_by, read, write_by, write, run, pins, lines}
use Rattle.chip.specs.Rules.{Rules}
use Rattle.chip.proofs.Laws.Run.{ticks_work_on_registers}

-- ---- the registers as they are stored

uip_bit : (p : Bool) (a : ℕ) → leb 128 (cond p 128 0 + a % 128) ≡ p
uip_bit true a = le-leb 128 (128 + a % 128) (omega arith)
uip_bit false a = lt-leb 128 (0 + a % 128) (omega arith)

dv_stored : (p : Bool) (a : ℕ) → dv_of (cond p 128 0 + a % 128) ≡ dv_of a
dv_stored true a = omega arith
dv_stored false a = omega arith

sixteens : (t : Bool) (n : ℕ) → cond t (16 * n) 0 ≡ 16 * cond t n 0
sixteens true n = refl
sixteens false n = refl

c_low : (q p a u : Bool) → (cond q 128 0 + (cond p 64 0 + (cond a 32 0 + cond u 16 0))) % 16 ≡ 0
c_low q p a u = omega (arith, sixteens q 8, sixteens p 4, sixteens a 2, sixteens u 1)

d_low : (v : Bool) → cond v 128 0 % 128 ≡ 0
d_low true = refl
d_low false = refl

irqf_bit : (q p a u : Bool) → leb 128 (cond q 128 0 + (cond p 64 0 + (cond a 32 0 + cond u 16 0))) ≡ q
irqf_bit true p a u = le-leb 128 (128 + (cond p 64 0 + (cond a 32 0 + cond u 16 0))) (omega arith)
irqf_bit false p a u =
    lt-leb 128 (0 + (cond p 64 0 + (cond a 32 0 + cond u 16 0))) (omega (arith, placed_at_most p 64, placed_at_most a 32, placed_at_most u 16))

-- a bit at its place is 0 exactly where it is off
off : (t : Bool) (n : ℕ) → 0 < n → cond t n 0 ≡ 0 → t ≡ false
off true n h e = absurd (omega arith)
off false n h e = refl

no_flags_no_irqf : (r : Regs) → r.pf ≡ false → r.af ≡ false → r.uf ≡ false → register_c r ≡ 0
unfolding irqf
no_flags_no_irqf r p a u = rw (p, a, u, and-false (pie_on r.b), and-false (aie_on r.b), and-false (uie_on r.b))

-- ---- the rules and the registers

module _ (chip : Chip) where
  pub sound_keeps_rules : Sound chip.regs → length chip.ram ≡ 50 → Rules chip
  unfolding location locations register_bytes
  sound_keeps_rules s n =
      record {
        seconds_bit_7 = s.seconds;
        no_test_pattern = rw (dv_stored chip.regs.pending chip.regs.a) s.pattern;
        uip = uip_bit chip.regs.pending chip.regs.a;
        c_low_bits = c_low (irqf chip.regs) chip.regs.pf chip.regs.af chip.regs.uf;
        d_low_bits = d_low chip.regs.vrt;
        irqf_by_rule = irqf_bit (irqf chip.regs) chip.regs.pf chip.regs.af chip.regs.uf;
        vrt_while_ps_low = λ e. rw (s.vrt e);
        enables_while_reset_low = s.enables;
        flags_while_reset_low = λ e. no_flags_no_irqf chip.regs (s.pf e) (s.af e) (s.uf e);
        count = rw (dv_stored chip.regs.pending chip.regs.a) s.count;
        pending_set = s.set;
        pending_runs = rw (dv_stored chip.regs.pending chip.regs.a) s.runs;
        pending_before_end = rw (dv_stored chip.regs.pending chip.regs.a) s.before_the_end;
        a_below_uip = s.a;
        ram_size = n;
      }

  pub rules_are_sound : Rules chip → Sound chip.regs
  unfolding location locations register_bytes
  rules_are_sound k =
      record {
        seconds = k.seconds_bit_7;
        a = k.a_below_uip;
        pattern = rw (dv_stored chip.regs.pending chip.regs.a) at k.no_test_pattern;
        count = rw (dv_stored chip.regs.pending chip.regs.a) at k.count;
        vrt = λ e. off chip.regs.vrt 128 (omega arith) (k.vrt_while_ps_low e);
        enables = k.enables_while_reset_low;
        pf = λ e. off chip.regs.pf 64 (omega arith) (omega (arith, k.flags_while_reset_low e));
        af = λ e. off chip.regs.af 32 (omega arith) (omega (arith, k.flags_while_reset_low e));
        uf = λ e. off chip.regs.uf 16 (omega arith) (omega (arith, k.flags_while_reset_low e));
        set = k.pending_set;
        runs = rw (dv_stored chip.regs.pending chip.regs.a) at k.pending_runs;
        before_the_end = rw (dv_stored chip.regs.pending chip.regs.a) at k.pending_before_end;
      }

-- ---- every call

pub fresh_keeps_rules : Rules fresh
unfolding fresh
fresh_keeps_rules = sound_keeps_rules fresh fresh_is_sound (length-replicate {A = ℕ} 50 0)

-- other registers over the same RAM
same_ram : (chip : Chip) (r : Regs) → Rules chip → Sound r → Rules (record { regs = r; ram = chip.ram })
same_ram chip r k s = sound_keeps_rules (record { regs = r; ram = chip.ram }) s k.ram_size

pub read_keeps_rules : (chip : Chip) (address : ℕ) → Rules chip → Rules (read chip address).chip
unfolding read
read_keeps_rules chip address k = go (access chip.regs address)
  where
    go : (v : Result (Unit {0}) Refusal) → Rules (read_by v chip address).chip
    go (Ok _) = same_ram chip _ k (read_keeps_sound chip.regs address (rules_are_sound chip k))
    go (Err why) = k

written_keeps_rules : (chip : Chip) (address value : ℕ) → Rules chip → write_access chip.regs address value ≡ Ok tt → Rules (written chip address value)
unfolding written
written_keeps_rules chip address value k o = go (leb_case 14 address)
  where
    go : ((14 ≤ address) × (leb 14 address ≡ true)) ⊎ ((address < 14) × (leb 14 address ≡ false)) → Rules (written chip address value)
    go (inl t) =
        rw t.1
        (sound_keeps_rules (record { regs = chip.regs; ram = set chip.ram (address - 14) value }) (rules_are_sound chip k) (length-set chip.ram (address - 14) value ∙ k.ram_size))
    go (inr t) = rw t.1 (same_ram chip _ k (write_keeps_sound chip.regs address value o (rules_are_sound chip k)))

pub write_keeps_rules : (chip : Chip) (address value : ℕ) → Rules chip → Rules (write chip address value).chip
unfolding write
write_keeps_rules chip address value k = go (write_access chip.regs address value) refl
  where
    go : (v : Result (Unit {0}) Refusal) → write_access chip.regs address value ≡ v → Rules (write_by v chip address value).chip
    go (Ok _) e = written_keeps_rules chip address value k e
    go (Err why) e = k

pub ticks_keep_rules : (n : ℕ) (chip : Chip) → Rules chip → Rules (ticks n chip)
ticks_keep_rules n chip k = rw (ticks_work_on_registers n chip) (same_ram chip _ k (ticks_keep_sound n chip.regs (rules_are_sound chip k)))

pub run_keeps_rules : (chip : Chip) (n : ℕ) → Rules chip → Rules (run chip n).chip
unfolding run
run_keeps_rules chip n k = go (cases_Bool (ltb 65536 n))
  where
    go : (ltb 65536 n ≡ true) ⊎ (ltb 65536 n ≡ false) → Rules (run chip n).chip
    go (inl t) = rw t k
    go (inr t) = rw t (ticks_keep_rules n chip k)

pub pins_keep_rules : (chip : Chip) (reset ps : Bool) → Rules chip → Rules (pins chip reset ps)
unfolding pins
pins_keep_rules chip reset ps k = same_ram chip _ k (pins_keep_sound chip.regs reset ps (rules_are_sound chip k))

-- ---- the interrupt line

-- the line is asserted exactly while bit 7 of C reads 1
pub irq_is_bit_7_of_c : (chip : Chip) → (lines chip).irq ≡ leb 128 (location chip 12)
unfolding lines location locations register_bytes
irq_is_bit_7_of_c chip = sym (irqf_bit (irqf chip.regs) chip.regs.pf chip.regs.af chip.regs.uf)
