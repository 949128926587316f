-- The record of a chip, and the chip of a record: each gives the other back, and the rules of the one are the rules of the other.
use mathlib.Core.Path.{◌≡◌, sym, ap, ◌∙◌}
use mathlib.Core.Bool.{Bool}
use mathlib.Core.List.{List}
use Prim.Native.Nat.{ℕ, ◌+◌, ◌*◌, ◌<◌}
use native.Mathlib.Omega.{arith}
use lib.ListN.{length, get_or, take, drop, length-append, take-append-drop}
use lib.Seq.{take_at, take-add, get_or-append-add}
use Rattle.divider.specs.Divider.{count_of, keeps_count, before_end}
use Rattle.divider.proofs.Laws.Count.{count_of_of_count, of_count_count_of}
use Rattle.registers.specs.declared.Regs.{Regs}
use Rattle.registers.specs.Bits.{base_of}
use Rattle.registers.specs.Lines.{irqf}
use Rattle.registers.specs.Locations.{register_bytes}
use Rattle.chip.specs.declared.Chip.{Chip}
use Rattle.chip.specs.Chips.{locations, location}
use Rattle.chip.specs.Rules.{Rules}
use Rattle.chip.proofs.Laws.Locations.{fourteen_registers}
use Rattle.saved.specs.Record.{flags_of, tail_of, record_of, byte_at, divider_in, regs_in, chip_of}
use Rattle.saved.specs.Rules.{RecordRules}
use Rattle.saved.specs.Calls.{record_size}
use Rattle.saved.proofs.Laws.Bits.{flags_taken_out, c_taken_out, d_taken_out, a_taken_out, count_taken_out, flags_put_together, a_put_together, c_put_together, d_put_together, count_put_together}
use Rattle.saved.proofs.Laws.Parts.{take_is_table, drop_is_table}

-- ---- a chip's record

module _ (chip : Chip) (fifty : length chip.ram ≡ 50) where
  locations_are_64 : length (locations chip) ≡ 64
  unfolding locations
  locations_are_64 = simp length-append (omega (arith, fourteen_registers chip.regs))

  pub record_is_72_bytes : length (record_of chip) ≡ record_size
  unfolding record_of tail_of
  record_is_72_bytes = simp length-append (omega (arith, locations_are_64))

  tail_at : (k : ℕ) → byte_at (record_of chip) (64 + k) ≡ get_or (tail_of chip.regs) k 0
  unfolding record_of
  tail_at k = rw (← locations_are_64) (get_or-append-add (locations chip) (tail_of chip.regs) k 0)

  flags_at : byte_at (record_of chip) 67 ≡ flags_of chip.regs
  unfolding tail_of
  flags_at = tail_at 3

  divider_back : count_of chip.regs.divider < 16777216 → divider_in (record_of chip) ≡ chip.regs.divider
  unfolding divider_in tail_of
  divider_back h =
      rw (tail_at 0, tail_at 1, tail_at 2, count_taken_out (count_of chip.regs.divider) h) (of_count_count_of chip.regs.divider)

  ram_back : take 50 (drop 14 (record_of chip)) ≡ chip.ram
  unfolding record_of locations register_bytes
  ram_back = take_at chip.ram (tail_of chip.regs) 50 fifty

  regs_back : chip.regs.a < 128 → count_of chip.regs.divider < 16777216 → regs_in (record_of chip) ≡ chip.regs
  unfolding regs_in record_of locations register_bytes
  regs_back a n =
      let r = chip.regs in
      let c = c_taken_out r in
      let f = flags_taken_out r in
      rw (divider_back n, flags_at, a_taken_out r.pending r.a a, c.0, c.1, c.2, d_taken_out r.vrt, f.0, f.1, f.2, f.3)

  pub chip_back : chip.regs.a < 128 → count_of chip.regs.divider < 16777216 → chip_of (record_of chip) ≡ chip
  unfolding chip_of
  chip_back a n = rw (regs_back a n, ram_back)

-- ---- the rules of a chip that its record gives back

module _ (chip : Chip) (fifty : length chip.ram ≡ 50) (back : chip_of (record_of chip) ≡ chip) where
  regs : regs_in (record_of chip) ≡ chip.regs
  unfolding chip_of
  regs = ap (λ (c : Chip). c.regs) back

  divider : divider_in (record_of chip) ≡ chip.regs.divider
  unfolding regs_in
  divider = ap (λ (r : Regs). r.divider) regs

  bit : (f : Regs → Bool) → f (regs_in (record_of chip)) ≡ f chip.regs
  bit f = ap f regs

  pub record_keeps_rules : Rules chip → RecordRules (record_of chip)
  unfolding record_of location locations register_bytes regs_in tail_of
  record_keeps_rules r =
      let pending = bit (λ r. r.pending) in
      let reset = bit (λ r. r.resetlow) in
      let ps = bit (λ r. r.pslow) in
      record {
        seconds_bit_7 = r.seconds_bit_7;
        no_test_pattern = r.no_test_pattern;
        c_low_bits = r.c_low_bits;
        irqf_by_rule = r.irqf_by_rule ∙ sym (bit irqf);
        d_low_bits = r.d_low_bits;
        vrt_while_ps_low = λ h. r.vrt_while_ps_low (sym ps ∙ h);
        enables_while_reset_low = λ h. r.enables_while_reset_low (sym reset ∙ h);
        flags_while_reset_low = λ h. r.flags_while_reset_low (sym reset ∙ h);
        count = ap (keeps_count (base_of (location chip 10))) divider ∙ r.count;
        uip = r.uip ∙ sym pending;
        pending_set = λ h. r.pending_set (sym pending ∙ h);
        pending_runs = λ h. r.pending_runs (sym pending ∙ h);
        pending_before_end = λ h. ap (before_end (base_of (location chip 10))) divider ∙ r.pending_before_end (sym pending ∙ h);
        upper_bits = rw (flags_at chip fifty) (flags_taken_out chip.regs).4;
        spare_68 = tail_at chip fifty 4;
        spare_69 = tail_at chip fifty 5;
        spare_70 = tail_at chip fifty 6;
        spare_71 = tail_at chip fifty 7;
      }

  pub chip_keeps_rules : chip.regs.a < 128 → RecordRules (record_of chip) → Rules chip
  unfolding record_of location locations register_bytes regs_in
  chip_keeps_rules a r =
      let pending = bit (λ r. r.pending) in
      let reset = bit (λ r. r.resetlow) in
      let ps = bit (λ r. r.pslow) in
      record {
        seconds_bit_7 = r.seconds_bit_7;
        no_test_pattern = r.no_test_pattern;
        uip = r.uip ∙ pending;
        c_low_bits = r.c_low_bits;
        d_low_bits = r.d_low_bits;
        irqf_by_rule = r.irqf_by_rule ∙ bit irqf;
        vrt_while_ps_low = λ h. r.vrt_while_ps_low (ps ∙ h);
        enables_while_reset_low = λ h. r.enables_while_reset_low (reset ∙ h);
        flags_while_reset_low = λ h. r.flags_while_reset_low (reset ∙ h);
        count = sym (ap (keeps_count (base_of (location chip 10))) divider) ∙ r.count;
        pending_set = λ h. r.pending_set (pending ∙ h);
        pending_runs = λ h. r.pending_runs (pending ∙ h);
        pending_before_end = λ h. sym (ap (before_end (base_of (location chip 10))) divider) ∙ r.pending_before_end (pending ∙ h);
        a_below_uip = a;
        ram_size = fifty;
      }

-- ---- a record's chip

module _ (l : List ℕ) (size : length l ≡ record_size) (bytes : (k : ℕ) → byte_at l k < 256) (rules : RecordRules l) where
  registers_back : register_bytes (regs_in l) ≡ take 14 l
  unfolding register_bytes regs_in
  registers_back =
      rw (a_put_together (byte_at l 10) _ (bytes 10) rules.uip, c_put_together (byte_at l 12) _ (bytes 12) rules.c_low_bits rules.irqf_by_rule, d_put_together (byte_at l 13) (bytes 13) rules.d_low_bits)
      (sym (take_is_table 14 l (omega arith)))

  tail_back : tail_of (regs_in l) ≡ drop 64 l
  unfolding tail_of regs_in divider_in
  tail_back =
      let n = count_put_together (byte_at l 64) (byte_at l 65) (byte_at l 66) (bytes 64) (bytes 65) (bytes 66) in
      let t = drop_is_table 64 8 l size in
      rw (count_of_of_count (byte_at l 64 + (byte_at l 65 * 256 + byte_at l 66 * 65536)), n.0, n.1, n.2, flags_put_together (byte_at l 67) rules.upper_bits)
      (sym (rw (rules.spare_68, rules.spare_69, rules.spare_70, rules.spare_71) at t))

  pub record_back : record_of (chip_of l) ≡ l
  unfolding record_of locations chip_of
  record_back = rw (registers_back, tail_back, ← take-add 14 50 l) (take-append-drop 64 l)
