-- The record rules, as facts about a chip.
use Rattle.std.specs.Prelude.{◌≡◌, true, false, ◌%◌, ◌/◌, ◌<◌, leb, length}
use Rattle.divider.specs.Divider.{running, test_pattern, keeps_count, before_end}
use Rattle.registers.specs.Bits.{dv_of, base_of, set_on}
use Rattle.registers.specs.Lines.{irqf}
use Rattle.chip.specs.declared.Chip.{Chip}
use Rattle.chip.specs.Chips.{location}

-- Saved chip, record rules: what holds of every chip, of its locations as they are stored and of the rest of the record.
pub record Rules (chip : Chip) : Type 0 where
  -- bit 7 of location 0 is 0
  pub seconds_bit_7 : location chip 0 < 128
  -- DV is no test pattern
  pub no_test_pattern : test_pattern (dv_of (location chip 10)) ≡ false
  -- bit 7 of A equals the pending bit
  pub uip : leb 128 (location chip 10) ≡ chip.regs.pending
  -- the low bits of C and of D are 0
  pub c_low_bits : location chip 12 % 16 ≡ 0
  pub d_low_bits : location chip 13 % 128 ≡ 0
  -- IRQF is as its rule says
  pub irqf_by_rule : leb 128 (location chip 12) ≡ irqf chip.regs
  -- VRT is 0 while PS is low
  pub vrt_while_ps_low : chip.regs.pslow ≡ true → location chip 13 ≡ 0
  -- while RESET is low, bits 6 to 3 of B and the whole of C are 0
  pub enables_while_reset_low : chip.regs.resetlow ≡ true → location chip 11 / 8 % 16 ≡ 0
  pub flags_while_reset_low : chip.regs.resetlow ≡ true → location chip 12 ≡ 0
  -- the count is one that its base can have
  pub count : keeps_count (base_of (location chip 10)) chip.regs.divider ≡ true
  -- a pending update has SET 0, a running divider, and its end before it
  pub pending_set : chip.regs.pending ≡ true → set_on (location chip 11) ≡ false
  pub pending_runs : chip.regs.pending ≡ true → running (base_of (location chip 10)) ≡ true
  pub pending_before_end : chip.regs.pending ≡ true → before_end (base_of (location chip 10)) chip.regs.divider ≡ true
  -- the stored bits of A have no place for UIP, and the RAM has its 50 bytes
  pub a_below_uip : chip.regs.a < 128
  pub ram_size : length chip.ram ≡ 50
