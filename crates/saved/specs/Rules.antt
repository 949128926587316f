-- The record rules, on the 72 bytes: each as a test, in the order of their places in the record, and all of them as facts.
use Rattle.std.specs.Prelude.{◌≡◌, Bool, true, false, ◌&&◌, ◌||◌, not, List, ℕ, ◌/◌, ◌%◌, ◌<◌, eqb, leb, ltb}
use Rattle.std.specs.Bool.{beq}
use Rattle.divider.specs.Divider.{test_pattern, running, keeps_count, before_end}
use Rattle.registers.specs.Bits.{dv_of, base_of, set_on}
use Rattle.registers.specs.Lines.{irqf}
use Rattle.saved.specs.Record.{byte_at, pending_in, reset_low_in, ps_low_in, divider_in, regs_in}

-- ---- the tests

-- Saved chip, record rules: bit 7 of location 0 is 0.
abbrev pub seconds_bit_7_rule : List ℕ → Bool
seconds_bit_7_rule l = ltb (byte_at l 0) 128

-- Saved chip, record rules: the DV bits of A are no test pattern.
abbrev pub no_test_pattern_rule : List ℕ → Bool
no_test_pattern_rule l = not (test_pattern (dv_of (byte_at l 10)))

-- Saved chip, record rules: bits 0 to 3 of C are 0.
abbrev pub c_low_bits_rule : List ℕ → Bool
c_low_bits_rule l = eqb (byte_at l 12 % 16) 0

-- Saved chip, record rules: bit 7 of C is IRQF as its rule gives it.
abbrev pub irqf_rule : List ℕ → Bool
irqf_rule l = beq (leb 128 (byte_at l 12)) (irqf (regs_in l))

-- Saved chip, record rules: bits 0 to 6 of D are 0.
abbrev pub d_low_bits_rule : List ℕ → Bool
d_low_bits_rule l = eqb (byte_at l 13 % 128) 0

-- Saved chip, record rules: with PS low, VRT, all that D can have, is 0.
abbrev pub vrt_while_ps_low_rule : List ℕ → Bool
vrt_while_ps_low_rule l = not (ps_low_in l) || eqb (byte_at l 13) 0

-- Saved chip, record rules: with RESET low PIE, AIE, UIE and SQWE are 0, bits 6 to 3 of B.
abbrev pub enables_while_reset_low_rule : List ℕ → Bool
enables_while_reset_low_rule l = not (reset_low_in l) || eqb (byte_at l 11 / 8 % 16) 0

-- Saved chip, record rules: with RESET low all flags are 0, and so all of C.
abbrev pub flags_while_reset_low_rule : List ℕ → Bool
flags_while_reset_low_rule l = not (reset_low_in l) || eqb (byte_at l 12) 0

-- Saved chip, record rules: the count is one that its base can have.
abbrev pub count_by_base_rule : List ℕ → Bool
count_by_base_rule l = keeps_count (base_of (byte_at l 10)) (divider_in l)

-- Saved chip, record rules: bit 7 of A is the pending bit.
abbrev pub uip_is_pending_rule : List ℕ → Bool
uip_is_pending_rule l = beq (leb 128 (byte_at l 10)) (pending_in l)

-- Saved chip, record rules: a pending update needs SET 0.
abbrev pub pending_set_rule : List ℕ → Bool
pending_set_rule l = not (pending_in l) || not (set_on (byte_at l 11))

-- Saved chip, record rules: and a divider that runs.
abbrev pub pending_runs_rule : List ℕ → Bool
pending_runs_rule l = not (pending_in l) || running (base_of (byte_at l 10))

-- Saved chip, record rules: and a count below E.
abbrev pub pending_before_end_rule : List ℕ → Bool
pending_before_end_rule l = not (pending_in l) || before_end (base_of (byte_at l 10)) (divider_in l)

-- Saved chip, record rules: bits 4 to 7 of byte 67 are 0.
abbrev pub upper_bits_rule : List ℕ → Bool
upper_bits_rule l = ltb (byte_at l 67) 16

-- Saved chip, record rules: a spare byte, which is 0. There are four, 68 to 71.
abbrev pub spare_byte_rule : List ℕ → ℕ → Bool
spare_byte_rule l k = eqb (byte_at l k) 0

-- Saved chip, record rules: all that concerns C by itself.
abbrev pub keeps_c : List ℕ → Bool
keeps_c l = c_low_bits_rule l && irqf_rule l

-- Saved chip, record rules: all that concerns D.
abbrev pub keeps_d : List ℕ → Bool
keeps_d l = d_low_bits_rule l && vrt_while_ps_low_rule l

-- Saved chip, record rules: what RESET low asks.
abbrev pub keeps_reset : List ℕ → Bool
keeps_reset l = enables_while_reset_low_rule l && flags_while_reset_low_rule l

-- Saved chip, record rules: what hangs on the pending bit.
abbrev pub keeps_pending : List ℕ → Bool
keeps_pending l = uip_is_pending_rule l && (pending_set_rule l && (pending_runs_rule l && pending_before_end_rule l))

-- Saved chip, record rules: the bits and bytes that mean nothing.
abbrev pub keeps_spare : List ℕ → Bool
keeps_spare l = upper_bits_rule l && (spare_byte_rule l 68 && (spare_byte_rule l 69 && (spare_byte_rule l 70 && spare_byte_rule l 71)))

-- Saved chip, record rules: all of them, location by location, then the divider, what hangs on pending, and the rest.
unfoldable pub keeps_rules : List ℕ → Bool
keeps_rules l =
    seconds_bit_7_rule l
    && (no_test_pattern_rule l
    && (keeps_c l
    && (keeps_d l
    && (keeps_reset l
    && (count_by_base_rule l
    && (keeps_pending l
    && keeps_spare l))))))

-- ---- the facts

-- Saved chip, record rules: what the tests tell, in their order.
pub record RecordRules (l : List ℕ) : Type 0 where
  pub seconds_bit_7 : byte_at l 0 < 128
  pub no_test_pattern : test_pattern (dv_of (byte_at l 10)) ≡ false
  pub c_low_bits : byte_at l 12 % 16 ≡ 0
  pub irqf_by_rule : leb 128 (byte_at l 12) ≡ irqf (regs_in l)
  pub d_low_bits : byte_at l 13 % 128 ≡ 0
  pub vrt_while_ps_low : ps_low_in l ≡ true → byte_at l 13 ≡ 0
  pub enables_while_reset_low : reset_low_in l ≡ true → byte_at l 11 / 8 % 16 ≡ 0
  pub flags_while_reset_low : reset_low_in l ≡ true → byte_at l 12 ≡ 0
  pub count : keeps_count (base_of (byte_at l 10)) (divider_in l) ≡ true
  pub uip : leb 128 (byte_at l 10) ≡ pending_in l
  pub pending_set : pending_in l ≡ true → set_on (byte_at l 11) ≡ false
  pub pending_runs : pending_in l ≡ true → running (base_of (byte_at l 10)) ≡ true
  pub pending_before_end : pending_in l ≡ true → before_end (base_of (byte_at l 10)) (divider_in l) ≡ true
  pub upper_bits : byte_at l 67 < 16
  pub spare_68 : byte_at l 68 ≡ 0
  pub spare_69 : byte_at l 69 ≡ 0
  pub spare_70 : byte_at l 70 ≡ 0
  pub spare_71 : byte_at l 71 ≡ 0
