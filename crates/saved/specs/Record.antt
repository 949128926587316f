-- The saved record: the 72 bytes of a chip, and the chip that stands in 72 bytes.
use Rattle.std.specs.Prelude.{Bool, cond, List, [], ◌∷◌, ◌++◌, ℕ, ◌+◌, ◌*◌, ◌/◌, ◌%◌, eqb, get_or, take, drop}
use Rattle.divider.specs.declared.Divider.{Divider}
use Rattle.divider.specs.Divider.{count_of, of_count}
use Rattle.registers.specs.declared.Regs.{Regs}
use Rattle.chip.specs.declared.Chip.{Chip}
use Rattle.chip.specs.Chips.{locations}

-- ---- from a chip to bytes

-- Saved chip: a bit as a number.
abbrev pub bit_of : Bool → ℕ
bit_of on = cond on 1 0

-- Saved chip: byte 67 has an update pending in bit 0, RESET low in bit 1, PS low in bit 2 and the repeat used in bit 3.
abbrev pub flags_of : Regs → ℕ
flags_of r = bit_of r.pending + (bit_of r.resetlow * 2 + (bit_of r.pslow * 4 + bit_of r.used * 8))

-- Saved chip: bytes 64 to 71 are the count, low byte first, then byte 67 and four zeros.
unfoldable pub tail_of : Regs → List ℕ
tail_of r =
    count_of r.divider % 256
    ∷ count_of r.divider / 256 % 256
    ∷ count_of r.divider / 65536 % 256
    ∷ flags_of r
    ∷ 0
    ∷ 0
    ∷ 0
    ∷ 0
    ∷ []

-- Saved chip: the 64 locations as they are stored, and the eight bytes behind them.
unfoldable pub record_of : Chip → List ℕ
record_of chip = locations chip ++ tail_of chip.regs

-- ---- from bytes to a chip

-- Saved chip: the byte at a place of the record.
abbrev pub byte_at : List ℕ → ℕ → ℕ
byte_at l k = get_or l k 0

-- Saved chip: pending is bit 0 of byte 67.
abbrev pub pending_in : List ℕ → Bool
pending_in l = eqb (byte_at l 67 % 2) 1

-- Saved chip: RESET low is bit 1 of byte 67.
abbrev pub reset_low_in : List ℕ → Bool
reset_low_in l = eqb (byte_at l 67 / 2 % 2) 1

-- Saved chip: PS low is bit 2 of byte 67.
abbrev pub ps_low_in : List ℕ → Bool
ps_low_in l = eqb (byte_at l 67 / 4 % 2) 1

-- Saved chip: the repeat used is bit 3 of byte 67.
abbrev pub used_in : List ℕ → Bool
used_in l = eqb (byte_at l 67 / 8 % 2) 1

-- Saved chip: the divider whose count stands in bytes 64 to 66, low byte first.
unfoldable pub divider_in : List ℕ → Divider
divider_in l = of_count (byte_at l 64 + (byte_at l 65 * 256 + byte_at l 66 * 65536))

-- Saved chip: the registers in a record. UIP and IRQF are not taken from it, as a chip has them by their rules.
unfoldable pub regs_in : List ℕ → Regs
regs_in l =
    record {
      clock =
          record {
            seconds = byte_at l 0;
            minutes = byte_at l 2;
            hours = byte_at l 4;
            weekday = byte_at l 6;
            date = byte_at l 7;
            month = byte_at l 8;
            year = byte_at l 9;
          };
      alarm = record { seconds = byte_at l 1; minutes = byte_at l 3; hours = byte_at l 5 };
      a = byte_at l 10 % 128;
      b = byte_at l 11;
      pf = eqb (byte_at l 12 / 64 % 2) 1;
      af = eqb (byte_at l 12 / 32 % 2) 1;
      uf = eqb (byte_at l 12 / 16 % 2) 1;
      vrt = eqb (byte_at l 13 / 128 % 2) 1;
      divider = divider_in l;
      pending = pending_in l;
      resetlow = reset_low_in l;
      pslow = ps_low_in l;
      used = used_in l;
    }

-- Saved chip: the chip in a record; its user RAM is the 50 bytes from location 14 on.
unfoldable pub chip_of : List ℕ → Chip
chip_of l = record { regs = regs_in l; ram = take 50 (drop 14 l) }
