-- The calls on a chip: answer and chip together, on every input.
use Rattle.std.specs.Prelude.{Bool, cond, ℕ, ltb, Result, Ok, Err}
use Rattle.refusals.specs.declared.Refusal.{Refusal}
use Rattle.refusals.specs.declared.Refusal.TheVariants.{Ticks}
use Rattle.registers.specs.Access.{access, write_access}
use Rattle.registers.specs.Calls.{after_read, with_pins}
use Rattle.registers.specs.Lines.{irqf}
use Rattle.registers.specs.Lines as registers
use Rattle.chip.specs.declared.Chip.{Chip}
use Rattle.chip.specs.declared.Levels.{Levels}
use Rattle.chip.specs.Chips.{location, written, ticks}

-- Calls and their refusals: what a read answers, and the chip that it leaves.
pub record ReadResult : Type 0 where
  pub answer : Result ℕ Refusal
  pub chip : Chip

-- Calls and their refusals: the same of a write or a run, whose answer has no byte.
pub record Outcome : Type 0 where
  pub answer : Result (Unit {0}) Refusal
  pub chip : Chip

-- Calls and their refusals: the byte that a read shows, 255 where it is refused.
abbrev pub read_byte : Result ℕ Refusal → ℕ
read_byte (Ok b) = b
read_byte (Err why) = 255

-- Calls and their refusals, read: an open location gives its byte as it stands, and the read has its effect; a refused read changes nothing.
abbrev pub read_by : Result (Unit {0}) Refusal → Chip → ℕ → ReadResult
read_by (Ok _) chip address =
    record {
      answer = Ok (location chip address);
      chip = record { regs = after_read chip.regs address; ram = chip.ram };
    }
read_by (Err why) chip address = record { answer = Err why; chip = chip }

-- Calls and their refusals, read: on every chip and any address.
unfoldable pub read : Chip → ℕ → ReadResult
read chip address = read_by (access chip.regs address) chip address

-- Calls and their refusals, write: an open location takes the byte; a refused write changes nothing.
abbrev pub write_by : Result (Unit {0}) Refusal → Chip → ℕ → ℕ → Outcome
write_by (Ok _) chip address value = record { answer = Ok tt; chip = written chip address value }
write_by (Err why) chip address value = record { answer = Err why; chip = chip }

-- Calls and their refusals, write: on every chip, any address and byte.
unfoldable pub write : Chip → ℕ → ℕ → Outcome
write chip address value = write_by (write_access chip.regs address value) chip address value

-- Calls and their refusals, run: up to 65,536 ticks; more are refused and none is made.
unfoldable pub run : Chip → ℕ → Outcome
run chip n =
    cond (ltb 65536 n) (record { answer = Err Ticks; chip = chip })
    (record { answer = Ok tt; chip = ticks n chip })

-- Calls and their refusals, pins: true is high. Never refused.
unfoldable pub pins : Chip → Bool → Bool → Chip
pins chip reset ps = record { regs = with_pins chip.regs reset ps; ram = chip.ram }

-- Locations, and Divider and ticks: the interrupt line and the square wave.
unfoldable pub lines : Chip → Levels
lines chip = record { irq = irqf chip.regs; sqw = registers.sqw chip.regs }
