-- What one event record does to a chip.
use Rattle.std.specs.Prelude.{cond, List, ℕ, ◌+◌, ◌*◌, ◌/◌, ◌%◌, eqb, slice_index, Result, Ok, Err}
use Rattle.refusals.specs.declared.Refusal.{Refusal}
use Rattle.refusals.specs.declared.Refusal.TheVariants.{Length, Kind}
use Rattle.refusals.specs.Numbers.{number_of, answer_number}
use Rattle.chip.specs.declared.Chip.{Chip}
use Rattle.chip.specs.Calls.{ReadResult, Outcome, read_byte, read, write, run, pins}
use Rattle.events.specs.declared.event.Event.{Event}
use Rattle.events.specs.declared.event.Event.TheVariants.{Read, Write, Run, Pins}

-- Saved chip and event file: what a record gives: the number of its answer, the byte that its line shows, and the chip after it.
pub record EventResult : Type 0 where
  pub answer : ℕ
  pub byte : ℕ
  pub chip : Chip

-- Saved chip and event file: a read shows its byte, and Calls and their refusals: a refused one shows 255.
abbrev pub read_event : ReadResult → EventResult
read_event r = record { answer = answer_number r.answer; byte = read_byte r.answer; chip = r.chip }

-- Saved chip and event file: any other record shows byte 0, refused or not.
abbrev pub plain_event : Outcome → EventResult
plain_event o = record { answer = answer_number o.answer; byte = 0; chip = o.chip }

-- Saved chip and event file: the pins are never refused. Bit 0 is RESET high, bit 1 is PS high; the other bits say nothing.
abbrev pub pins_event : Chip → ℕ → EventResult
pins_event chip levels = record { answer = 0; byte = 0; chip = pins chip (eqb (levels % 2) 1) (eqb (levels / 2 % 2) 1) }

-- Calls and their refusals, 10: a kind above 3 changes nothing.
abbrev pub unknown_event : Chip → EventResult
unknown_event chip = record { answer = number_of Kind; byte = 0; chip = chip }

-- Saved chip and event file: a record's four bytes are its kind, the address, and the value's low and high byte. Kind 0 reads, 1 writes the
-- low byte, 2 runs as many ticks as both bytes say, and 3 sets the pins by the low one. No kind looks at more of its record.
unfoldable pub event_of : Chip → ℕ → ℕ → ℕ → ℕ → EventResult
event_of chip kind address low high =
    cond (eqb kind 0) (read_event (read chip address))
    (cond (eqb kind 1) (plain_event (write chip address low))
    (cond (eqb kind 2) (plain_event (run chip (low + 256 * high)))
    (cond (eqb kind 3) (pins_event chip low)
    (unknown_event chip))))

-- Calls and their refusals, 1: a last record of fewer than 4 bytes does nothing, whatever its bytes are.
abbrev pub part_event : Chip → EventResult
part_event chip = record { answer = number_of Length; byte = 0; chip = chip }

-- Saved chip and event file: what a record of these four bytes gives.
abbrev pub record_event : Chip → List ℕ → EventResult
record_event chip bytes = event_of chip (slice_index bytes 0) (slice_index bytes 1) (slice_index bytes 2) (slice_index bytes 3)

-- Saved chip and event file: the event that four bytes are.
abbrev pub decoded : List ℕ → Result Event Refusal
decoded bytes =
    cond (eqb (slice_index bytes 0) 0) (Ok (Read (slice_index bytes 1)))
    (cond (eqb (slice_index bytes 0) 1) (Ok (Write (slice_index bytes 1) (slice_index bytes 2)))
    (cond (eqb (slice_index bytes 0) 2) (Ok (Run (slice_index bytes 2 + 256 * slice_index bytes 3)))
    (cond (eqb (slice_index bytes 0) 3) (Ok (Pins (eqb (slice_index bytes 2 % 2) 1) (eqb (slice_index bytes 2 / 2 % 2) 1)))
    (Err Kind))))

-- Saved chip and event file: what an event gives.
abbrev pub call_of : Chip → Event → EventResult
call_of chip (Read address) = read_event (read chip address)
call_of chip (Write address value) = plain_event (write chip address value)
call_of chip (Run count) = plain_event (run chip count)
call_of chip (Pins reset ps) = record { answer = 0; byte = 0; chip = pins chip reset ps }
