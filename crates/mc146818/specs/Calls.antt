-- The host's calls on the 72 bytes of a chip: answer and bytes of each, on every input, and both together as C is told them.
use Rattle.std.specs.Prelude.{Bool, List, ℕ, ◌/◌, ◌%◌, eqb, Result, Ok, Err}
use Rattle.refusals.specs.declared.Refusal.{Refusal}
use Rattle.fields.specs.Modes.{mode_of}
use Rattle.times.specs.declared.Time.{Time}
use Rattle.times.specs.Calls.{decoded, encoded}
use Rattle.chip.specs.declared.Chip.{Chip}
use Rattle.chip.specs.declared.Levels.{Levels}
use Rattle.chip.specs.Calls as chip
use Rattle.saved.specs.Record.{record_of}
use Rattle.saved.specs.Calls as saved
use Rattle.mc146818.specs.Words.{Host, host_of, byte_word, answer_word, lines_word, decoded_word}

-- ---- the chip in the bytes

-- Calls and their refusals: a chip that does not load is refused before anything else is asked of it.
abbrev pub asked : {A : Type 0} → Result Chip Refusal → (Chip → Result A Refusal) → Result A Refusal
asked (Ok chip) ask = ask chip
asked (Err why) ask = Err why

-- Calls and their refusals: the chip after an accepted call goes into its bytes; where the call is refused they stay.
abbrev pub stored : {A : Type 0} → List ℕ → Result A Refusal → Chip → List ℕ
stored bytes (Ok _) chip = record_of chip
stored bytes (Err why) chip = bytes

-- Calls and their refusals: the bytes that a call leaves. They stay too where the chip does not load.
abbrev pub bytes_after : {A : Type 0} → List ℕ → Result Chip Refusal → (Chip → Result A Refusal) → (Chip → Chip) → List ℕ
bytes_after bytes (Ok chip) ask next = stored bytes (ask chip) (next chip)
bytes_after bytes (Err why) ask next = bytes

-- Calls and their refusals: an answer that is never refused.
abbrev pub accepted : Chip → Result (Unit {0}) Refusal
accepted chip = Ok tt

-- ---- answers and bytes

-- Calls and their refusals: read.
abbrev pub read_answer : List ℕ → ℕ → Result ℕ Refusal
read_answer bytes address = asked (saved.load bytes) (λ c. (chip.read c address).answer)

-- Calls and their refusals: the bytes that a read leaves.
abbrev pub read_bytes : List ℕ → ℕ → List ℕ
read_bytes bytes address = bytes_after bytes (saved.load bytes) (λ c. (chip.read c address).answer) (λ c. (chip.read c address).chip)

-- Calls and their refusals: write.
abbrev pub write_answer : List ℕ → ℕ → ℕ → Result (Unit {0}) Refusal
write_answer bytes address value = asked (saved.load bytes) (λ c. (chip.write c address value).answer)

-- Calls and their refusals: the bytes that a write leaves.
abbrev pub write_bytes : List ℕ → ℕ → ℕ → List ℕ
write_bytes bytes address value =
    bytes_after bytes (saved.load bytes) (λ c. (chip.write c address value).answer) (λ c. (chip.write c address value).chip)

-- Calls and their refusals: run.
abbrev pub run_answer : List ℕ → ℕ → Result (Unit {0}) Refusal
run_answer bytes ticks = asked (saved.load bytes) (λ c. (chip.run c ticks).answer)

-- Calls and their refusals: the bytes that a run leaves.
abbrev pub run_bytes : List ℕ → ℕ → List ℕ
run_bytes bytes ticks = bytes_after bytes (saved.load bytes) (λ c. (chip.run c ticks).answer) (λ c. (chip.run c ticks).chip)

-- Host interface: bit 0 of the levels is RESET high, bit 1 is PS high; no other bit counts.
abbrev pub reset_high : ℕ → Bool
reset_high levels = eqb (levels % 2) 1

-- Host interface: PS is bit 1 of the levels.
abbrev pub ps_high : ℕ → Bool
ps_high levels = eqb (levels / 2 % 2) 1

-- Calls and their refusals: pins are never refused on a chip that loads.
abbrev pub pins_answer : List ℕ → Result (Unit {0}) Refusal
pins_answer bytes = asked (saved.load bytes) accepted

-- Calls and their refusals: the bytes that new levels leave.
abbrev pub pins_bytes : List ℕ → ℕ → List ℕ
pins_bytes bytes levels = bytes_after bytes (saved.load bytes) accepted (λ c. chip.pins c (reset_high levels) (ps_high levels))

-- Calls and their refusals: nor are the lines, which leave the bytes as they are.
abbrev pub lines_answer : List ℕ → Result Levels Refusal
lines_answer bytes = asked (saved.load bytes) (λ c. Ok (chip.lines c))

-- Calls and their refusals: a load is refused where its input is.
abbrev pub load_answer : List ℕ → Result (Unit {0}) Refusal
load_answer input = asked (saved.load input) accepted

-- Calls and their refusals: a load replaces the chip where the input loads; the chip that stood there need not.
abbrev pub load_bytes : List ℕ → List ℕ → List ℕ
load_bytes bytes input = bytes_after bytes (saved.load input) accepted (λ c. c)

-- Calls and their refusals: the chip is loaded first here too, before the page is looked at.
abbrev pub save_answer : List ℕ → List ℕ → ℕ → Result (Unit {0}) Refusal
save_answer bytes page offset = asked (saved.load bytes) (λ c. (saved.save c page offset).answer)

-- Calls and their refusals: the page that a save leaves.
abbrev pub page_by : Result Chip Refusal → List ℕ → ℕ → List ℕ
page_by (Ok chip) page offset = (saved.save chip page offset).page
page_by (Err why) page offset = page

-- Calls and their refusals: on the chip in the bytes.
abbrev pub save_page : List ℕ → List ℕ → ℕ → List ℕ
save_page bytes page offset = page_by (saved.load bytes) page offset

-- Host interface: a time as encode's two numbers.
abbrev pub time_by : ℕ → ℕ → Time
time_by seconds weekday = record { weekday = weekday; seconds = seconds }

-- ---- both together, as C is told them

-- Calls and their refusals: read.
unfoldable pub read : List ℕ → ℕ → Host
read bytes address = host_of (byte_word (read_answer bytes address)) (read_bytes bytes address)

-- Calls and their refusals: write.
unfoldable pub write : List ℕ → ℕ → ℕ → Host
write bytes address value = host_of (answer_word (write_answer bytes address value)) (write_bytes bytes address value)

-- Calls and their refusals: run.
unfoldable pub run : List ℕ → ℕ → Host
run bytes ticks = host_of (answer_word (run_answer bytes ticks)) (run_bytes bytes ticks)

-- Calls and their refusals: pins.
unfoldable pub pins : List ℕ → ℕ → Host
pins bytes levels = host_of (answer_word (pins_answer bytes)) (pins_bytes bytes levels)

-- Calls and their refusals: lines.
unfoldable pub lines : List ℕ → Host
lines bytes = host_of (lines_word (lines_answer bytes)) bytes

-- Calls and their refusals: load.
unfoldable pub load : List ℕ → List ℕ → Host
load bytes input = host_of (answer_word (load_answer input)) (load_bytes bytes input)

-- Calls and their refusals: save.
unfoldable pub save : List ℕ → List ℕ → ℕ → Host
save bytes page offset = host_of (answer_word (save_answer bytes page offset)) (save_page bytes page offset)

-- Host interface: both time calls take the mode as a register B byte.
unfoldable pub decode : List ℕ → ℕ → ℕ
decode bytes mode = decoded_word (decoded (mode_of mode) bytes)

-- Host interface: encode answers in a word and leaves the buffer.
unfoldable pub encode : List ℕ → ℕ → ℕ → ℕ → Host
encode bytes seconds weekday mode =
    host_of (answer_word (encoded (mode_of mode) (time_by seconds weekday) bytes).answer) (encoded (mode_of mode) (time_by seconds weekday) bytes).bytes
