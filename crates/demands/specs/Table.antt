-- The table of refusals, for each call that a C host makes, on any input.
use Rattle.std.specs.Prelude.{Bool, cond, ◌&&◌, ◌||◌, not, List, [], ◌∷◌, ℕ, ◌+◌, ◌/◌, ◌%◌, ◌<◌, eqb, leb, ltb, length}
use Rattle.fields.specs.Modes.{mode_of}
use Rattle.calendar.specs.Bytes.{clock_at}
use Rattle.times.specs.Times.{is_valid, is_time}
use Rattle.divider.specs.Divider.{test_pattern}
use Rattle.registers.specs.Bits.{dv_of}
use Rattle.registers.specs.Access.{closed}
use Rattle.chip.specs.declared.Chip.{Chip}
use Rattle.saved.specs.Record.{chip_of}
use Rattle.saved.specs.Rules.{keeps_rules}
use Rattle.saved.specs.Calls.{record_size}
use Rattle.mc146818.specs.Calls as host
use Rattle.mc146818.specs.Calls.{time_by}
use Rattle.demands.specs.HostEvents.{AreBytes}

-- ---- the calls

-- Calls and their refusals: every call that can be refused, with its inputs: the 72 bytes of the chip first, where it has one. (A fresh
-- chip has no answer.)
pub data HostCall : Type 0 where
  reads : List ℕ → ℕ → HostCall
  writes : List ℕ → ℕ → ℕ → HostCall
  runs : List ℕ → ℕ → HostCall
  pins : List ℕ → ℕ → HostCall
  lines : List ℕ → HostCall
  loads : List ℕ → List ℕ → HostCall
  saves : List ℕ → List ℕ → ℕ → HostCall
  decodes : List ℕ → ℕ → HostCall
  encodes : List ℕ → ℕ → ℕ → ℕ → HostCall

-- Host interface, result words: the answer is in bits 8 to 15, and in bits 40 to 47 of decode's.
abbrev pub answer_in : ℕ → ℕ
answer_in word = word / 256 % 256

-- Host interface, result words: the answer of each call.
abbrev pub answer_of : HostCall → ℕ
answer_of (reads bytes address) = answer_in (host.read bytes address).word
answer_of (writes bytes address value) = answer_in (host.write bytes address value).word
answer_of (runs bytes ticks) = answer_in (host.run bytes ticks).word
answer_of (pins bytes levels) = answer_in (host.pins bytes levels).word
answer_of (lines bytes) = answer_in (host.lines bytes).word
answer_of (loads bytes input) = answer_in (host.load bytes input).word
answer_of (saves bytes page offset) = answer_in (host.save bytes page offset).word
answer_of (decodes bytes mode) = host.decode bytes mode / 1099511627776 % 256
answer_of (encodes bytes seconds weekday mode) = answer_in (host.encode bytes seconds weekday mode).word

-- ---- the table

-- Calls and their refusals: a row of the table, a refusal's number and whether it applies.
pub record Row : Type 0 where
  pub number : ℕ
  pub applies : Bool

-- Calls and their refusals: a row, written in one line.
abbrev pub row : ℕ → Bool → Row
row number applies = record { number = number; applies = applies }

-- Calls and their refusals: the first row that applies is the answer, and 0 where none does.
abbrev pub first : List Row → ℕ
first [] = 0
first (r ∷ rs) = cond r.applies r.number (first rs)

-- Calls and their refusals, 1 and 8: ahead of all else, on the chip that a call is made on.
abbrev pub load_rows : List ℕ → List Row → List Row
load_rows bytes rest = row 1 (not (eqb (length bytes) record_size)) ∷ row 8 (not (keeps_rules bytes)) ∷ rest

-- Calls and their refusals, 2 to 4: read and write.
abbrev pub access_rows : Chip → ℕ → List Row → List Row
access_rows chip address rest =
    row 2 (ltb 63 address)
    ∷ row 3 chip.regs.resetlow
    ∷ row 4 (leb address 9 && closed chip.regs)
    ∷ rest

-- Calls and their refusals: the rows of each call, in the order in which they are tried.
abbrev pub rows_of : HostCall → List Row
rows_of (reads bytes address) = load_rows bytes (access_rows (chip_of bytes) address [])
rows_of (writes bytes address value) =
    load_rows bytes
    (access_rows (chip_of bytes) address
    (row 5 (eqb address 12 || eqb address 13)
    ∷ row 6 (eqb address 10 && test_pattern (dv_of value))
    ∷ []))
rows_of (runs bytes ticks) = load_rows bytes (row 7 (ltb 65536 ticks) ∷ [])
rows_of (pins bytes levels) = load_rows bytes []
rows_of (lines bytes) = load_rows bytes []
rows_of (loads bytes input) = load_rows input []
rows_of (saves bytes page offset) = load_rows bytes (row 1 (ltb (length page) (offset + record_size)) ∷ [])
rows_of (decodes bytes mode) = row 9 (not (eqb (length bytes) 7 && is_valid (mode_of mode) (clock_at bytes))) ∷ []
rows_of (encodes bytes seconds weekday mode) = row 9 (not (eqb (length bytes) 7 && is_time (time_by seconds weekday))) ∷ []

-- ---- what is lent

-- Calls and their refusals: the bytes of chip and page before a call. (The buffers of the time calls are neither.)
abbrev pub chip_before : HostCall → List ℕ
chip_before (reads bytes address) = bytes
chip_before (writes bytes address value) = bytes
chip_before (runs bytes ticks) = bytes
chip_before (pins bytes levels) = bytes
chip_before (lines bytes) = bytes
chip_before (loads bytes input) = bytes
chip_before (saves bytes page offset) = page
chip_before (decodes bytes mode) = []
chip_before (encodes bytes seconds weekday mode) = []

-- Calls and their refusals: and after it. A save changes the page and not the chip.
abbrev pub chip_after : HostCall → List ℕ
chip_after (reads bytes address) = (host.read bytes address).bytes
chip_after (writes bytes address value) = (host.write bytes address value).bytes
chip_after (runs bytes ticks) = (host.run bytes ticks).bytes
chip_after (pins bytes levels) = (host.pins bytes levels).bytes
chip_after (lines bytes) = (host.lines bytes).bytes
chip_after (loads bytes input) = (host.load bytes input).bytes
chip_after (saves bytes page offset) = (host.save bytes page offset).bytes
chip_after (decodes bytes mode) = []
chip_after (encodes bytes seconds weekday mode) = []

-- Host interface: the chip or page that is lent to a call is of bytes, as it always is from C.
abbrev pub LendsBytes : HostCall → Type 0
LendsBytes call = AreBytes (chip_before call)

-- Calls and their refusals: the answer of a call is the number of a refusal.
abbrev pub IsRefused : HostCall → Type 0
IsRefused call = 0 < answer_of call
