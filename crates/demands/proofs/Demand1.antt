-- Every refusal follows the table: each call answers 0 or the first refusal of its rows, on any input, and a refusal changes neither chip
-- nor page. That every call ends and does nothing undefined is what the toolchain proves of each function before it is built.
use mathlib.Core.Path.{◌≡◌, refl, ◌∙◌}
use mathlib.Core.Bool.{true, false, cond, ◌&&◌, not}
use mathlib.Core.Logic.{◌⊎◌, inl, inr}
use mathlib.Core.List.{List}
use Prim.Native.Nat.{ℕ, ◌+◌, ◌/◌, ◌%◌, ◌≤◌, ◌<◌}
use native.Mathlib.Omega.{arith}
use lib.Dec.{eqb, leb, ltb}
use lib.ListN.{length, get_or, replicate, get_or-append, length-append}
use borrow.Author.Tests.{le-leb, lt-leb}
use Rattle.std.specs.Prelude.{Result, Ok, Err}
use Rattle.std.proofs.lemmas.Bool.{cases_Bool}
use Rattle.cases.proofs.Tests.{ltb_case}
use Rattle.refusals.specs.declared.Refusal.{Refusal}
use Rattle.refusals.specs.Numbers.{answer_number}
use Rattle.refusals.proofs.Laws.{number_is_1_to_10}
use Rattle.fields.specs.Modes.{mode_of}
use Rattle.calendar.specs.Bytes.{clock_at}
use Rattle.times.specs.declared.Time.{Time}
use Rattle.times.specs.Times.{is_valid, is_time}
use Rattle.times.specs.Calls.{decoded, encoded}
use Rattle.registers.specs.Access.{access}
use Rattle.registers.proofs.Laws.Access.{open_is_below_64}
use Rattle.registers.proofs.Laws.Bits.{placed_at_most}
use Rattle.registers.specs.Locations.{register_bytes}
use Rattle.chip.specs.declared.Chip.{Chip}
use Rattle.chip.specs.declared.Levels.{Levels}
use Rattle.chip.specs.Chips.{locations, location}
use Rattle.chip.specs.Calls as chip
use Rattle.chip.specs.Calls.{read_byte}
use Rattle.chip.proofs.Laws.Locations.{fourteen_registers}
use Rattle.chip.proofs.Laws.Refusals.{read_refusals, write_refusals, run_refusals}
use Rattle.saved.specs.Record.{record_of, tail_of, chip_of}
use Rattle.saved.proofs.Laws.Calls.{load_then_store, loaded_keeps_rules}
use Rattle.saved.specs.Rules.{keeps_rules}
use Rattle.saved.specs.Calls as saved
use Rattle.saved.specs.Calls.{record_size}
use Rattle.mc146818.specs.Words.{byte_word, answer_word, lines_word, decoded_word}
use Rattle.mc146818.specs.Calls as host
use Rattle.mc146818.specs.Calls.{asked, bytes_after, stored, page_by, time_by}
use Rattle.demands.specs.Table.{HostCall, reads, writes, runs, pins, lines, loads, saves, decodes, encodes, answer_in, answer_of, first, rows_of, chip_before, chip_after}
use Rattle.demands.specs.HostEvents.{AreBytes}

-- ---- the answer of a call, and its number in the word

-- the number of each call's answer
abbrev number_told : HostCall → ℕ
number_told (reads bytes address) = answer_number (host.read_answer bytes address)
number_told (writes bytes address value) = answer_number (host.write_answer bytes address value)
number_told (runs bytes ticks) = answer_number (host.run_answer bytes ticks)
number_told (pins bytes levels) = answer_number (host.pins_answer bytes)
number_told (lines bytes) = answer_number (host.lines_answer bytes)
number_told (loads bytes input) = answer_number (host.load_answer input)
number_told (saves bytes page offset) = answer_number (host.save_answer bytes page offset)
number_told (decodes bytes mode) = answer_number (decoded (mode_of mode) bytes)
number_told (encodes bytes seconds weekday mode) = answer_number (encoded (mode_of mode) (time_by seconds weekday) bytes).answer

in_byte_word : (answer : Result ℕ Refusal) → read_byte answer < 256 → answer_in (byte_word answer) ≡ answer_number answer
in_byte_word (Ok byte) h = omega arith
in_byte_word (Err why) h = omega (arith, number_is_1_to_10 why)

in_answer_word : (answer : Result (Unit {0}) Refusal) → answer_in (answer_word answer) ≡ answer_number answer
in_answer_word (Ok _) = refl
in_answer_word (Err why) = omega (arith, number_is_1_to_10 why)

in_lines_word : (answer : Result Levels Refusal) → answer_in (lines_word answer) ≡ answer_number answer
in_lines_word (Ok levels) = omega (arith, placed_at_most levels.irq 1, placed_at_most levels.sqw 1)
in_lines_word (Err why) = omega (arith, number_is_1_to_10 why)

in_decoded_word : (answer : Result Time Refusal) → decoded_word answer / 1099511627776 % 256 ≡ answer_number answer
in_decoded_word (Ok time) = omega arith
in_decoded_word (Err why) = omega (arith, number_is_1_to_10 why)

-- ---- a byte that is read fits its place in the word

sixty_four : (c : Chip) → length c.ram ≡ 50 → length (locations c) ≡ 64
unfolding locations
sixty_four c size = length-append (register_bytes c.regs) c.ram ∙ omega (arith, fourteen_registers c.regs)

record_begins : (c : Chip) (address : ℕ) → length (locations c) ≡ 64 → address < 64 → get_or (record_of c) address 0 ≡ get_or (locations c) address 0
unfolding record_of
record_begins c address size h = get_or-append (locations c) (tail_of c.regs) 0 address (omega arith)

byte_of_location : (bytes : List ℕ) (address : ℕ) (c : Chip) → AreBytes bytes → saved.load bytes ≡ Ok c → address < 64 → location c address < 256
unfolding location
byte_of_location bytes address c small e h =
    let back = load_then_store bytes small c e in
    let size = (loaded_keeps_rules bytes small c e).ram_size in
    let same = record_begins c address (sixty_four c size) h in
    rw (← same, back) (small address)

read_byte_small : (c : Chip) (address : ℕ) → (address < 64 → location c address < 256) → read_byte (chip.read c address).answer < 256
unfolding chip.read
read_byte_small c address h = go (access c.regs address) refl
  where
    go : (v : Result (Unit {0}) Refusal) → access c.regs address ≡ v → read_byte (chip.read_by v c address).answer < 256
    go (Ok _) e = h (open_is_below_64 c.regs address e)
    go (Err why) e = omega arith

read_answer_small : (bytes : List ℕ) (address : ℕ) → AreBytes bytes → read_byte (host.read_answer bytes address) < 256
read_answer_small bytes address small = go (saved.load bytes) refl
  where
    go : (r : Result Chip Refusal) → saved.load bytes ≡ r → read_byte (asked r (λ c. (chip.read c address).answer)) < 256
    go (Ok c) e = read_byte_small c address (byte_of_location bytes address c small e)
    go (Err why) e = omega arith

-- the word of a call has the number of its answer
answer_is_told : (call : HostCall) → AreBytes (chip_before call) → answer_of call ≡ number_told call
unfolding host.read host.write host.run host.pins host.lines host.load host.save host.decode host.encode
answer_is_told (reads bytes address) small = in_byte_word (host.read_answer bytes address) (read_answer_small bytes address small)
answer_is_told (writes bytes address value) small = in_answer_word (host.write_answer bytes address value)
answer_is_told (runs bytes ticks) small = in_answer_word (host.run_answer bytes ticks)
answer_is_told (pins bytes levels) small = in_answer_word (host.pins_answer bytes)
answer_is_told (lines bytes) small = in_lines_word (host.lines_answer bytes)
answer_is_told (loads bytes input) small = in_answer_word (host.load_answer input)
answer_is_told (saves bytes page offset) small = in_answer_word (host.save_answer bytes page offset)
answer_is_told (decodes bytes mode) small = in_decoded_word (decoded (mode_of mode) bytes)
answer_is_told (encodes bytes seconds weekday mode) small = in_answer_word (encoded (mode_of mode) (time_by seconds weekday) bytes).answer

-- ---- the table

-- a chip that does not load is refused as the first two rows say; of one that does, the call is asked
asked_by_the_table : {A : Type 0} (bytes : List ℕ) (ask : Chip → Result A Refusal) (n : ℕ) → answer_number (ask (chip_of bytes)) ≡ n
    → answer_number (asked (saved.load bytes) ask) ≡ cond (not (eqb (length bytes) record_size)) 1 (cond (not (keeps_rules bytes)) 8 n)
unfolding saved.load
asked_by_the_table {A} bytes ask n e = go (cases_Bool (eqb (length bytes) record_size)) (cases_Bool (keeps_rules bytes))
  where
    go : (eqb (length bytes) record_size ≡ true) ⊎ (eqb (length bytes) record_size ≡ false) → (keeps_rules bytes ≡ true) ⊎ (keeps_rules bytes ≡ false)
        → answer_number (asked (saved.load bytes) ask) ≡ cond (not (eqb (length bytes) record_size)) 1 (cond (not (keeps_rules bytes)) 8 n)
    go (inr s) k = rw s
    go (inl s) (inr k) = rw (s, k)
    go (inl s) (inl k) = rw (s, k) e

save_refusals : (c : Chip) (page : List ℕ) (offset : ℕ) → answer_number (saved.save c page offset).answer ≡ cond (ltb (length page) (offset + record_size)) 1 0
unfolding saved.save
save_refusals c page offset = go (ltb_case (length page) (offset + record_size))
  where
    go : ((length page < offset + record_size) × (ltb (length page) (offset + record_size) ≡ true)) ⊎ ((offset + record_size ≤ length page) × (ltb (length page) (offset + record_size) ≡ false))
        → answer_number (saved.save c page offset).answer ≡ cond (ltb (length page) (offset + record_size)) 1 0
    go (inl t) = rw (t.1, lt-leb (offset + record_size) (length page) t.0)
    go (inr t) = rw (t.1, le-leb (offset + record_size) (length page) t.0)

decode_refusals : (bytes : List ℕ) (mode : ℕ)
    → answer_number (decoded (mode_of mode) bytes) ≡ cond (not (eqb (length bytes) 7 && is_valid (mode_of mode) (clock_at bytes))) 9 0
unfolding decoded
decode_refusals bytes mode = go (cases_Bool (eqb (length bytes) 7 && is_valid (mode_of mode) (clock_at bytes)))
  where
    go : (eqb (length bytes) 7 && is_valid (mode_of mode) (clock_at bytes) ≡ true) ⊎ (eqb (length bytes) 7 && is_valid (mode_of mode) (clock_at bytes) ≡ false)
        → answer_number (decoded (mode_of mode) bytes) ≡ cond (not (eqb (length bytes) 7 && is_valid (mode_of mode) (clock_at bytes))) 9 0
    go (inl t) = rw t
    go (inr t) = rw t

encode_refusals : (bytes : List ℕ) (seconds weekday mode : ℕ)
    → answer_number (encoded (mode_of mode) (time_by seconds weekday) bytes).answer ≡ cond (not (eqb (length bytes) 7 && is_time (time_by seconds weekday))) 9 0
unfolding encoded
encode_refusals bytes seconds weekday mode = go (cases_Bool (eqb (length bytes) 7 && is_time (time_by seconds weekday)))
  where
    go : (eqb (length bytes) 7 && is_time (time_by seconds weekday) ≡ true) ⊎ (eqb (length bytes) 7 && is_time (time_by seconds weekday) ≡ false)
        → answer_number (encoded (mode_of mode) (time_by seconds weekday) bytes).answer ≡ cond (not (eqb (length bytes) 7 && is_time (time_by seconds weekday))) 9 0
    go (inl t) = rw t
    go (inr t) = rw t

told_by_the_table : (call : HostCall) → number_told call ≡ first (rows_of call)
told_by_the_table (reads bytes address) = asked_by_the_table bytes (λ c. (chip.read c address).answer) _ (read_refusals (chip_of bytes) address)
told_by_the_table (writes bytes address value) = asked_by_the_table bytes (λ c. (chip.write c address value).answer) _ (write_refusals (chip_of bytes) address value)
told_by_the_table (runs bytes ticks) = asked_by_the_table bytes (λ c. (chip.run c ticks).answer) _ (run_refusals (chip_of bytes) ticks)
told_by_the_table (pins bytes levels) = asked_by_the_table bytes host.accepted 0 refl
told_by_the_table (lines bytes) = asked_by_the_table bytes (λ c. Ok (chip.lines c)) 0 refl
told_by_the_table (loads bytes input) = asked_by_the_table input host.accepted 0 refl
told_by_the_table (saves bytes page offset) = asked_by_the_table bytes (λ c. (saved.save c page offset).answer) _ (save_refusals (chip_of bytes) page offset)
told_by_the_table (decodes bytes mode) = decode_refusals bytes mode
told_by_the_table (encodes bytes seconds weekday mode) = encode_refusals bytes seconds weekday mode

-- the answer of every call is the first refusal of its rows that applies, and 0 where none does
pub refusals_by_the_table : (call : HostCall) → AreBytes (chip_before call) → answer_of call ≡ first (rows_of call)
refusals_by_the_table call small = answer_is_told call small ∙ told_by_the_table call

-- ---- a refused call

-- the bytes are left where the chip in them does not load, and where the call is refused
left_where_refused : {A : Type 0} (bytes : List ℕ) (r : Result Chip Refusal) (ask : Chip → Result A Refusal) (next : Chip → Chip)
    → 0 < answer_number (asked r ask) → bytes_after bytes r ask next ≡ bytes
left_where_refused {A} bytes (Ok c) ask next h = go (ask c) h
  where
    go : (answer : Result A Refusal) → 0 < answer_number answer → stored bytes answer (next c) ≡ bytes
    go (Ok given) h = absurd (omega arith)
    go (Err why) h = refl
left_where_refused bytes (Err why) ask next h = refl

page_where_refused : (r : Result Chip Refusal) (page : List ℕ) (offset : ℕ) → 0 < answer_number (asked r (λ c. (saved.save c page offset).answer)) → page_by r page offset ≡ page
unfolding saved.save
page_where_refused (Ok c) page offset h = go (cases_Bool (leb (offset + record_size) (length page))) h
  where
    go : (leb (offset + record_size) (length page) ≡ true) ⊎ (leb (offset + record_size) (length page) ≡ false) → 0 < answer_number (saved.save c page offset).answer → (saved.save c page offset).page ≡ page
    go (inl t) h = let z : 0 < 0 = rw t at h in absurd (omega arith)
    go (inr t) h = rw t
page_where_refused (Err why) page offset h = refl

kept_where_told : (call : HostCall) → 0 < number_told call → chip_after call ≡ chip_before call
unfolding host.read host.write host.run host.pins host.lines host.load host.save
kept_where_told (reads bytes address) h = left_where_refused bytes (saved.load bytes) (λ c. (chip.read c address).answer) (λ c. (chip.read c address).chip) h
kept_where_told (writes bytes address value) h = left_where_refused bytes (saved.load bytes) (λ c. (chip.write c address value).answer) (λ c. (chip.write c address value).chip) h
kept_where_told (runs bytes ticks) h = left_where_refused bytes (saved.load bytes) (λ c. (chip.run c ticks).answer) (λ c. (chip.run c ticks).chip) h
kept_where_told (pins bytes levels) h = left_where_refused bytes (saved.load bytes) host.accepted (λ c. chip.pins c (host.reset_high levels) (host.ps_high levels)) h
kept_where_told (lines bytes) h = refl
kept_where_told (loads bytes input) h = left_where_refused bytes (saved.load input) host.accepted (λ c. c) h
kept_where_told (saves bytes page offset) h = page_where_refused (saved.load bytes) page offset h
kept_where_told (decodes bytes mode) h = refl
kept_where_told (encodes bytes seconds weekday mode) h = refl

-- a refusal leaves chip and page as they stood
pub refusal_changes_nothing : (call : HostCall) → AreBytes (chip_before call) → 0 < answer_of call → chip_after call ≡ chip_before call
refusal_changes_nothing call small h = kept_where_told call (rw (answer_is_told call small) at h)

-- the buffer of a refused encode is all zeros, whatever its length
pub refused_encode_gives_zeros : (bytes : List ℕ) (seconds weekday mode : ℕ) → 0 < answer_of (encodes bytes seconds weekday mode)
    → (host.encode bytes seconds weekday mode).bytes ≡ replicate (length bytes) 0
unfolding host.encode encoded
refused_encode_gives_zeros bytes seconds weekday mode h = go (cases_Bool (eqb (length bytes) 7 && is_time (time_by seconds weekday))) h
  where
    go : (eqb (length bytes) 7 && is_time (time_by seconds weekday) ≡ true) ⊎ (eqb (length bytes) 7 && is_time (time_by seconds weekday) ≡ false)
        → 0 < answer_in (host.encode bytes seconds weekday mode).word → (host.encode bytes seconds weekday mode).bytes ≡ replicate (length bytes) 0
    go (inl t) h = let z : 0 < answer_in 0 = rw t at h in absurd (omega arith)
    go (inr t) h = rw t

-- every refusal follows the table
pub ruleset table = (refusals_by_the_table, refusal_changes_nothing, refused_encode_gives_zeros)
