-- The words that a host's call returns, and what a call leaves.
use Rattle.std.specs.Prelude.{cond, List, ℕ, ◌+◌, ◌*◌, ◌%◌, Result, Ok, Err}
use Rattle.refusals.specs.declared.Refusal.{Refusal}
use Rattle.refusals.specs.Numbers.{number_of}
use Rattle.times.specs.declared.Time.{Time}
use Rattle.chip.specs.declared.Levels.{Levels}

-- Host interface, result words: the byte in bits 0 to 7 and the refusal's number in bits 8 to 15.
abbrev pub refused_word : ℕ → Refusal → ℕ
refused_word byte why = byte + 256 * number_of why

-- Host interface, result words: an accepted read's word is its byte; a refused one shows 255.
abbrev pub byte_word : Result ℕ Refusal → ℕ
byte_word (Ok byte) = byte
byte_word (Err why) = refused_word 255 why

-- Host interface, result words: a call that has no byte shows 0, accepted or refused.
abbrev pub answer_word : Result (Unit {0}) Refusal → ℕ
answer_word (Ok _) = 0
answer_word (Err why) = refused_word 0 why

-- Host interface, result words: bit 0 of the byte is IRQ asserted, bit 1 is SQW high.
abbrev pub lines_word : Result Levels Refusal → ℕ
lines_word (Ok levels) = cond levels.irq 1 0 + 2 * cond levels.sqw 1 0
lines_word (Err why) = refused_word 0 why

-- Host interface, result words of 64 bits: the seconds in bits 0 to 31, the weekday in bits 32 to 39, the refusal's number in bits
-- 40 to 47. A refused decode has zeros for the first two.
abbrev pub decoded_word : Result Time Refusal → ℕ
decoded_word (Ok time) = time.seconds % 4294967296 + 4294967296 * (time.weekday % 256)
decoded_word (Err why) = 1099511627776 * number_of why

-- Host interface: what a call returns, and what it leaves in the bytes that were lent to it.
pub record Host : Type 0 where
  pub word : ℕ
  pub bytes : List ℕ

-- Host interface: the two together.
abbrev pub host_of : ℕ → List ℕ → Host
host_of word bytes = record { word = word; bytes = bytes }
