-- The two time calls, on buffers of any length.
use Rattle.std.specs.Prelude.{cond, ◌&&◌, List, ℕ, eqb, length, replicate, Result, Ok, Err}
use Rattle.refusals.specs.declared.Refusal.{Refusal}
use Rattle.refusals.specs.declared.Refusal.TheVariants as refused
use Rattle.fields.specs.declared.Mode.{Mode}
use Rattle.calendar.specs.Bytes.{clock_at, bytes_of}
use Rattle.times.specs.declared.Time.{Time}
use Rattle.times.specs.Times.{is_valid, is_time, time_of, clock_of}

-- Calls and their refusals, 9: a decode needs seven bytes that are a valid time.
unfoldable pub decoded : Mode → List ℕ → Result Time Refusal
decoded m l = cond (eqb (length l) 7 && is_valid m (clock_at l)) (Ok (time_of m (clock_at l))) (Err refused.Time)

-- Advancing by one second, the time calls: what an encode answers and leaves in the buffer.
pub record Encoding : Type 0 where
  pub answer : Result (Unit {0}) Refusal
  pub bytes : List ℕ

-- Advancing by one second, the time calls: the two together.
abbrev pub encoding_of : Result (Unit {0}) Refusal → List ℕ → Encoding
encoding_of answer bytes = record { answer = answer; bytes = bytes }

-- Calls and their refusals, 9: an encode needs a buffer of seven bytes and a time; where it is refused, the whole buffer
-- becomes zeros.
unfoldable pub encoded : Mode → Time → List ℕ → Encoding
encoded m t l =
    cond (eqb (length l) 7 && is_time t) (encoding_of (Ok tt) (bytes_of (clock_of m t)))
    (encoding_of (Err refused.Time) (replicate (length l) 0))
