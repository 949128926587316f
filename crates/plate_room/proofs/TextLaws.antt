-- The texts of clocks and alarms are ASCII, so that a formatter takes them.
use mathlib.Core.Path.{◌≡◌, refl, sym, subst}
use mathlib.Core.Bool.{Bool, true, false, cond}
use mathlib.Core.List.{List, [], ◌∷◌}
use Prim.Native.Nat.{ℕ, ◌+◌, ◌/◌, ◌%◌, ◌^◌, ◌-◌, ◌<◌}
use native.Mathlib.Omega.{arith}
use lib.Dec.{ltb}
use borrow.Author.Tests.{ltb-true}
use Rattle.std.specs.Prelude.{Result, Ok, Err, IsOk, MatchResult}
use Rattle.std.specs.Str.{IsAscii, IsUtf8}
use Rattle.std.specs.Fmt.{digits, padded_integral, format_spec}
use Rattle.std.proofs.lemmas.Fmt.{hex_byte}
use Rattle.std.proofs.lemmas.Str.{IsUtf8-from_ascii}
use Rattle.std.proofs.lemmas.Str.Ascii.{IsAscii-nil, IsAscii-cons}
use Rattle.calendar.specs.declared.Alarm.{Alarm}
use Rattle.calendar.specs.declared.Clock.{Clock}
use Rattle.plate_room.specs.Text.{digit_of, hex, clock_text, alarm_text}

-- What `{:02X}` writes is the same two digits.
pub two_digits : (n : ℕ) → n < 256 → padded_integral (format_spec 32 0 4 2 (2 ^ 64 - 1)) false [] (digits 16 true n) ≡ hex n []
two_digits n h = hex_byte true n h

digit_is_ascii : (x : ℕ) → x < 16 → digit_of x < 128
digit_is_ascii x h = go (ltb x 10) refl
  where
    go : (b : Bool) → ltb x 10 ≡ b → cond b (48 + x) (55 + x) < 128
    go true e = omega (arith, ltb-true x 10 e)
    go false e = omega arith

hex_is_ascii : (byte : ℕ) (rest : List ℕ) → byte < 256 → IsAscii rest → IsAscii (hex byte rest)
hex_is_ascii byte rest h r =
    IsAscii-cons (digit_of (byte / 16)) (digit_of (byte % 16) ∷ rest) (digit_is_ascii (byte / 16) (omega arith))
    (IsAscii-cons (digit_of (byte % 16)) rest (digit_is_ascii (byte % 16) (omega arith)) r)

spaced : (byte : ℕ) (rest : List ℕ) → byte < 256 → IsAscii rest → IsAscii (hex byte (32 ∷ rest))
spaced byte rest h r = hex_is_ascii byte (32 ∷ rest) h (IsAscii-cons 32 rest (omega arith) r)

pub clock_text_is_ascii : (c : Clock) → c.seconds < 256 → c.minutes < 256 → c.hours < 256 → c.weekday < 256 → c.date < 256 → c.month < 256 → c.year < 256
    → (text : List ℕ) → text ≡ clock_text c → IsAscii text
clock_text_is_ascii c s n h w d m y text e =
    let year : List ℕ = hex c.year [] in
    let month : List ℕ = hex c.month (32 ∷ year) in
    let date : List ℕ = hex c.date (32 ∷ month) in
    let weekday : List ℕ = hex c.weekday (32 ∷ date) in
    let hours : List ℕ = hex c.hours (32 ∷ weekday) in
    let minutes : List ℕ = hex c.minutes (32 ∷ hours) in
    subst IsAscii (sym e)
    (spaced c.seconds minutes s
    (spaced c.minutes hours n
    (spaced c.hours weekday h
    (spaced c.weekday date w (spaced c.date month d (spaced c.month year m (hex_is_ascii c.year [] y IsAscii-nil)))))))

pub alarm_text_is_ascii : (a : Alarm) → a.seconds < 256 → a.minutes < 256 → a.hours < 256
    → (text : List ℕ) → text ≡ alarm_text a → IsAscii text
alarm_text_is_ascii a s n h text e =
    let hours : List ℕ = hex a.hours [] in
    let minutes : List ℕ = hex a.minutes (32 ∷ hours) in
    subst IsAscii (sym e) (spaced a.seconds minutes s (spaced a.minutes hours n (hex_is_ascii a.hours [] h IsAscii-nil)))

-- ASCII is UTF-8.
pub ascii_is_taken : {T E : Type 0} (P : T → Type 0) (Q : E → Type 0) (bytes : List ℕ) (r : Result T E) → IsAscii bytes
    → MatchResult r P (λ e. ¬ (IsUtf8 bytes) × Q e) → IsOk r
ascii_is_taken P Q bytes (Ok text) a m = refl
ascii_is_taken P Q bytes (Err e) a m = absurd (m.0 (IsUtf8-from_ascii bytes a))
