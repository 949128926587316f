-- Clock bytes as text, in ASCII.
use Rattle.std.specs.Prelude.{cond, List, [], ◌∷◌, ℕ, ◌+◌, ◌/◌, ◌%◌, ltb}
use Rattle.calendar.specs.declared.Clock.{Clock}
use Rattle.calendar.specs.declared.Alarm.{Alarm}

-- Plate-room examples: bytes are shown in hex. The digit of a number below 16, in capitals.
abbrev pub digit_of : ℕ → ℕ
digit_of x = cond (ltb x 10) (48 + x) (55 + x)

-- Plate-room examples: a byte's two digits, in front of more text.
abbrev pub hex : ℕ → List ℕ → List ℕ
hex b rest = digit_of (b / 16) ∷ digit_of (b % 16) ∷ rest

-- Plate-room examples: the seven bytes of a clock in hex, in the order of the locations, apart by spaces.
abbrev pub clock_text : Clock → List ℕ
clock_text c =
    hex c.seconds (32 ∷ hex c.minutes (32 ∷ hex c.hours (32 ∷ hex c.weekday (32 ∷ hex c.date (32 ∷ hex c.month (32 ∷ hex c.year []))))))

-- Plate-room examples: the three bytes of an alarm in hex.
abbrev pub alarm_text : Alarm → List ℕ
alarm_text a = hex a.seconds (32 ∷ hex a.minutes (32 ∷ hex a.hours []))
