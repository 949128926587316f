-- The hours byte, whose meaning goes by the hour mode too: on a twelve-hour clock bit 7 is PM.
use Rattle.std.specs.Prelude.{Bool, ◌&&◌, ℕ, ◌+◌, ◌*◌, ◌/◌, ◌%◌, ltb}
use Rattle.fields.specs.declared.Mode.{Mode}
use Rattle.fields.specs.Modes.{by_hours}
use Rattle.fields.specs.Bytes.{value_of, byte_of, in_range}

-- Advancing by one second, a valid time: which hour of the day, 0 to 23, an hours byte tells. Twelve o'clock counts as 0, and PM adds 12.
abbrev pub hour_of : Mode → ℕ → ℕ
hour_of m b =
    by_hours m.hours (value_of m.data b) (value_of m.data (b % 128) % 12 + 12 * (b / 128))

-- Advancing by one second, a valid time: and the byte that tells an hour of the day.
abbrev pub hour_byte : Mode → ℕ → ℕ
hour_byte m x =
    by_hours m.hours (byte_of m.data x) (byte_of m.data ((x + 11) % 12 + 1) + 128 * (x / 12))

-- Advancing by one second, a valid time: table 3's range is 0 to 23; on a twelve-hour clock 1 to 12, with or without bit 7.
abbrev pub hour_in_range : Mode → ℕ → Bool
hour_in_range m b =
    by_hours m.hours (in_range m.data 0 23 b) (ltb b 256 && in_range m.data 1 12 (b % 128))
