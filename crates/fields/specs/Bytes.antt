-- A byte of the clock in a data mode.
use Rattle.std.specs.Prelude.{Bool, true, cond, ◌&&◌, ℕ, ◌+◌, ◌*◌, ◌/◌, ◌%◌, leb, ltb}
use Rattle.fields.specs.declared.DataMode.{DataMode}
use Rattle.fields.specs.declared.DataMode.TheVariants.{Bcd, Binary}

-- Advancing by one second: the number that a byte stands for. A BCD byte has the tens in its high and the ones in its low digit.
abbrev pub value_of : DataMode → ℕ → ℕ
value_of Bcd b = b / 16 * 10 + b % 16
value_of Binary b = b

-- Advancing by one second: the byte that the mode gives a number below 100.
abbrev pub byte_of : DataMode → ℕ → ℕ
byte_of Bcd x = x / 10 * 16 + x % 10
byte_of Binary x = x

-- Advancing by one second, ordinary next: one more; in BCD a low digit of 9 or more goes on to the next tens.
abbrev pub ordinary_next : DataMode → ℕ → ℕ
ordinary_next Bcd b = cond (leb 9 (b % 16)) (b / 16 * 16 + 16) (b + 1)
ordinary_next Binary b = b + 1

-- Advancing by one second, a valid time: the byte is one of the mode's own. In BCD the low digit is a decimal digit.
abbrev pub has_digits : DataMode → ℕ → Bool
has_digits Bcd b = ltb (b % 16) 10
has_digits Binary b = true

-- Advancing by one second, a valid time: the byte is one of the mode's own, in the range from first to last of the data
-- sheet's table 3. In BCD the high digit is a decimal digit too, as no range goes past 99.
abbrev pub in_range : DataMode → ℕ → ℕ → ℕ → Bool
in_range mode first last b = has_digits mode b && (leb first (value_of mode b) && leb (value_of mode b) last)
