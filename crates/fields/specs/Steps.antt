-- A field of the clock after an update. "At least" compares bytes, so each rule holds for every byte.
use Rattle.std.specs.Prelude.{Bool, true, false, cond, ℕ, ◌+◌, ◌-◌, ◌*◌, ◌/◌, ◌%◌, eqb, leb}
use Rattle.fields.specs.declared.Mode.{Mode}
use Rattle.fields.specs.declared.DataMode.{DataMode}
use Rattle.fields.specs.declared.Stepped.{Stepped}
use Rattle.fields.specs.Modes.{by_hours}
use Rattle.fields.specs.Bytes.{byte_of, ordinary_next}

-- Advancing by one second: a field at byte b that carries into the next one.
abbrev carrying : ℕ → Stepped
carrying b = record { byte = b; carries = true }

-- Advancing by one second: a field at byte b that does not carry.
abbrev resting : ℕ → Stepped
resting b = record { byte = b; carries = false }

-- Advancing by one second: a field that is carried into goes from a byte at least its last to its first and carries; any
-- other byte goes to the ordinary next. A field that is not carried into stays.
unfoldable pub step : DataMode → ℕ → ℕ → Bool → ℕ → Stepped
step mode first last carried b =
    cond carried
    (cond (leb (byte_of mode last) b) (carrying (byte_of mode first)) (resting (ordinary_next mode b)))
    (resting b)

-- Advancing by one second, 12-hour: below PM, anything from 12 up becomes 1, and 11 becomes 12 and turns PM over, with a carry
-- if it was PM; every other byte has its ordinary next, under the same PM.
unfoldable pub half_day_step : DataMode → ℕ → Stepped
half_day_step mode b =
    cond (leb (byte_of mode 12) (b % 128)) (resting (byte_of mode 1 + 128 * (b / 128)))
    (cond (eqb (b % 128) (byte_of mode 11))
    (record { byte = byte_of mode 12 + 128 * (1 - b / 128); carries = eqb (b / 128) 1 })
    (resting (ordinary_next mode (b % 128) + 128 * (b / 128))))

-- Advancing by one second: the hours go from 23 to 0 and carry, or by the 12-hour rule.
unfoldable pub hour_step : Mode → Bool → ℕ → Stepped
hour_step m carried b =
    by_hours m.hours (step m.data 0 23 carried b) (cond carried (half_day_step m.data b) (resting b))
