-- The two modes of the clock's bytes.
use Rattle.std.specs.Prelude.{cond, ℕ, ◌/◌, ◌%◌, eqb}
use Rattle.fields.specs.declared.Mode.{Mode}
use Rattle.fields.specs.declared.DataMode.TheVariants.{Bcd, Binary}
use Rattle.fields.specs.declared.HourMode.{HourMode}
use Rattle.fields.specs.declared.HourMode.TheVariants.{Twelve, TwentyFour}

-- Locations: in register B bit 2, DM, is 1 for binary and bit 1, 24/12, is 1 for 24 hours.
abbrev pub mode_of : ℕ → Mode
mode_of b = record { «data» = cond (eqb (b / 4 % 2) 1) Binary Bcd; hours = cond (eqb (b / 2 % 2) 1) TwentyFour Twelve }

-- Locations: the first of two for 24 hours, the second for 12.
abbrev pub by_hours : {A : Type 0} → HourMode → A → A → A
by_hours TwentyFour a b = a
by_hours Twelve a b = b
