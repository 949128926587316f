-- How often the date moves in a number of updates.
use Rattle.std.specs.Prelude.{cond, ℕ, zero, suc, ◌+◌, eqb}
use Rattle.fields.specs.declared.Mode.{Mode}
use Rattle.calendar.specs.declared.Clock.{Clock}
use Rattle.calendar.specs.Advance.{one_second_on}
use Rattle.times.specs.Times.{seconds_on}

-- Plate-room examples: 1 for a date that is another after an update, else 0.
abbrev pub date_moved : ℕ → ℕ → ℕ
date_moved before after = cond (eqb before after) 0 1

-- Plate-room examples: the updates among the first n that move the date.
unfoldable pub date_moves : Mode → ℕ → Clock → ℕ
date_moves m zero c = 0
date_moves m (suc n) c =
    date_moves m n c + date_moved (seconds_on m n c).date (one_second_on m (seconds_on m n c)).date
