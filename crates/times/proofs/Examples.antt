-- The starred plate-room examples hold: each row of the table by computation.
use mathlib.Core.Path.{refl}
use Rattle.fields.specs.Steps.{step, half_day_step, hour_step}
use Rattle.calendar.specs.Days.{last_days, last_day_of}
use Rattle.calendar.specs.Advance.{one_second_on, ordinary}
use Rattle.calendar.specs.Daylight.{springs, repeats, advance}
use Rattle.times.specs.Days.{days_before_year, day_of}
use Rattle.times.specs.Times.{is_valid, time_of}
use Rattle.times.specs.Examples.{starred, AllSay}

pub starred_examples_hold : AllSay starred
unfolding starred advance springs repeats ordinary one_second_on step half_day_step hour_step last_days last_day_of is_valid time_of day_of days_before_year
starred_examples_hold = (refl, (refl, (refl, (refl, (refl, (refl, (refl, (refl, (refl, (refl, (refl, ((λ b. refl), ((λ b. refl), ((refl, refl), ((refl, refl), tt)))))))))))))))
