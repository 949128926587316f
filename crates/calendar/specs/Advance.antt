-- The clock one second on, daylight saving apart. Each field is carried into by the one before it.
use Rattle.std.specs.Prelude.{Bool, true, ◌&&◌, not}
use Rattle.fields.specs.declared.Mode.{Mode}
use Rattle.fields.specs.declared.Stepped.{Stepped}
use Rattle.fields.specs.Steps.{step, hour_step}
use Rattle.calendar.specs.declared.Clock.{Clock}
use Rattle.calendar.specs.declared.Advanced.{Advanced}
use Rattle.calendar.specs.Days.{last_day_of}

-- Advancing by one second: the seconds go from 59 to 0, and move with every update.
abbrev pub seconds_step : Mode → Clock → Stepped
seconds_step m c = step m.data 0 59 true c.seconds

-- Advancing by one second: the minutes go from 59 to 0.
abbrev pub minutes_step : Mode → Clock → Stepped
minutes_step m c = step m.data 0 59 (seconds_step m c).carries c.minutes

-- Advancing by one second: the hours, in their mode.
abbrev pub hours_step : Mode → Clock → Stepped
hours_step m c = hour_step m (minutes_step m c).carries c.hours

-- Advancing by one second: the weekday goes from 7 to 1 and moves on the hours' carry; what it carries goes nowhere.
abbrev pub weekday_step : Mode → Clock → Stepped
weekday_step m c = step m.data 1 7 (hours_step m c).carries c.weekday

-- Advancing by one second: the date goes from the month's last day to 1 and moves on the hours' carry, with the weekday.
abbrev pub date_step : Mode → Clock → Stepped
date_step m c = step m.data 1 (last_day_of m.data c.month c.year) (hours_step m c).carries c.date

-- Advancing by one second: the month goes from 12 to 1.
abbrev pub month_step : Mode → Clock → Stepped
month_step m c = step m.data 1 12 (date_step m c).carries c.month

-- Advancing by one second: the year goes from 99 to 0.
abbrev pub year_step : Mode → Clock → Stepped
year_step m c = step m.data 0 99 (month_step m c).carries c.year

-- Advancing by one second: all seven fields.
unfoldable pub one_second_on : Mode → Clock → Clock
one_second_on m c =
    record {
      seconds = (seconds_step m c).byte;
      minutes = (minutes_step m c).byte;
      hours = (hours_step m c).byte;
      weekday = (weekday_step m c).byte;
      date = (date_step m c).byte;
      month = (month_step m c).byte;
      year = (year_step m c).byte;
    }

-- Advancing by one second, DSE: an update that moves the date clears the mark of the repeated hour; any other leaves it.
unfoldable pub ordinary : Mode → Bool → Clock → Advanced
ordinary m used c = record { clock = one_second_on m c; used = used && not (hours_step m c).carries }
