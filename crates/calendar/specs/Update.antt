-- A whole update: the clock one second on, and the alarm.
use Rattle.std.specs.Prelude.{Bool, ◌&&◌, ◌||◌, ℕ, eqb, leb}
use Rattle.fields.specs.declared.Mode.{Mode}
use Rattle.calendar.specs.declared.Clock.{Clock}
use Rattle.calendar.specs.declared.Alarm.{Alarm}
use Rattle.calendar.specs.declared.Updated.{Updated}
use Rattle.calendar.specs.Daylight.{advance}

-- Advancing by one second, alarm match: an alarm byte of hex C0 or more matches any byte, another one only itself.
abbrev pub matches_byte : ℕ → ℕ → Bool
matches_byte alarm clock = leb 192 alarm || eqb alarm clock

-- Advancing by one second, alarm match: seconds, minutes and hours all match.
unfoldable pub alarm_matches : Alarm → Clock → Bool
alarm_matches a c =
    matches_byte a.seconds c.seconds && (matches_byte a.minutes c.minutes && matches_byte a.hours c.hours)

-- Divider and ticks: an update advances the clock and holds the alarm against the new time.
unfoldable pub update : Mode → Bool → Bool → Alarm → Clock → Updated
update m dse used a c =
    record {
      clock = (advance m dse used c).clock;
      used = (advance m dse used c).used;
      matched = alarm_matches a (advance m dse used c).clock;
    }
