-- The clock's seven bytes, in the order of the locations 0, 2, 4, 6, 7, 8 and 9.
use Rattle.std.specs.Prelude.{List, [], ◌∷◌, ℕ, get_or}
use Rattle.calendar.specs.declared.Clock.{Clock}

-- Advancing by one second, the time calls: seven bytes as a clock, lowest location first.
abbrev pub clock_at : List ℕ → Clock
clock_at l =
    record {
      seconds = get_or l 0 0;
      minutes = get_or l 1 0;
      hours = get_or l 2 0;
      weekday = get_or l 3 0;
      date = get_or l 4 0;
      month = get_or l 5 0;
      year = get_or l 6 0;
    }

-- Advancing by one second, the time calls: the seven bytes of a clock, in the same order.
abbrev pub bytes_of : Clock → List ℕ
bytes_of c = c.seconds ∷ c.minutes ∷ c.hours ∷ c.weekday ∷ c.date ∷ c.month ∷ c.year ∷ []
