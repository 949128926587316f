-- The check asks for it: what the loop keeps.
use Rattle.times.specs.Days.{before}
use Rattle.calendar.specs.Days.{last_days}
use mathlib.Core.Path.{◌≡◌}
use Prim.Native.Nat.{◌-◌}
use Rattle.times.proofs.days_before_month.Given as goal

abbrev pub invariant-loop-earlier : goal.invariant-loop-earlier
invariant-loop-earlier l = l.days ≡ before (last_days l.leap) (l.earlier - 1)
