-- The check asks for it: what the loop keeps.
use mathlib.Core.Path.{◌≡◌}
use Prim.Native.Nat.{◌≤◌}
use Rattle.times.specs.Times.{seconds_on}
use Rattle.plate_room.specs.Walk.{date_moves}
use Rattle.plate_room.proofs.walk.Given as goal

abbrev pub invariant-loop : goal.invariant-loop
invariant-loop l = (l.moves ≤ l.counter) × (l.clock ≡ seconds_on l.mode l.counter l.initial.clock) × (l.moves ≡ date_moves l.mode l.counter l.initial.clock)
