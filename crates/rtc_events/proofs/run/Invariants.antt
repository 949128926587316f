-- The check asks for it: what the loop keeps.
use Rattle.std.proofs.Common.{◌<◌}
use Rattle.rtc_events.proofs.run.Given as goal

abbrev pub invariant-loop : goal.invariant-loop
invariant-loop g l = l.program.left < 4
