-- The check asks for it: what the loop keeps.
use Rattle.std.proofs.Common.{◌≡◌}
use Rattle.ticks.specs.Tick.{ticks}
use Rattle.ticks.proofs.ticks.Given as goal

abbrev pub invariant-loop : goal.invariant-loop
invariant-loop l = l.regs ≡ ticks l.counter l.initial.regs
