-- The check asks for it: what the loop keeps.
use Rattle.std.proofs.Common.{◌*◌}
use Rattle.events.proofs.Laws.Files.{Reached}
use Rattle.events.proofs.State.work.Given as goal

abbrev pub invariant-loop-bytes : goal.invariant-loop-bytes
invariant-loop-bytes l = Reached l.input l.initial.out l.initial.self l.out l.self l.end (4 * l.bytes-index)
