-- The check asks for it: what the loop keeps.
use Rattle.times.proofs.Laws.Code.{Reached}
use Rattle.times.proofs.place_of.Given as goal

abbrev pub invariant-loop-month : goal.invariant-loop-month
invariant-loop-month l = Reached l.leap l.day l.month l.left
