-- The clause is a record of facts, which the search would take apart: the lemma is named.
use Rattle.demands.proofs.Demand3.{time_is_kept_in_the_bytes}
use Rattle.demands.proofs.bytes_follow_the_chip.Goals as goal

pub returns-clause-time : goal.returns-clause-time
returns-clause-time c = time_is_kept_in_the_bytes
