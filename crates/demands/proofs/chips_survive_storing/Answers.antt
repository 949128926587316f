-- The clause is a record of facts, which the search would take apart: the lemma is named.
use Rattle.saved.proofs.Laws.Calls.{loaded_keeps_rules}
use Rattle.demands.proofs.chips_survive_storing.Goals as goal

pub returns-clause-rules : goal.returns-clause-rules
returns-clause-rules c bytes chip small loaded = loaded_keeps_rules bytes small chip loaded
