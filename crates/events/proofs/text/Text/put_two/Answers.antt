-- The check asks for it: the digits are those of the table.
use Rattle.std.proofs.Common.{◌∙◌}
use Rattle.events.proofs.Laws.Digits.{both_in_table}
use Rattle.events.proofs.text.Text.put_two.Goals as goal

pub returns : goal.returns
returns c = c.put_pair.ensures ∙ both_in_table _ _ c.requires.0
