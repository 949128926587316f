-- The check asks for it: the text is ASCII.
use Rattle.std.proofs.Common.{rules, [], ◌∷◌}
use Rattle.plate_room.proofs.TextLaws.{alarm_text_is_ascii}
use Rattle.plate_room.proofs.text.alarm_text.Goals as goal

pub returns-clause-ascii : goal.returns-clause-ascii
returns-clause-ascii c =
    alarm_text_is_ascii c.args.alarm (search rules) (search rules) (search rules)
    (c.high.result ∷ c.low.result ∷ 32 ∷ c.high-2.result ∷ c.low-2.result ∷ 32 ∷ c.high-3.result ∷ c.low-3.result ∷ [])
    (search rules)
