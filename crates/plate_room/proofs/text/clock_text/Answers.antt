-- The check asks for it: the text is ASCII.
use Rattle.std.proofs.Common.{rules, [], ◌∷◌}
use Rattle.plate_room.proofs.TextLaws.{clock_text_is_ascii}
use Rattle.plate_room.proofs.text.clock_text.Goals as goal

pub returns-clause-ascii : goal.returns-clause-ascii
returns-clause-ascii c =
    clock_text_is_ascii c.args.clock (search rules) (search rules) (search rules) (search rules) (search rules) (search rules) (search rules)
    (c.high.result ∷ c.low.result ∷ 32 ∷ c.high-2.result ∷ c.low-2.result ∷ 32 ∷ c.high-3.result ∷ c.low-3.result ∷ 32 ∷ c.high-4.result ∷ c.low-4.result ∷ 32 ∷ c.high-5.result ∷ c.low-5.result ∷ 32 ∷ c.high-6.result ∷ c.low-6.result ∷ 32 ∷ c.high-7.result ∷ c.low-7.result ∷ [])
    (search rules)
