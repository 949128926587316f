-- The check asks for it: ASCII is taken as text.
use Rattle.plate_room.proofs.TextLaws.{ascii_is_taken}
use Rattle.plate_room.proofs.text.as_text.Goals as goal

pub unwrap-requires : goal.unwrap-requires
unwrap-requires c = ascii_is_taken _ _ _ _ c.requires c.from_utf8.ensures.cases
