-- The words in which a refusal is shown.
use Rattle.std.specs.Prelude.{ℕ, List, codes}
use Rattle.refusals.specs.declared.Refusal.{Refusal}
use Rattle.refusals.specs.declared.Refusal.TheVariants.{Length, Address, Reset, Window, ReadOnly, TestPattern, Ticks, Rules, Time, Kind}

-- Calls and their refusals: the second column of the table, in words of our own.
abbrev pub words_of : Refusal → List ℕ
words_of Length = codes "the saved chip, the page or the record has not the length that it needs"
words_of Address = codes "there is no such location"
words_of Reset = codes "the RESET pin is low"
words_of Window = codes "an update is in its closed window"
words_of ReadOnly = codes "the register cannot be written"
words_of TestPattern = codes "the divider bits are a test pattern"
words_of Ticks = codes "there are too many ticks for one call"
words_of Rules = codes "the bytes break a rule of the saved chip"
words_of Time = codes "the bytes or the numbers are no time"
words_of Kind = codes "the event is of no known kind"
