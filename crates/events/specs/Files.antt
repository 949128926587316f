-- What is printed for a file: a function of the list of its bytes.
use Rattle.std.specs.Prelude.{Bool, cond, List, [], ◌∷◌, ◌++◌, ℕ, ◌+◌, eqb, slice_index}
use Rattle.chip.specs.Chips.{fresh}
use Rattle.events.specs.declared.State.{State}
use Rattle.events.specs.Events.{event_of, part_event}
use Rattle.events.specs.Text.{line_of}

-- Saved chip and event file: the number of the last record that is worked.
abbrev pub last_record : ℕ
last_record = 4294967295

-- Saved chip and event file: a file starts from a fresh chip, with no record done.
unfoldable pub start : State
start = record { chip = fresh; done = 0 }

-- Saved chip and event file: whether the last record has had its line.
abbrev pub finished : State → Bool
finished s = eqb s.done last_record

-- Saved chip and event file: what a whole record leaves. Past the last one, nothing is done.
unfoldable pub after : State → ℕ → ℕ → ℕ → ℕ → State
after s kind address low high =
    cond (finished s) s (record { chip = (event_of s.chip kind address low high).chip; done = s.done + 1 })

-- Saved chip and event file: the line of a whole record. Records are numbered from 1, and none past the last one has a line.
unfoldable pub line : State → ℕ → ℕ → ℕ → ℕ → List ℕ
line s kind address low high =
    cond (finished s) [] (line_of (s.done + 1) (event_of s.chip kind address low high))

-- Saved chip and event file: what a record of these four bytes leaves.
abbrev pub after_record : State → List ℕ → State
after_record s bytes = after s (slice_index bytes 0) (slice_index bytes 1) (slice_index bytes 2) (slice_index bytes 3)

-- Saved chip and event file: and its line.
abbrev pub record_line : State → List ℕ → List ℕ
record_line s bytes = line s (slice_index bytes 0) (slice_index bytes 1) (slice_index bytes 2) (slice_index bytes 3)

-- Saved chip and event file: the line of a last part-record.
unfoldable pub part_line : State → List ℕ
part_line s = cond (finished s) [] (line_of (s.done + 1) (part_event s.chip))

-- Saved chip and event file: the state after the whole records of a list of bytes, one after the other.
unfoldable pub state_after : State → List ℕ → State
state_after s (kind ∷ address ∷ low ∷ high ∷ rest) = state_after (after s kind address low high) rest
state_after s [] = s
state_after s (_ ∷ []) = s
state_after s (_ ∷ _ ∷ []) = s
state_after s (_ ∷ _ ∷ _ ∷ []) = s

-- Saved chip and event file: a line for each four bytes, and one for what is left of fewer; no bytes print nothing.
unfoldable pub printed_from : State → List ℕ → List ℕ
printed_from s (kind ∷ address ∷ low ∷ high ∷ rest) =
    line s kind address low high ++ printed_from (after s kind address low high) rest
printed_from s [] = []
printed_from s (_ ∷ []) = part_line s
printed_from s (_ ∷ _ ∷ []) = part_line s
printed_from s (_ ∷ _ ∷ _ ∷ []) = part_line s

-- Saved chip and event file: what a whole file prints.
abbrev pub printed : List ℕ → List ℕ
printed bytes = printed_from start bytes
