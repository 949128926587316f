-- The text of a line, in ASCII.
use Rattle.std.specs.Prelude.{Bool, cond, List, [], ◌∷◌, ◌++◌, ℕ, zero, suc, ◌+◌, ◌/◌, ◌%◌, ltb}
use Rattle.chip.specs.Calls.{lines}
use Rattle.events.specs.declared.text.Line.{Line}
use Rattle.events.specs.Events.{EventResult}

-- Saved chip and event file: a number that needs at most so many digits, in decimal: the last digit is its rest by 10, and what is above
-- it stands in front, where there is any.
unfoldable pub digits : ℕ → ℕ → List ℕ
digits zero n = []
digits (suc places) n = cond (ltb n 10) ((48 + n) ∷ []) (digits places (n / 10) ++ ((48 + n % 10) ∷ []))

-- Saved chip and event file: no number of a line needs more than ten, the digits of the last record's number.
unfoldable pub decimal : ℕ → List ℕ
decimal n = digits 10 n

-- Saved chip and event file: both digits of a number below 100.
abbrev pub two_digits : ℕ → List ℕ
two_digits n = (48 + n / 10) ∷ (48 + n % 10) ∷ []

-- Saved chip and event file: a line's level is 1 or 0.
abbrev pub level : Bool → ℕ
level on = cond on 49 48

-- Saved chip and event file: a space (32) stands between the decimals.
abbrev pub field : ℕ → List ℕ
field n = decimal n ++ (32 ∷ [])

-- Saved chip and event file: record number, answer, byte, IRQ and SQW, and a line feed (10).
unfoldable pub line_text : ℕ → ℕ → ℕ → Bool → Bool → List ℕ
line_text number answer byte irq sqw =
    field number ++ (field answer ++ (field byte ++ (level irq ∷ 32 ∷ level sqw ∷ 10 ∷ [])))

-- Saved chip and event file: the same of a line's parts.
abbrev pub text_of : Line → List ℕ
text_of l = line_text l.number l.answer l.byte l.irq l.sqw

-- Saved chip and event file: a record's line shows the lines as the chip has them after it.
abbrev pub line_of : ℕ → EventResult → List ℕ
line_of number e = line_text number e.answer e.byte (lines e.chip).irq (lines e.chip).sqw

-- Saved chip and event file: room that every line fits into. Ten digits, two numbers of three, two levels, four spaces and the line feed are 23.
abbrev pub line_room : ℕ
line_room = 24
