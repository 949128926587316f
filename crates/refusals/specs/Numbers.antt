-- The numbers of the refusals and of answers.
use Rattle.std.specs.Prelude.{ℕ, Result, Ok, Err}
use Rattle.refusals.specs.declared.Refusal.{Refusal}
use Rattle.refusals.specs.declared.Refusal.TheVariants.{Length, Address, Reset, Window, ReadOnly, TestPattern, Ticks, Rules, Time, Kind}

-- Calls and their refusals: the first column of the table, row by row.
abbrev pub number_of : Refusal → ℕ
number_of Length = 1
number_of Address = 2
number_of Reset = 3
number_of Window = 4
number_of ReadOnly = 5
number_of TestPattern = 6
number_of Ticks = 7
number_of Rules = 8
number_of Time = 9
number_of Kind = 10

-- Calls and their refusals: the number of an answer, 0 where the call is accepted.
abbrev pub answer_number : {A : Type 0} → Result A Refusal → ℕ
answer_number (Ok given) = 0
answer_number (Err why) = number_of why

-- Calls and their refusals: where the first answer refuses nothing, the second decides.
abbrev pub then_ask : {A B : Type 0} → Result A Refusal → Result B Refusal → Result B Refusal
then_ask (Ok given) next = next
then_ask (Err why) next = Err why
