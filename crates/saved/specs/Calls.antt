-- The calls load and save: their answers, and what they leave, on every input.
use Rattle.std.specs.Prelude.{cond, List, ◌++◌, ℕ, ◌+◌, eqb, leb, length, take, drop, Result, Ok, Err}
use Rattle.refusals.specs.declared.Refusal.{Refusal}
use Rattle.refusals.specs.declared.Refusal.TheVariants as refusal
use Rattle.chip.specs.declared.Chip.{Chip}
use Rattle.saved.specs.Record.{record_of, chip_of}
use Rattle.saved.specs.Rules.{keeps_rules}

-- Saved chip: a record has this many bytes.
abbrev pub record_size : ℕ
record_size = 72

-- Calls and their refusals, load: 1 where the input has not the size of a record, then 8 where it breaks a record rule;
-- otherwise the chip that stands in it. Beside a refusal there is no chip: the caller keeps its own.
unfoldable pub load : List ℕ → Result Chip Refusal
load l = cond (eqb (length l) record_size) (cond (keeps_rules l) (Ok (chip_of l)) (Err refusal.Rules)) (Err refusal.Length)

-- Calls and their refusals, save: what a save answers, and the page that it leaves.
pub record Saving : Type 0 where
  pub answer : Result (Unit {0}) Refusal
  pub page : List ℕ

-- Calls and their refusals, save: the two together.
abbrev pub saving_of : Result (Unit {0}) Refusal → List ℕ → Saving
saving_of answer page = record { answer = answer; page = page }

-- Calls and their refusals, save, and Saved chip: 1, and the page as it stood, where the page ends before the record would;
-- otherwise the record stands at the offset, and every byte before and behind it stays.
unfoldable pub save : Chip → List ℕ → ℕ → Saving
save chip page offset =
    cond (leb (offset + record_size) (length page))
    (saving_of (Ok tt) (take offset page ++ (record_of chip ++ drop (offset + record_size) page)))
    (saving_of (Err refusal.Length) page)
