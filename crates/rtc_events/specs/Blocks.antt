-- The bytes that a block holds: whole records, and the start of one more.
use Rattle.std.specs.Prelude.{List, ℕ, ◌-◌, ◌%◌, take, drop}

-- Saved chip and event file: of the first bytes of a block, those of the records that are whole.
abbrev pub whole_of : ℕ → List ℕ → List ℕ
whole_of total block = take (total - total % 4) block

-- Saved chip and event file: and those of a record that is not whole yet.
abbrev pub part_of : ℕ → List ℕ → List ℕ
part_of total block = take (total % 4) (drop (total - total % 4) block)
