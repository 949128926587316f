-- A chip in bytes: held by 72 of them, or saved somewhere in a page.
use Rattle.std.specs.Prelude.{◌≡◌, List, ℕ, ◌+◌, ◌≤◌, length, take, drop, Ok}
use Rattle.chip.specs.declared.Chip.{Chip}
use Rattle.saved.specs.Calls.{record_size, load}

-- Saved chip: the bytes load, as this chip.
abbrev pub Holds : List ℕ → Chip → Type 0
Holds bytes chip = load bytes ≡ Ok chip

-- Calls and their refusals, save: a record has room at the offset.
abbrev pub FitsAt : ℕ → List ℕ → Type 0
FitsAt offset page = offset + record_size ≤ length page

-- Saved chip: the bytes of the record that begins at the offset.
abbrev pub saved_at : ℕ → List ℕ → List ℕ
saved_at offset page = take record_size (drop offset page)
