-- The event file that the paper prints, and its four lines.
use mathlib.Core.Path.{◌≡◌, refl}
use mathlib.Core.List.{List, [], ◌∷◌, ◌++◌}
use Prim.Native.Nat.{ℕ}
use Rattle.divider.specs.Divider as divider
use Rattle.registers.specs.Access.{access, write_access}
use Rattle.registers.specs.Calls as registers
use Rattle.registers.specs.Lines as lines
use Rattle.registers.specs.Locations as locations
use Rattle.chip.specs.Chips as chip
use Rattle.chip.specs.Calls as calls
use Rattle.events.specs.Events.{event_of}
use Rattle.events.specs.Text.{digits, decimal, line_text}
use Rattle.events.specs.Files.{start, after, line, printed_from, printed}

unfoldable pub file : List ℕ
file = 1 ∷ 14 ∷ 165 ∷ 0 ∷ 0 ∷ 14 ∷ 0 ∷ 0 ∷ 1 ∷ 12 ∷ 1 ∷ 0 ∷ 0 ∷ 64 ∷ 0 ∷ 0 ∷ []

-- 1 0 0 0 0, 2 0 165 0 0, 3 5 0 0 0, 4 2 255 0 0
unfoldable pub text : List ℕ
text =
    (49 ∷ 32 ∷ 48 ∷ 32 ∷ 48 ∷ 32 ∷ 48 ∷ 32 ∷ 48 ∷ 10 ∷ [])
    ++ ((50 ∷ 32 ∷ 48 ∷ 32 ∷ 49 ∷ 54 ∷ 53 ∷ 32 ∷ 48 ∷ 32 ∷ 48 ∷ 10 ∷ [])
    ++ ((51 ∷ 32 ∷ 53 ∷ 32 ∷ 48 ∷ 32 ∷ 48 ∷ 32 ∷ 48 ∷ 10 ∷ [])
    ++ (52 ∷ 32 ∷ 50 ∷ 32 ∷ 50 ∷ 53 ∷ 53 ∷ 32 ∷ 48 ∷ 32 ∷ 48 ∷ 10 ∷ [])))

pub example_printed : printed file ≡ text
unfolding file text start after line printed_from digits decimal line_text event_of access write_access registers.fresh registers.after_read registers.written lines.irqf lines.sqw locations.register_bytes divider.fresh divider.in_window divider.wave chip.locations chip.location chip.fresh chip.written calls.read calls.write calls.lines
example_printed = refl
