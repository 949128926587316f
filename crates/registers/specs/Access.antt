-- Who may read or write a location, and when.
use Rattle.std.specs.Prelude.{Bool, cond, ◌&&◌, ◌||◌, ℕ, eqb, leb, ltb, Result, Ok, Err}
use Rattle.refusals.specs.declared.Refusal.{Refusal}
use Rattle.refusals.specs.declared.Refusal.TheVariants.{Address, Reset, Window, ReadOnly, TestPattern}
use Rattle.refusals.specs.Numbers.{then_ask}
use Rattle.divider.specs.Divider.{in_window, test_pattern}
use Rattle.registers.specs.declared.Regs.{Regs}
use Rattle.registers.specs.Bits.{dv_of, base_of}

-- Divider and ticks: the closed window is while an update is pending and the count is in the window's range.
abbrev pub closed : Regs → Bool
closed r = r.pending && in_window (base_of r.a) r.divider

-- Calls and their refusals, 2 to 4: no such address, then RESET low, then the ten clock and alarm locations in the closed window.
unfoldable pub access : Regs → ℕ → Result (Unit {0}) Refusal
access r address =
    cond (ltb 63 address) (Err Address)
    (cond r.resetlow (Err Reset)
    (cond (leb address 9 && closed r) (Err Window)
    (Ok tt)))

-- Calls and their refusals, 2 to 6: a write asks what a read asks; then C and D cannot be written, nor a test pattern into A.
unfoldable pub write_access : Regs → ℕ → ℕ → Result (Unit {0}) Refusal
write_access r address value =
    then_ask (access r address)
    (cond (eqb address 12 || eqb address 13) (Err ReadOnly)
    (cond (eqb address 10 && test_pattern (dv_of value)) (Err TestPattern)
    (Ok tt)))
