-- Plate-room examples that follow from the laws: updates after release on the slowest base, and the fastest rate's tap. Assumes nothing.
use mathlib.Core.Path.{◌≡◌, refl}
use mathlib.Core.Bool.{false, false≢true}
use Prim.Native.Nat.{ℕ, ◌+◌, ◌-◌, ◌*◌, ◌/◌, ◌%◌}
use native.Mathlib.Omega.{arith}
use lib.Dec.{eqb}
use Rattle.std.specs.Prelude.{Some}
use Rattle.divider.specs.declared.Base.TheVariants.{Fastest, Slowest}
use Rattle.divider.specs.declared.Divider.{Divider}
use Rattle.divider.specs.Divider.{fresh, span, step_of, end_of, acts_as, tap_of, rose, count_of}
use Rattle.divider.proofs.Laws.Base.{slowest_is_base}
use Rattle.divider.proofs.Laws.Keeps.{fresh_keeps}
use Rattle.divider.proofs.Laws.Tap.{rose_is_remainder}
use Rattle.divider.proofs.Laws.Formula.{Course, ticks, completed_updates_at_rest}

abbrev pub released : Course
released = record { divider = fresh; pending = false; updates = 0 }

updates_after_release : (n : ℕ) → (ticks (Some Slowest) n released).updates ≡ (count_of fresh + n * step_of (Some Slowest) - end_of (Some Slowest)) / span
updates_after_release n =
    completed_updates_at_rest (Some Slowest) n released slowest_is_base
    (record { kept = fresh_keeps (Some Slowest); pending_before_end = λ e. absurd (false≢true e); none_yet = refl }) refl

pub first_update_ends_at_tick_16457 : ((ticks (Some Slowest) 16456 released).updates ≡ 0) × ((ticks (Some Slowest) 16457 released).updates ≡ 1)
unfolding step_of end_of count_of fresh
first_update_ends_at_tick_16457 = (updates_after_release 16456, updates_after_release 16457)

pub second_update_ends_at_tick_49225 : ((ticks (Some Slowest) 49224 released).updates ≡ 1) × ((ticks (Some Slowest) 49225 released).updates ≡ 2)
unfolding step_of end_of count_of fresh
second_update_ends_at_tick_49225 = (updates_after_release 49224, updates_after_release 49225)

pub rate_1_rises_at_64_and_each_128 : (d : Divider) → rose (Some Fastest) 1 d ≡ eqb (count_of d % 128) 64
unfolding tap_of acts_as
rate_1_rises_at_64_and_each_128 d = rose_is_remainder (Some Fastest) 1 d (omega arith)
