-- The seconds after an update never reach bit 7, whatever the bytes were before it.
use mathlib.Core.Path.{◌≡◌, refl}
use mathlib.Core.Bool.{Bool, true, false, ◌&&◌}
use mathlib.Core.Logic.{◌⊎◌, inl, inr}
use Prim.Native.Nat.{ℕ, ◌≤◌, ◌<◌}
use native.Mathlib.Omega.{arith}
use lib.Dec.{leb}
use Rattle.std.proofs.lemmas.Bool.{cases_Bool}
use Rattle.cases.proofs.Tests.{leb_case}
use Rattle.fields.specs.declared.Mode.{Mode}
use Rattle.fields.specs.declared.DataMode.{DataMode}
use Rattle.fields.specs.declared.DataMode.TheVariants.{Bcd, Binary}
use Rattle.fields.specs.Bytes.{byte_of}
use Rattle.fields.specs.Steps.{step}
use Rattle.fields.proofs.Laws.Bytes.{next_below}
use Rattle.calendar.specs.declared.Clock.{Clock}
use Rattle.calendar.specs.Advance.{one_second_on, ordinary}
use Rattle.calendar.specs.Daylight.{springs, repeats, advance}

fifty_nine : (mode : DataMode) → (byte_of mode 59 ≤ 89) × (byte_of mode 0 ≡ 0)
fifty_nine Binary = (omega arith, refl)
fifty_nine Bcd = (omega arith, refl)

step_below_128 : (mode : DataMode) (b : ℕ) → (step mode 0 59 true b).byte < 128
unfolding step
step_below_128 mode b = go (leb_case (byte_of mode 59) b)
  where
    go : ((byte_of mode 59 ≤ b) × (leb (byte_of mode 59) b ≡ true)) ⊎ ((b < byte_of mode 59) × (leb (byte_of mode 59) b ≡ false)) → (step mode 0 59 true b).byte < 128
    go (inl t) = rw t.1 (omega (arith, (fifty_nine mode).1))
    go (inr t) = rw t.1 (omega (arith, (fifty_nine mode).0, next_below mode b))

pub advance_seconds_below_128 : (m : Mode) (dse used : Bool) (c : Clock) → (advance m dse used c).clock.seconds < 128
unfolding advance ordinary one_second_on
advance_seconds_below_128 m dse used c = go (cases_Bool (dse && springs m c)) (cases_Bool (dse && repeats m used c))
  where
    go : (dse && springs m c ≡ true) ⊎ (dse && springs m c ≡ false) → (dse && repeats m used c ≡ true) ⊎ (dse && repeats m used c ≡ false)
        → (advance m dse used c).clock.seconds < 128
    go (inl s) r = rw s (omega arith)
    go (inr s) (inl r) = rw (s, r) (omega arith)
    go (inr s) (inr r) = rw (s, r) (step_below_128 m.data c.seconds)
