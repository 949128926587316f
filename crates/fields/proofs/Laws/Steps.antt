-- A field's step as an equation for all modes: the new value and what it carries out add up to the old value and what was carried in.
use mathlib.Core.Path.{◌≡◌, refl, ◌∙◌}
use mathlib.Core.Bool.{Bool, true, false}
use mathlib.Core.Logic.{◌⊎◌, inl, inr}
use Prim.Native.Nat.{ℕ, ◌+◌, ◌-◌, ◌*◌, ◌≤◌, ◌<◌}
use native.Mathlib.Omega.{arith}
use lib.Dec.{leb}
use Rattle.cases.proofs.Tests.{leb_case}
use Rattle.fields.proofs.Laws.Bytes.{value_of_byte, byte_has_digits, leb_of_byte, next_is_one_more, next_above, byte_in_order}
use Rattle.fields.proofs.Laws.Ranges.{InRange}
use Rattle.fields.specs.declared.DataMode.{DataMode}
use Rattle.fields.specs.Bytes.{value_of, byte_of}
use Rattle.fields.specs.Steps.{step}

-- a carry as a number
abbrev pub carry_of : Bool → ℕ
carry_of true = 1
carry_of false = 0

pub carry_small : (c : Bool) → carry_of c ≤ 1
carry_small true = omega arith
carry_small false = omega arith

pub record Adds (mode : DataMode) (first last : ℕ) (carried : Bool) (b : ℕ) : Type 0 where
  pub sum : value_of mode (step mode first last carried b).byte + (last + 1 - first) * carry_of (step mode first last carried b).carries ≡ value_of mode b + carry_of carried
  pub within : InRange mode first last (step mode first last carried b).byte

pub step_adds : (mode : DataMode) (first last : ℕ) (carried : Bool) (b : ℕ) → first ≤ last → InRange mode first last b → Adds mode first last carried b
unfolding step
step_adds mode first last false b f r = record { sum = omega arith; within = r }
step_adds mode first last true b f r = go (leb_case last (value_of mode b))
  where
    go : ((last ≤ value_of mode b) × (leb last (value_of mode b) ≡ true)) ⊎ ((value_of mode b < last) × (leb last (value_of mode b) ≡ false))
        → Adds mode first last true b
    go (inl t) =
        let e : leb (byte_of mode last) b ≡ true = leb_of_byte mode last b r.digits ∙ t.1 in
        let x = value_of_byte mode first in
        record {
          sum = rw e (omega arith);
          within = rw e (record { digits = byte_has_digits mode first; low = omega arith; high = omega arith });
        }
    go (inr t) =
        let e : leb (byte_of mode last) b ≡ false = leb_of_byte mode last b r.digits ∙ t.1 in
        let n = next_is_one_more mode b r.digits in
        record {
          sum = rw e (omega arith);
          within = rw e (record { digits = n.1; low = omega arith; high = omega arith });
        }

-- a field that is carried into never stays, whatever byte it holds
pub step_moves : (mode : DataMode) (first last b : ℕ) → first < last → (step mode first last true b).byte ≡ b → ⊥
unfolding step
step_moves mode first last b f = go (leb_case (byte_of mode last) b)
  where
    go : ((byte_of mode last ≤ b) × (leb (byte_of mode last) b ≡ true)) ⊎ ((b < byte_of mode last) × (leb (byte_of mode last) b ≡ false))
        → (step mode first last true b).byte ≡ b → ⊥
    go (inl t) = rw t.1 (λ e. omega (arith, byte_in_order mode f))
    go (inr t) = rw t.1 (λ e. omega (arith, next_above mode b))

pub step_rests : (mode : DataMode) (first last b : ℕ) → (step mode first last false b).byte ≡ b
unfolding step
step_rests mode first last b = refl
