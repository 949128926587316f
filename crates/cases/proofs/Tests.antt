-- What a test tells, in each of its two ways: the fact, and the value of the Bool that a definition goes by.
-- These stay: the library has the two ways of a test and its value, and not both at once.
use mathlib.Core.Path.{◌≡◌}
use mathlib.Core.Bool.{true, false}
use mathlib.Core.Logic.{◌⊎◌, inl, inr}
use Prim.Native.Nat.{ℕ, ◌≤◌, ◌<◌}
use lib.Dec.{leb, ltb, eqb}
use Rattle.std.proofs.lemmas.Bool.{cases_Bool}
use borrow.Author.Tests.{leb-true, leb-false, ltb-true, ltb-false, eqb-true, eqb-false}

pub leb_case : (a b : ℕ) → ((a ≤ b) × (leb a b ≡ true)) ⊎ ((b < a) × (leb a b ≡ false))
leb_case a b = go (cases_Bool (leb a b))
  where
    go : (leb a b ≡ true) ⊎ (leb a b ≡ false) → ((a ≤ b) × (leb a b ≡ true)) ⊎ ((b < a) × (leb a b ≡ false))
    go (inl e) = inl (leb-true a b e, e)
    go (inr e) = inr (leb-false a b e, e)

pub ltb_case : (a b : ℕ) → ((a < b) × (ltb a b ≡ true)) ⊎ ((b ≤ a) × (ltb a b ≡ false))
ltb_case a b = go (cases_Bool (ltb a b))
  where
    go : (ltb a b ≡ true) ⊎ (ltb a b ≡ false) → ((a < b) × (ltb a b ≡ true)) ⊎ ((b ≤ a) × (ltb a b ≡ false))
    go (inl e) = inl (ltb-true a b e, e)
    go (inr e) = inr (ltb-false a b e, e)

pub eqb_case : (a b : ℕ) → ((a ≡ b) × (eqb a b ≡ true)) ⊎ ((a ≡ b → ⊥) × (eqb a b ≡ false))
eqb_case a b = go (cases_Bool (eqb a b))
  where
    go : (eqb a b ≡ true) ⊎ (eqb a b ≡ false) → ((a ≡ b) × (eqb a b ≡ true)) ⊎ ((a ≡ b → ⊥) × (eqb a b ≡ false))
    go (inl e) = inl (eqb-true a b e, e)
    go (inr e) = inr (eqb-false a b e, e)
