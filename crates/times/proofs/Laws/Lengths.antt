-- Lengths laid end to end: what stands before one of them, and the one that a number falls into.
use mathlib.Core.Path.{◌≡◌, refl, ap}
use mathlib.Core.Bool.{true, false}
use mathlib.Core.List.{List, [], ◌∷◌}
use mathlib.Core.Logic.{◌⊎◌, inl, inr}
use Prim.Native.Nat.{ℕ, zero, suc, ◌+◌, ◌-◌, ◌≤◌, ◌<◌}
use native.Mathlib.Nat.{le_of_suc-le-suc, not-suc-le-zero}
use native.Mathlib.Omega.{arith}
use lib.Dec.{ltb}
use lib.ListN.{length, get_or}
use borrow.Author.Tests.{lt-ltb, le-ltb}
use Rattle.cases.proofs.Tests.{ltb_case}
use Rattle.times.specs.Days.{before, part, within}

pub before_next : (xs : List ℕ) (i : ℕ) → i < length xs → before xs (suc i) ≡ before xs i + get_or xs i 0
before_next [] i h = absurd (not-suc-le-zero h)
before_next (x ∷ []) zero h = omega arith
before_next (x ∷ y ∷ xs) zero h = omega arith
before_next (x ∷ xs) (suc i) h = omega (arith, before_next xs i (le_of_suc-le-suc h))

pub before_fits : (xs : List ℕ) (i : ℕ) → i < length xs → before xs i + get_or xs i 0 ≤ before xs (length xs)
before_fits [] i h = absurd (not-suc-le-zero h)
before_fits (x ∷ xs) zero h = omega arith
before_fits (x ∷ xs) (suc i) h = omega (arith, before_fits xs i (le_of_suc-le-suc h))

-- the part that n falls into begins no later than n, and n lies in it
pub record Falls (xs : List ℕ) (n : ℕ) : Type 0 where
  pub sum : before xs (part xs n) + within xs n ≡ n
  pub known : part xs n < length xs
  pub inside : within xs n < get_or xs (part xs n) 0

pub falls : (xs : List ℕ) (n : ℕ) → n < before xs (length xs) → Falls xs n
falls [] n h = absurd (not-suc-le-zero h)
falls (x ∷ xs) n h = go (falls xs (n - x)) (ltb_case n x)
  where
    go : (n - x < before xs (length xs) → Falls xs (n - x)) → ((n < x) × (ltb n x ≡ true)) ⊎ ((x ≤ n) × (ltb n x ≡ false)) → Falls (x ∷ xs) n
    go f (inl t) = record { sum = rw t.1 (omega arith); known = rw t.1 (omega arith); inside = rw t.1 t.0 }
    go f (inr t) =
        let r = f (omega arith) in
        record { sum = rw t.1 (omega arith); known = rw t.1 (omega arith); inside = rw t.1 r.inside }

-- and where n lies r into the part i, that is the part it falls into
pub falls_into : (xs : List ℕ) (i r : ℕ) → i < length xs → r < get_or xs i 0 → (part xs (before xs i + r) ≡ i) × (within xs (before xs i + r) ≡ r)
falls_into [] i r h k = absurd (not-suc-le-zero h)
falls_into (x ∷ xs) zero r h k =
    let z : 0 + r ≡ r = omega arith in
    let t : ltb r x ≡ true = lt-ltb r x k in
    rw (z, t) (refl, refl)
falls_into (x ∷ xs) (suc i) r h k =
    let f = falls_into xs i r (le_of_suc-le-suc h) k in
    let t : ltb (x + before xs i + r) x ≡ false = le-ltb (x + before xs i + r) x (omega arith) in
    let m : x + before xs i + r - x ≡ before xs i + r = omega arith in
    rw (t, m) (ap suc f.0, f.1)
