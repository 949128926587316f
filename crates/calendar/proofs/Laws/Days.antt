-- The last days: the table that the code reads, and their size.
use mathlib.Core.Path.{◌≡◌, refl}
use mathlib.Core.Bool.{Bool, true, false, ◌&&◌}
use mathlib.Core.List.{List, [], ◌∷◌}
use mathlib.Core.Logic.{◌⊎◌, inl, inr}
use Prim.Native.Nat.{ℕ, zero, suc, ◌+◌, ◌-◌, ◌≤◌, ◌<◌}
use native.Mathlib.Nat.{le_of_suc-le-suc, not-suc-le-zero}
use native.Mathlib.Omega.{arith}
use lib.Dec.{leb, eqb}
use lib.ListN.{length, get_or}
use borrow.Author.Tests.{leb-true, eqb-true, eqb-false}
use Rattle.std.proofs.lemmas.Bool.{and_parts, cases_Bool}
use Rattle.fields.proofs.Laws.Ranges.{range_fact}
use Rattle.fields.specs.declared.DataMode.{DataMode}
use Rattle.fields.specs.Bytes.{value_of, in_range}
use Rattle.calendar.specs.Days.{last_days, last_day, is_leap, last_day_of}

pub twelve_months : (leap : Bool) → length (last_days leap) ≡ 12
unfolding last_days
twelve_months leap = refl

-- each length is from low to high
abbrev between : ℕ → ℕ → List ℕ → Bool
between low high [] = true
between low high (x ∷ xs) = leb low x && (leb x high && between low high xs)

between_at : (low high : ℕ) (xs : List ℕ) (i : ℕ) → between low high xs ≡ true → i < length xs → (low ≤ get_or xs i 0) × (get_or xs i 0 ≤ high)
between_at low high [] i t h = absurd (not-suc-le-zero h)
between_at low high (x ∷ xs) zero t h =
    let r = (and_parts (leb low x) _ t).1 in
    (leb-true low x ((and_parts (leb low x) _ t).0), leb-true x high ((and_parts (leb x high) _ r).0))
between_at low high (x ∷ xs) (suc i) t h =
    between_at low high xs i ((and_parts (leb x high) _ ((and_parts (leb low x) _ t).1)).1) (le_of_suc-le-suc h)

all_between : (leap : Bool) → between 28 31 (last_days leap) ≡ true
unfolding last_days
all_between true = refl
all_between false = refl

pub month_is_28_to_31 : (leap : Bool) (i : ℕ) → i < 12 → (28 ≤ get_or (last_days leap) i 0) × (get_or (last_days leap) i 0 ≤ 31)
month_is_28_to_31 leap i h = between_at 28 31 (last_days leap) i (all_between leap) (omega (arith, twelve_months leap))

pub last_day_is_28_to_31 : (leap : Bool) (month : ℕ) → 1 ≤ month → month ≤ 12 → (28 ≤ last_day leap month) × (last_day leap month ≤ 31)
last_day_is_28_to_31 leap month a b = month_is_28_to_31 leap (month - 1) (omega arith)

-- whatever the bytes are
pub last_day_of_is_28_to_31 : (mode : DataMode) (month year : ℕ) → (28 ≤ last_day_of mode month year) × (last_day_of mode month year ≤ 31)
unfolding last_day_of
last_day_of_is_28_to_31 mode month year = go (cases_Bool (in_range mode 1 12 month))
  where
    go : (in_range mode 1 12 month ≡ true) ⊎ (in_range mode 1 12 month ≡ false) → (28 ≤ last_day_of mode month year) × (last_day_of mode month year ≤ 31)
    go (inl e) = let r = range_fact mode 1 12 month e in rw e (last_day_is_28_to_31 (is_leap mode year) (value_of mode month) r.low r.high)
    go (inr e) = rw e (omega arith)

-- ---- the table that the code reads

pub february_29 : (leap : Bool) (month : ℕ) → leap && eqb month 2 ≡ true → 29 ≡ last_day leap month
unfolding last_days
february_29 leap month t = let e = eqb-true month 2 ((and_parts leap _ t).1) in rw (e, (and_parts leap _ t).0)

table_at : (leap : Bool) (i : ℕ) → leap && eqb (i + 1) 2 ≡ false → get_or (31 ∷ 28 ∷ 31 ∷ 30 ∷ 31 ∷ 30 ∷ 31 ∷ 31 ∷ 30 ∷ 31 ∷ 30 ∷ 31 ∷ []) i 0 ≡ get_or (last_days leap) i 0
unfolding last_days
table_at false i t = refl
table_at true zero t = refl
table_at true (suc zero) t = absurd (eqb-false 2 2 t refl)
table_at true (suc (suc i)) t = refl

pub table_has_the_rest : (leap : Bool) (month : ℕ) → leap && eqb month 2 ≡ false → 1 ≤ month
    → get_or (31 ∷ 28 ∷ 31 ∷ 30 ∷ 31 ∷ 30 ∷ 31 ∷ 31 ∷ 30 ∷ 31 ∷ 30 ∷ 31 ∷ []) (month - 1) 0 ≡ last_day leap month
table_has_the_rest leap month t h = let e : month - 1 + 1 ≡ month = omega arith in table_at leap (month - 1) (rw e t)
