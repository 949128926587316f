-- The table of two digits for each number below 100, which the code reads, and what stands in it.
use mathlib.Core.Path.{◌≡◌, refl}
use mathlib.Core.Bool.{Bool, true, ◌&&◌}
use mathlib.Core.List.{List, ◌∷◌, ◌++◌}
use Prim.Native.Nat.{ℕ, zero, suc, ◌+◌, ◌*◌, ◌/◌, ◌%◌, ◌<◌}
use lib.Dec.{eqb}
use lib.ListN.{get_or}
use Rattle.std.specs.Prelude.{codes}
use Rattle.std.proofs.lemmas.Bool.Decides.{Decides-eqb, Decides-and, Decides-below_and}
use Rattle.events.specs.Text.{two_digits}

abbrev table : List ℕ
table = codes "00010203040506070809101112131415161718192021222324252627282930313233343536373839404142434445464748495051525354555657585960616263646566676869707172737475767778798081828384858687888990919293949596979899"

-- the digits of n stand at 2 n and behind it
abbrev HasDigits : ℕ → Type 0
HasDigits n = (get_or table (2 * n) 0 ≡ 48 + n / 10) × (get_or table (2 * n + 1) 0 ≡ 48 + n % 10)

-- the same as a test
abbrev has_digits : ℕ → Bool
has_digits n = eqb (get_or table (2 * n) 0) (48 + n / 10) && eqb (get_or table (2 * n + 1) 0) (48 + n % 10)

-- and of every smaller number
abbrev all_below : ℕ → Bool
all_below zero = true
all_below (suc n) = has_digits n && all_below n

in_table : (n : ℕ) → n < 100 → HasDigits n
in_table = (Decides-below_and has_digits HasDigits all_below (λ n. Decides-and _ _ (Decides-eqb _ _) (Decides-eqb _ _)) refl (λ n. refl) 100).0 refl

pub both_in_table : (n : ℕ) (rest : List ℕ) → n < 100 → get_or table (2 * n) 0 ∷ get_or table (2 * n + 1) 0 ∷ rest ≡ two_digits n ++ rest
both_in_table n rest h = rw ((in_table n h).0, (in_table n h).1)
