-- Lists that are put together from parts: a record inside a page, and a part element by element.
-- They stay: the library has no table of a list, nor a part given back in this form.
use mathlib.Core.Path.{◌≡◌, refl, sym, ap, ◌∙◌}
use mathlib.Core.List.{List, [], ◌∷◌, ◌++◌}
use Prim.Native.Nat.{ℕ, zero, suc, ◌+◌, ◌-◌, ◌≤◌}
use native.Mathlib.Nat.{le_of_suc-le-suc}
use native.Mathlib.Omega.{arith}
use lib.ListN.{length, get_or, take, drop, length-drop}
use lib.Seq.{take_all, get_or-drop, drop-drop}

-- ---- lent

-- the page whose part of n bytes from o on came back as `part`
pub part_comes_back : (o n : ℕ) (page part given : List ℕ) → part ≡ given
    → take o page ++ (part ++ drop (o + n - o) (drop o page)) ≡ take o page ++ (given ++ drop (o + n) page)
part_comes_back o n page part given e =
    let h : o + n - o ≡ n = omega arith in
    rw (e, h, drop-drop)

-- ---- element by element

abbrev pub table : ℕ → (ℕ → ℕ) → List ℕ
table zero f = []
table (suc n) f = f 0 ∷ table n (λ k. f (suc k))

pub take_is_table : (n : ℕ) (l : List ℕ) → n ≤ length l → take n l ≡ table n (λ k. get_or l k 0)
take_is_table zero l h = refl
take_is_table (suc n) [] h = absurd (omega arith)
take_is_table (suc n) (x ∷ l) h = ap (λ (r : List ℕ). x ∷ r) (take_is_table n l (le_of_suc-le-suc h))

pub drop_is_table : (n k : ℕ) (l : List ℕ) → length l ≡ n + k → drop n l ≡ table k (λ i. get_or l (n + i) 0)
drop_is_table n k l h =
    let m : length (drop n l) ≡ k = simp length-drop (omega arith) in
    let e : table k (λ i. get_or (drop n l) i 0) ≡ table k (λ i. get_or l (n + i) 0) = simp get_or-drop in
    sym (take_all k (drop n l) (omega arith)) ∙ take_is_table k (drop n l) (omega arith) ∙ e
