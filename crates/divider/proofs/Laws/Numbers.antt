-- Laws on plain numbers: multiples of a step, low bits, and the count of trailing zero bits. Assumes nothing.
-- They stay: the library has none of multiples of a step, and its law of trailing zeros speaks of single bits.
use mathlib.Core.Path.{◌≡◌, refl, sym, ap, ◌∙◌}
use mathlib.Core.Bool.{Bool, true, false, ◌&&◌, not}
use mathlib.Core.Logic.{◌⊎◌, inl, inr}
use Prim.Native.Nat.{ℕ, zero, suc, ◌+◌, ◌-◌, ◌*◌, ◌/◌, ◌%◌, ◌^◌, ◌≤◌, ◌<◌}
use native.Mathlib.Nat.{pow-suc, pow-succ', le_of_suc-le-suc, not-suc-le-zero, mul-le-mul_right, lt_of_mul-lt-mul_right, div-add-mod', mod-lt, mul-sub, mul_comm}
use native.Mathlib.Omega.{arith}
use lib.Arith.{mod-mul, digits_div, digits_mod}
use lib.Count.{count_trailing_zeros, under}
use Rattle.cases.proofs.Tests.{eqb_case}
use lib.Dec.{eqb}
use lib.Pow.{pow_pos, field}
use borrow.Author.Tests.{eqb-true, eqb-false, eq-eqb, ne_eqb}

-- ---- multiples of a step

pub multiples_differ_by_a_step : (s x y : ℕ) → x * s < y * s → x * s + s ≤ y * s
multiples_differ_by_a_step s x y h = let k = mul-le-mul_right s (lt_of_mul-lt-mul_right s h) in omega arith

-- what is left of a multiple, with multiples taken away, is a multiple
rest_is_multiple : (s m k r : ℕ) → s * m ≡ s * k + r → r ≡ (m - k) * s
rest_is_multiple s m k r e = let d = mul-sub s m k in omega (arith, mul_comm s (m - k))

remainder_is_multiple : (h s a m x : ℕ) → h ≡ a * s → x ≡ m * s → x % h ≡ (m - x / h * a) * s
remainder_is_multiple h s a m x hs xs =
    rest_is_multiple s m (x / h * a) (x % h) (put (x / h) (x % h) (div-add-mod' x h))
  where
    put : (q r : ℕ) → q * h + r ≡ x → s * m ≡ s * (q * a) + r
    put q r e = let f : q * h ≡ q * (a * s) = ap (λ (y : ℕ). q * y) hs in omega (arith, e, f)

-- ---- low bits

-- the low k + 1 bits are bit k, and the k bits below it
pub low_bits_from_the_top : (n k : ℕ) → n % 2 ^ suc k ≡ (n / 2 ^ k % 2) * 2 ^ k + n % 2 ^ k
low_bits_from_the_top n k = ap (λ (x : ℕ). n % x) (pow-succ' 2 k) ∙ mod-mul n (omega arith) (pow_pos k)

pub top_of_low_bits : (n k : ℕ) → n % 2 ^ suc k / 2 ^ k ≡ n / 2 ^ k % 2
top_of_low_bits n k = let e : 1 + k ≡ suc k = omega arith in rw e at (field n 1 k)

-- one more low bit: those of the number halved, with the lowest behind them
low_bits_from_the_bottom : (n k : ℕ) → n % 2 ^ suc (suc k) ≡ (n / 2 % 2 ^ suc k) * 2 + n % 2
low_bits_from_the_bottom n k = ap (λ (x : ℕ). n % x) (pow-suc 2 (suc k)) ∙ mod-mul n (pow_pos (suc k)) (omega arith)

-- ---- trailing zero bits

zeros_give_remainder : (w n k : ℕ) → k < w → count_trailing_zeros w n ≡ k → n % 2 ^ suc k ≡ 2 ^ k
unfolding count_trailing_zeros
zeros_give_remainder zero n k h e = absurd (not-suc-le-zero h)
zeros_give_remainder (suc w) n zero h e = go (n % 2) refl e
  where
    go : (r : ℕ) → n % 2 ≡ r → under r (count_trailing_zeros w (n / 2)) ≡ 0 → n % 2 ≡ 1
    go zero q z = omega arith
    go (suc r) q z = omega arith
zeros_give_remainder (suc w) n (suc k) h e =
    go (n % 2) refl e (zeros_give_remainder w (n / 2) k (le_of_suc-le-suc h))
  where
    go : (r : ℕ) → n % 2 ≡ r → under r (count_trailing_zeros w (n / 2)) ≡ suc k → (count_trailing_zeros w (n / 2) ≡ k → n / 2 % 2 ^ suc k ≡ 2 ^ k) → n % 2 ^ suc (suc k) ≡ 2 ^ suc k
    go zero q z f = let i = f (omega arith) in omega (arith, low_bits_from_the_bottom n k)
    go (suc r) q z f = omega arith

remainder_gives_zeros : (w n k : ℕ) → k < w → n % 2 ^ suc k ≡ 2 ^ k → count_trailing_zeros w n ≡ k
unfolding count_trailing_zeros
remainder_gives_zeros zero n k h e = absurd (not-suc-le-zero h)
remainder_gives_zeros (suc w) n zero h e = ap (λ (r : ℕ). under r (count_trailing_zeros w (n / 2))) e
remainder_gives_zeros (suc w) n (suc k) h e =
    let z : n % 2 ≡ 0 = omega (arith, low_bits_from_the_bottom n k) in
    let i : n / 2 % 2 ^ suc k ≡ 2 ^ k = omega (arith, low_bits_from_the_bottom n k) in
    ap (λ (r : ℕ). under r (count_trailing_zeros w (n / 2))) z ∙ ap suc (remainder_gives_zeros w (n / 2) k (le_of_suc-le-suc h) i)

-- k of the w low bits are trailing zeros exactly if the low k + 1 bits are a 1 and then k zeros
pub zeros_are_a_remainder : (w n k : ℕ) → k < w → eqb (count_trailing_zeros w n) k ≡ eqb (n % 2 ^ suc k) (2 ^ k)
zeros_are_a_remainder w n k h = go (eqb (count_trailing_zeros w n) k) refl
  where
    go : (t : Bool) → eqb (count_trailing_zeros w n) k ≡ t → t ≡ eqb (n % 2 ^ suc k) (2 ^ k)
    go true e = sym (eq-eqb (n % 2 ^ suc k) (2 ^ k) (zeros_give_remainder w n k h (eqb-true (count_trailing_zeros w n) k e)))
    go false e = sym (ne_eqb (n % 2 ^ suc k) (2 ^ k) (λ z. eqb-false (count_trailing_zeros w n) k e (remainder_gives_zeros w n k h z)))

-- ---- a bit that rises

-- x and x + s, in multiples of s, and a bit of weight h, a multiple of s too: what lies at and below the bit is h alone exactly if the bit rose
pub bit_rises_where_the_rest_is_0 : (h s a m x : ℕ) → 0 < h → 0 < s → h ≡ a * s → x ≡ m * s
    → eqb ((x + s) / h % 2 * h + (x + s) % h) h ≡ eqb ((x + s) / h % 2) 1 && not (eqb (x / h % 2) 1)
bit_rises_where_the_rest_is_0 h s a m x hp sp hs xs = go (eqb_case (r + s) h) (parity (q % 2) refl (mod-lt q (omega arith)))
  where
    q : ℕ
    q = x / h

    r : ℕ
    r = x % h

    parts : q * h + r ≡ x
    parts = div-add-mod' x h

    room : r + s ≤ h
    room =
        let e = remainder_is_multiple h s a m x hs xs in
        let g = multiples_differ_by_a_step s (m - q * a) a (omega (arith, e, hs, mod-lt x hp)) in
        omega (arith, e, g, hs)

    parity : (b : ℕ) → q % 2 ≡ b → b < 2 → (q % 2 ≡ 0) ⊎ (q % 2 ≡ 1)
    parity zero e l = inl e
    parity (suc zero) e l = inr e
    parity (suc (suc b)) e l = absurd (omega arith)

    go : ((r + s ≡ h) × (eqb (r + s) h ≡ true)) ⊎ ((r + s ≡ h → ⊥) × (eqb (r + s) h ≡ false)) → (q % 2 ≡ 0) ⊎ (q % 2 ≡ 1)
        → eqb ((x + s) / h % 2 * h + (x + s) % h) h ≡ eqb ((x + s) / h % 2) 1 && not (eqb (q % 2) 1)
    go (inl f) b = over b
      where
        e : x + s ≡ (q + 1) * h + 0
        e = omega (arith, parts, f.0)

        d : (x + s) / h ≡ q + 1
        d = ap (λ (y : ℕ). y / h) e ∙ digits_div (q + 1) hp

        z : (x + s) % h ≡ 0
        z = ap (λ (y : ℕ). y % h) e ∙ digits_mod (q + 1) hp

        over : (q % 2 ≡ 0) ⊎ (q % 2 ≡ 1) → eqb ((x + s) / h % 2 * h + (x + s) % h) h ≡ eqb ((x + s) / h % 2) 1 && not (eqb (q % 2) 1)
        over (inl b) = let n : (q + 1) % 2 ≡ 1 = omega arith in rw (d, z, n, b) (eq-eqb (1 * h + 0) h (omega arith))
        over (inr b) = let n : (q + 1) % 2 ≡ 0 = omega arith in rw (d, z, n) (ne_eqb (0 * h + 0) h (omega arith))
    go (inr f) b = under b
      where
        l : r + s < h
        l = omega (arith, room, f.0)

        e : x + s ≡ q * h + (r + s)
        e = omega (arith, parts)

        d : (x + s) / h ≡ q
        d = ap (λ (y : ℕ). y / h) e ∙ digits_div q l

        z : (x + s) % h ≡ r + s
        z = ap (λ (y : ℕ). y % h) e ∙ digits_mod q l

        under : (q % 2 ≡ 0) ⊎ (q % 2 ≡ 1) → eqb ((x + s) / h % 2 * h + (x + s) % h) h ≡ eqb ((x + s) / h % 2) 1 && not (eqb (q % 2) 1)
        under (inl b) = rw (d, z, b) (ne_eqb (0 * h + (r + s)) h (omega arith))
        under (inr b) = rw (d, z, b) (ne_eqb (1 * h + (r + s)) h (omega arith))
