-- Bits in a byte: taken out of it, and put together to it.
-- They stay: the library has none of bits taken out of a byte by division.
use mathlib.Core.Path.{◌≡◌, refl, ap, ◌∙◌}
use mathlib.Core.Bool.{Bool, true, false, cond}
use Prim.Native.Nat.{ℕ, zero, suc, ◌+◌, ◌-◌, ◌*◌, ◌/◌, ◌%◌, ◌≤◌, ◌<◌}
use native.Mathlib.Omega.{arith}
use lib.Dec.{eqb, leb}
use Rattle.cases.proofs.Tests.{leb_case}
use mathlib.Core.Logic.{◌⊎◌, inl, inr}
use Rattle.registers.specs.declared.Regs.{Regs}
use Rattle.registers.specs.Lines.{irqf}
use Rattle.registers.specs.Locations.{register_c}
use Rattle.saved.specs.Record.{bit_of, flags_of}

-- ---- one bit

bit_at_most_1 : (on : Bool) → bit_of on ≤ 1
bit_at_most_1 true = omega arith
bit_at_most_1 false = omega arith

bit_tells : (on : Bool) (n : ℕ) → n ≡ bit_of on → eqb n 1 ≡ on
bit_tells true n e = rw e
bit_tells false n e = rw e

bit_of_number : (n : ℕ) → n ≤ 1 → bit_of (eqb n 1) ≡ n
bit_of_number zero h = refl
bit_of_number (suc zero) h = refl
bit_of_number (suc (suc n)) h = absurd (omega arith)

-- a bit at its place, as a product
placed : (on : Bool) (v : ℕ) → cond on v 0 ≡ bit_of on * v
placed true v = omega arith
placed false v = omega arith

placed_number : (n v : ℕ) → n ≤ 1 → cond (eqb n 1) v 0 ≡ n * v
placed_number n v h = placed (eqb n 1) v ∙ ap (λ (b : ℕ). b * v) (bit_of_number n h)

-- ---- bits taken out

pub flags_taken_out : (r : Regs)
    → (eqb (flags_of r % 2) 1 ≡ r.pending)
    × (eqb (flags_of r / 2 % 2) 1 ≡ r.resetlow)
    × (eqb (flags_of r / 4 % 2) 1 ≡ r.pslow)
    × (eqb (flags_of r / 8 % 2) 1 ≡ r.used)
    × (flags_of r < 16)
flags_taken_out r =
    let p = bit_at_most_1 r.pending in
    let q = bit_at_most_1 r.resetlow in
    let s = bit_at_most_1 r.pslow in
    let u = bit_at_most_1 r.used in
    (bit_tells _ (flags_of r % 2) (omega arith), bit_tells _ (flags_of r / 2 % 2) (omega arith), bit_tells _ (flags_of r / 4 % 2) (omega arith), bit_tells _ (flags_of r / 8 % 2) (omega arith), omega arith)

pub c_taken_out : (r : Regs)
    → (eqb (register_c r / 64 % 2) 1 ≡ r.pf) × (eqb (register_c r / 32 % 2) 1 ≡ r.af) × (eqb (register_c r / 16 % 2) 1 ≡ r.uf)
c_taken_out r =
    let q = bit_at_most_1 (irqf r) in
    let p = bit_at_most_1 r.pf in
    let a = bit_at_most_1 r.af in
    let u = bit_at_most_1 r.uf in
    let e : register_c r ≡ bit_of (irqf r) * 128 + (bit_of r.pf * 64 + (bit_of r.af * 32 + bit_of r.uf * 16)) = rw (placed (irqf r) 128, placed r.pf 64, placed r.af 32, placed r.uf 16) in
    (bit_tells _ (register_c r / 64 % 2) (omega arith), bit_tells _ (register_c r / 32 % 2) (omega arith), bit_tells _ (register_c r / 16 % 2) (omega arith))

pub d_taken_out : (on : Bool) → eqb (cond on 128 0 / 128 % 2) 1 ≡ on
d_taken_out true = refl
d_taken_out false = refl

pub a_taken_out : (on : Bool) (a : ℕ) → a < 128 → (cond on 128 0 + a % 128) % 128 ≡ a
a_taken_out true a h = omega arith
a_taken_out false a h = omega arith

pub count_taken_out : (n : ℕ) → n < 16777216 → n % 256 + (n / 256 % 256 * 256 + n / 65536 % 256 * 65536) ≡ n
count_taken_out n h = omega arith

-- ---- bits put together

-- four bits, each from the half of what is above it
nibble : (n : ℕ) → n < 16 → n % 2 + (n / 2 % 2 * 2 + (n / 4 % 2 * 4 + n / 8 % 2 * 8)) ≡ n
nibble n h =
    let d : n / 4 ≡ n / 2 / 2 = omega arith in
    let e : n / 8 ≡ n / 2 / 2 / 2 = omega arith in
    rw (d, e) (omega arith)

pub flags_put_together : (n : ℕ) → n < 16
    → bit_of (eqb (n % 2) 1) + (bit_of (eqb (n / 2 % 2) 1) * 2 + (bit_of (eqb (n / 4 % 2) 1) * 4 + bit_of (eqb (n / 8 % 2) 1) * 8)) ≡ n
flags_put_together n h =
    rw (bit_of_number (n % 2) (omega arith), bit_of_number (n / 2 % 2) (omega arith), bit_of_number (n / 4 % 2) (omega arith), bit_of_number (n / 8 % 2) (omega arith))
    (nibble n h)

-- bit 7, and the seven below it
top_put_together : (n : ℕ) → n < 256 → cond (leb 128 n) 128 0 + n % 128 ≡ n
top_put_together n h = go (leb_case 128 n)
  where
    go : ((128 ≤ n) × (leb 128 n ≡ true)) ⊎ ((n < 128) × (leb 128 n ≡ false)) → cond (leb 128 n) 128 0 + n % 128 ≡ n
    go (inl t) = rw t.1 (omega arith)
    go (inr t) = rw t.1 (omega arith)

pub a_put_together : (n : ℕ) (pending : Bool) → n < 256 → leb 128 n ≡ pending → cond pending 128 0 + n % 128 % 128 ≡ n
a_put_together n pending h e = rw (← e) (let z : n % 128 % 128 ≡ n % 128 = omega arith in rw z (top_put_together n h))

-- the three flags of C
three_flags : (n : ℕ) → n % 16 ≡ 0 → n / 64 % 2 * 64 + (n / 32 % 2 * 32 + n / 16 % 2 * 16) ≡ n % 128
three_flags n l =
    let d : n / 32 ≡ n / 16 / 2 = omega arith in
    let e : n / 64 ≡ n / 16 / 2 / 2 = omega arith in
    let f : n / 128 ≡ n / 16 / 2 / 2 / 2 = omega arith in
    let g : n % 128 ≡ n - n / 128 * 128 = omega arith in
    rw (g, f, e, d) (omega arith)

pub c_put_together : (n : ℕ) (line : Bool) → n < 256 → n % 16 ≡ 0 → leb 128 n ≡ line
    → cond line 128 0 + (cond (eqb (n / 64 % 2) 1) 64 0 + (cond (eqb (n / 32 % 2) 1) 32 0 + cond (eqb (n / 16 % 2) 1) 16 0)) ≡ n
c_put_together n line h l e =
    rw (placed_number (n / 64 % 2) 64 (omega arith), placed_number (n / 32 % 2) 32 (omega arith), placed_number (n / 16 % 2) 16 (omega arith), ← e, three_flags n l)
    (top_put_together n h)

pub d_put_together : (n : ℕ) → n < 256 → n % 128 ≡ 0 → cond (eqb (n / 128 % 2) 1) 128 0 ≡ n
d_put_together n h l = rw (placed_number (n / 128 % 2) 128 (omega arith)) (omega arith)

pub count_put_together : (x y z : ℕ) → x < 256 → y < 256 → z < 256
    → ((x + (y * 256 + z * 65536)) % 256 ≡ x) × ((x + (y * 256 + z * 65536)) / 256 % 256 ≡ y) × ((x + (y * 256 + z * 65536)) / 65536 % 256 ≡ z)
count_put_together x y z h i j = (omega arith, omega arith, omega arith)
