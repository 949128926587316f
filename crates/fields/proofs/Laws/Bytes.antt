-- A clock byte in a data mode: there and back, order, size. Each law is one for both modes.
use mathlib.Core.Path.{◌≡◌, refl, sym, ◌∙◌}
use mathlib.Core.Bool.{true, false}
use mathlib.Core.Logic.{◌⊎◌, inl, inr}
use Prim.Native.Nat.{ℕ, ◌+◌, ◌*◌, ◌/◌, ◌%◌, ◌≤◌, ◌<◌}
use native.Mathlib.Omega.{arith}
use lib.Dec.{leb}
use borrow.Author.Tests.{le-leb, lt-leb}
use Rattle.cases.proofs.Tests.{leb_case}
use Rattle.fields.specs.declared.DataMode.{DataMode}
use Rattle.fields.specs.declared.DataMode.TheVariants.{Bcd, Binary}
use Rattle.fields.specs.Bytes.{value_of, byte_of, ordinary_next}

-- what a byte must be to stand for a number: in BCD its lower half is one of 0 to 9
abbrev pub Digits : DataMode → ℕ → Type 0
Digits Binary b = Unit {0}
Digits Bcd b = b % 16 < 10

-- ---- there and back

pub value_of_byte : (mode : DataMode) (x : ℕ) → value_of mode (byte_of mode x) ≡ x
value_of_byte Binary x = refl
value_of_byte Bcd x = omega arith

pub byte_of_value : (mode : DataMode) (b : ℕ) → Digits mode b → byte_of mode (value_of mode b) ≡ b
byte_of_value Binary b d = refl
byte_of_value Bcd b d = omega arith

pub byte_has_digits : (mode : DataMode) (x : ℕ) → Digits mode (byte_of mode x)
byte_has_digits Binary x = tt
byte_has_digits Bcd x = omega arith

pub next_is_one_more : (mode : DataMode) (b : ℕ) → Digits mode b
    → (value_of mode (ordinary_next mode b) ≡ value_of mode b + 1) × Digits mode (ordinary_next mode b)
next_is_one_more Binary b d = (refl, tt)
next_is_one_more Bcd b d = go (leb_case 9 (b % 16))
  where
    go : ((9 ≤ b % 16) × (leb 9 (b % 16) ≡ true)) ⊎ ((b % 16 < 9) × (leb 9 (b % 16) ≡ false))
        → (value_of Bcd (ordinary_next Bcd b) ≡ value_of Bcd b + 1) × Digits Bcd (ordinary_next Bcd b)
    go (inl t) = rw t.1 (omega arith)
    go (inr t) = rw t.1 (omega arith)

-- ---- order

pub byte_at_most : (mode : DataMode) {x b : ℕ} → Digits mode b → x ≤ value_of mode b → byte_of mode x ≤ b
byte_at_most Binary d h = h
byte_at_most Bcd d h = omega arith

pub byte_above : (mode : DataMode) {x b : ℕ} → Digits mode b → value_of mode b < x → b < byte_of mode x
byte_above Binary d h = h
byte_above Bcd d h = omega arith

pub byte_in_order : (mode : DataMode) {x y : ℕ} → x < y → byte_of mode x < byte_of mode y
byte_in_order Binary h = h
byte_in_order Bcd h = omega arith

-- "at least" on bytes is "at least" on numbers
pub leb_of_byte : (mode : DataMode) (x b : ℕ) → Digits mode b → leb (byte_of mode x) b ≡ leb x (value_of mode b)
leb_of_byte mode x b d = go (leb_case x (value_of mode b))
  where
    go : ((x ≤ value_of mode b) × (leb x (value_of mode b) ≡ true)) ⊎ ((value_of mode b < x) × (leb x (value_of mode b) ≡ false))
        → leb (byte_of mode x) b ≡ leb x (value_of mode b)
    go (inl t) = le-leb (byte_of mode x) b (byte_at_most mode d t.0) ∙ sym t.1
    go (inr t) = lt-leb (byte_of mode x) b (byte_above mode d t.0) ∙ sym t.1

-- ---- size

pub byte_small : (mode : DataMode) {x : ℕ} → x < 100 → byte_of mode x < 154
byte_small Binary h = omega arith
byte_small Bcd h = omega arith

pub hour_small : (mode : DataMode) {x : ℕ} → x ≤ 12 → byte_of mode x < 19
hour_small Binary h = omega arith
hour_small Bcd h = omega arith

pub value_small : (mode : DataMode) {b : ℕ} → Digits mode b → value_of mode b ≤ 12 → b < 128
value_small Binary d h = omega arith
value_small Bcd d h = omega arith

pub next_above : (mode : DataMode) (b : ℕ) → b < ordinary_next mode b
next_above Binary b = omega arith
next_above Bcd b = go (leb_case 9 (b % 16))
  where
    go : ((9 ≤ b % 16) × (leb 9 (b % 16) ≡ true)) ⊎ ((b % 16 < 9) × (leb 9 (b % 16) ≡ false)) → b < ordinary_next Bcd b
    go (inl t) = rw t.1 (omega arith)
    go (inr t) = rw t.1 (omega arith)

-- the next byte is at most the next tens
pub next_below : (mode : DataMode) (b : ℕ) → ordinary_next mode b ≤ b / 16 * 16 + 16
next_below Binary b = omega arith
next_below Bcd b = go (leb_case 9 (b % 16))
  where
    go : ((9 ≤ b % 16) × (leb 9 (b % 16) ≡ true)) ⊎ ((b % 16 < 9) × (leb 9 (b % 16) ≡ false)) → ordinary_next Bcd b ≤ b / 16 * 16 + 16
    go (inl t) = rw t.1 (omega arith)
    go (inr t) = rw t.1 (omega arith)
