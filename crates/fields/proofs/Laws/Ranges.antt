-- A byte in its range: the facts, and the test that tells them.
use mathlib.Core.Path.{◌≡◌, refl}
use mathlib.Core.Bool.{true}
use Prim.Native.Nat.{ℕ, ◌%◌, ◌≤◌}
use native.Mathlib.Omega.{arith}
use lib.Dec.{leb}
use borrow.Author.Tests.{leb-true, le-leb, ltb-true, lt-ltb}
use Rattle.std.proofs.lemmas.Bool.{and_from, and_parts}
use Rattle.fields.proofs.Laws.Bytes.{Digits, value_of_byte, byte_has_digits}
use Rattle.fields.specs.declared.DataMode.{DataMode}
use Rattle.fields.specs.declared.DataMode.TheVariants.{Bcd, Binary}
use Rattle.fields.specs.Bytes.{value_of, byte_of, has_digits, in_range}

pub record InRange (mode : DataMode) (first last b : ℕ) : Type 0 where
  pub digits : Digits mode b
  pub low : first ≤ value_of mode b
  pub high : value_of mode b ≤ last

digits_test : (mode : DataMode) (b : ℕ) → Digits mode b → has_digits mode b ≡ true
digits_test Binary b d = refl
digits_test Bcd b d = lt-ltb (b % 16) 10 d

digits_fact : (mode : DataMode) (b : ℕ) → has_digits mode b ≡ true → Digits mode b
digits_fact Binary b e = tt
digits_fact Bcd b e = ltb-true (b % 16) 10 e

pub range_test : (mode : DataMode) (first last b : ℕ) → InRange mode first last b → in_range mode first last b ≡ true
range_test mode first last b r =
    and_from _ _ (digits_test mode b r.digits) (and_from _ _ (le-leb first (value_of mode b) r.low) (le-leb (value_of mode b) last r.high))

pub range_fact : (mode : DataMode) (first last b : ℕ) → in_range mode first last b ≡ true → InRange mode first last b
range_fact mode first last b e =
    let r = (and_parts (has_digits mode b) _ e).1 in
    record {
      digits = digits_fact mode b ((and_parts (has_digits mode b) _ e).0);
      low = leb-true first (value_of mode b) ((and_parts (leb first (value_of mode b)) _ r).0);
      high = leb-true (value_of mode b) last ((and_parts (leb first (value_of mode b)) _ r).1);
    }

pub byte_in_range : (mode : DataMode) (first last x : ℕ) → first ≤ x → x ≤ last → InRange mode first last (byte_of mode x)
byte_in_range mode first last x a b =
    let e = value_of_byte mode x in
    record { digits = byte_has_digits mode x; low = omega arith; high = omega arith }
