-- The text of a line: its digits, its length, and texts put one behind the other.
-- The laws of lists here stay or are new: the library has no text that grows to the front.
use mathlib.Core.Path.{◌≡◌, refl, sym, ap, subst, ◌∙◌}
use mathlib.Core.Bool.{Bool, true, false, cond}
use mathlib.Core.List.{List, [], ◌∷◌, ◌++◌, append_assoc}
use mathlib.Core.Logic.{◌⊎◌, inl, inr}
use Prim.Native.Nat.{ℕ, zero, suc, ◌+◌, ◌-◌, ◌*◌, ◌/◌, ◌%◌, ◌≤◌, ◌<◌, ◌^◌}
use native.Mathlib.Omega.{arith}
use lib.Dec.{ltb}
use lib.ListN.{length, get_or, set, drop, length-append, length-set, get_or-append}
use lib.Seq.{sets, drop-cons, drop-set-lt}
use borrow.Author.Tests.{lt-ltb, le-ltb}
use Rattle.std.specs.Fmt as std
use Rattle.std.proofs.lemmas.Fmt.{AppendsLastDigit, decimal_from_appends, length-decimal-le}
use Rattle.std.proofs.lemmas.List.{get_or-set_same}
use Rattle.std.proofs.lemmas.List.Edits.{sets-eq}
use Rattle.cases.proofs.Tests.{ltb_case}
use Rattle.events.specs.Text.{digits, two_digits, decimal, level, field, line_text, line_room}

-- ---- digits

-- the numbers below it have at most so many digits
abbrev limit : ℕ → ℕ
limit zero = 1
limit (suc places) = 10 * limit places

last_digit : (places n : ℕ) → n < 10 → digits (suc places) n ≡ (48 + n) ∷ []
unfolding digits
last_digit places n h = rw (lt-ltb n 10 h)

digit_behind : (places n : ℕ) → 10 ≤ n → digits (suc places) n ≡ digits places (n / 10) ++ ((48 + n % 10) ∷ [])
unfolding digits
digit_behind places n h = rw (le-ltb n 10 h)

one_place_more : (places n : ℕ) → n < limit (suc places) → digits (suc (suc places)) n ≡ digits (suc places) n
unfolding digits
one_place_more zero n h = last_digit 1 n (omega arith) ∙ sym (last_digit 0 n (omega arith))
one_place_more (suc places) n h =
    ap (λ (front : List ℕ). cond (ltb n 10) ((48 + n) ∷ []) (front ++ ((48 + n % 10) ∷ []))) (one_place_more places (n / 10) (omega arith))

pub decimal_of_digit : (n : ℕ) → n < 10 → decimal n ≡ (48 + n) ∷ []
unfolding decimal
decimal_of_digit n h = last_digit 9 n h

decimal_of_more : (n : ℕ) → 10 ≤ n → n < 10000000000 → decimal n ≡ decimal (n / 10) ++ ((48 + n % 10) ∷ [])
unfolding decimal
decimal_of_more n a h =
    digit_behind 9 n a ∙ ap (λ (front : List ℕ). front ++ ((48 + n % 10) ∷ [])) (sym (one_place_more 8 (n / 10) (omega arith)))

pub decimal_of_two : (n : ℕ) → 10 ≤ n → n < 100 → decimal n ≡ two_digits n
decimal_of_two n a h = rw (decimal_of_more n a (omega arith), decimal_of_digit (n / 10) (omega arith))

pub decimal_of_hundreds : (n : ℕ) → 100 ≤ n → n < 4294967296 → decimal n ≡ decimal (n / 100) ++ two_digits (n % 100)
decimal_of_hundreds n a h =
    let e : n / 10 / 10 ≡ n / 100 = omega arith in
    let f : n % 100 / 10 ≡ n / 10 % 10 = omega arith in
    let g : n % 100 % 10 ≡ n % 10 = omega arith in
    rw (decimal_of_more n (omega arith) (omega arith), decimal_of_more (n / 10) (omega arith) (omega arith), e, f, g)
    (append_assoc (decimal (n / 100)) ((48 + n / 10 % 10) ∷ []) ((48 + n % 10) ∷ []))

-- std has the same decimals
pub decimal_is_std : (n : ℕ) → n < 4294967296 → std.decimal n ≡ decimal n
unfolding decimal
decimal_is_std n h =
    let k : n < 2 ^ 64 = omega arith in
    let own : AppendsLastDigit digits = record { one = λ places m i. last_digit places m i; more = λ places m i. digit_behind places m i } in
    sym (decimal_from_appends digits own 10 n k (length-decimal-le 10 n (omega arith) (omega arith) k))

-- ---- lengths

pub digit_length : (n : ℕ) → n < 10 → length (decimal n) ≡ 1
digit_length n h = rw (decimal_of_digit n h)

pub two_length : (n : ℕ) → 10 ≤ n → n < 100 → length (decimal n) ≡ 2
two_length n a h = rw (decimal_of_two n a h)

pub hundreds_length : (n : ℕ) → 100 ≤ n → n < 4294967296 → length (decimal n) ≡ length (decimal (n / 100)) + 2
hundreds_length n a h = rw (decimal_of_hundreds n a h) (length-append (decimal (n / 100)) (two_digits (n % 100)))

short : (places k n : ℕ) → n < limit (suc k) → length (digits places n) ≤ suc k
unfolding digits
short zero k n h = omega arith
short (suc places) zero n h = rw (last_digit places n (omega arith)) (omega arith)
short (suc places) (suc k) n h = go (short places k (n / 10) (omega arith)) (ltb_case n 10)
  where
    go : length (digits places (n / 10)) ≤ suc k → ((n < 10) × (ltb n 10 ≡ true)) ⊎ ((10 ≤ n) × (ltb n 10 ≡ false))
        → length (digits (suc places) n) ≤ suc (suc k)
    go front (inl t) = rw (last_digit places n t.0) (omega arith)
    go front (inr t) = rw (digit_behind places n t.0, length-append) (omega arith)

pub number_is_short : (n : ℕ) → n < 10000000000 → length (decimal n) ≤ 10
unfolding decimal
number_is_short n h = short 10 9 n h

pub byte_is_short : (n : ℕ) → n < 256 → length (decimal n) ≤ 3
unfolding decimal
byte_is_short n h = short 10 2 n (omega arith)

pub field_length : (n : ℕ) → length (field n) ≡ length (decimal n) + 1
field_length n = length-append (decimal n) (32 ∷ [])

pub line_length : (number answer byte : ℕ) (irq sqw : Bool)
    → length (line_text number answer byte irq sqw) ≡ length (field number) + (length (field answer) + (length (field byte) + 4))
unfolding line_text
line_length number answer byte irq sqw = simp length-append

pub line_is_short : (number answer byte : ℕ) (irq sqw : Bool) → number < 4294967296 → answer < 256 → byte < 256
    → length (line_text number answer byte irq sqw) ≤ line_room
line_is_short number answer byte irq sqw h i j =
    omega (
      arith,
      line_length number answer byte irq sqw,
      field_length number,
      field_length answer,
      field_length byte,
      number_is_short number (omega arith),
      byte_is_short answer i,
      byte_is_short byte j,
    )

-- ---- texts put into a buffer

pub one_behind_the_other : (l : List ℕ) (at next : ℕ) (first second : List ℕ) → next ≡ at + length first
    → sets (sets l at first) next second ≡ sets l at (first ++ second)
one_behind_the_other l at next [] second e = let z : next ≡ at = omega arith in rw z
one_behind_the_other l at next (x ∷ first) second e = one_behind_the_other (set l at x) (suc at) next first second (omega arith)

-- a text at the start of a buffer
pub line_put : (l text : List ℕ) → length text ≤ length l → text ++ drop (length text) l ≡ sets l 0 text
line_put l text h =
    let e : 0 + length text ≡ length text = omega arith in
    rw (sets-eq text l 0 (omega arith), e)

-- ---- a text that grows to the front

pub lengths_add : (first second : List ℕ) → length (first ++ second) ≡ length first + length second
lengths_add first second = length-append first second

pub byte_in_front : (l : List ℕ) (at byte : ℕ) → 0 < at → at ≤ length l → drop (at - 1) (set l (at - 1) byte) ≡ byte ∷ drop at l
byte_in_front l at byte h i =
    let k : at - 1 < length l = omega arith in
    let e : suc (at - 1) ≡ at = omega arith in
    drop-cons (set l (at - 1) byte) (at - 1) 0 (rw length-set k)
    ∙ rw (get_or-set_same l (at - 1) byte 0 k, drop-set-lt (suc (at - 1)) l (at - 1) byte (omega arith), e)

pub two_in_front : (l : List ℕ) (at tens ones : ℕ) → 2 ≤ at → at ≤ length l
    → drop (at - 2) (set (set l (at - 1) ones) (at - 2) tens) ≡ tens ∷ ones ∷ drop at l
two_in_front l at tens ones h i =
    let e : at - 1 - 1 ≡ at - 2 = omega arith in
    let k : at - 1 ≤ length (set l (at - 1) ones) = rw length-set (omega arith) in
    subst (λ (j : ℕ). drop j (set (set l (at - 1) ones) j tens) ≡ tens ∷ drop (at - 1) (set l (at - 1) ones)) e
    (byte_in_front (set l (at - 1) ones) (at - 1) tens (omega arith) k)
    ∙ ap (λ (rest : List ℕ). tens ∷ rest) (byte_in_front l at ones (omega arith) i)

pub line_in_parts : (number answer byte : ℕ) (irq sqw : Bool)
    → line_text number answer byte irq sqw
    ≡ decimal number ++ (32 ∷ (decimal answer ++ (32 ∷ (decimal byte ++ (32 ∷ level irq ∷ 32 ∷ level sqw ∷ 10 ∷ [])))))
unfolding line_text
line_in_parts number answer byte irq sqw = simp append_assoc

-- ---- digits read back

-- the number that a row of digits shows, behind what stands in front of it
abbrev shown : ℕ → List ℕ → ℕ
shown front [] = front
shown front (d ∷ ds) = shown (front * 10 + (d - 48)) ds

shown_behind : (front : ℕ) (ds : List ℕ) (d : ℕ) → shown front (ds ++ (d ∷ [])) ≡ shown front ds * 10 + (d - 48)
shown_behind front [] d = refl
shown_behind front (x ∷ ds) d = shown_behind (front * 10 + (x - 48)) ds d

digits_shown : (places n : ℕ) → n < limit (suc places) → shown 0 (digits (suc places) n) ≡ n
digits_shown zero n h = rw (last_digit 0 n (omega arith)) (omega arith)
digits_shown (suc places) n h = go (digits_shown places (n / 10) (omega arith)) (ltb_case n 10)
  where
    go : shown 0 (digits (suc places) (n / 10)) ≡ n / 10 → ((n < 10) × (ltb n 10 ≡ true)) ⊎ ((10 ≤ n) × (ltb n 10 ≡ false))
        → shown 0 (digits (suc (suc places)) n) ≡ n
    go front (inl t) = rw (last_digit (suc places) n t.0) (omega arith)
    go front (inr t) = rw (digit_behind (suc places) n t.0, shown_behind, front) (omega arith)

-- the digits of a number show that number
pub decimal_shows_number : (n : ℕ) → n < 10000000000 → shown 0 (decimal n) ≡ n
unfolding decimal
decimal_shows_number n h = digits_shown 9 n h

first_digit : (places n : ℕ) → 0 < n → n < limit (suc places)
    → (0 < length (digits (suc places) n)) × (48 < get_or (digits (suc places) n) 0 0)
first_digit zero n a h = rw (last_digit 0 n (omega arith)) (omega arith, omega arith)
first_digit (suc places) n a h = go (λ b. first_digit places (n / 10) b (omega arith)) (ltb_case n 10)
  where
    go : (0 < n / 10 → (0 < length (digits (suc places) (n / 10))) × (48 < get_or (digits (suc places) (n / 10)) 0 0)) → ((n < 10) × (ltb n 10 ≡ true)) ⊎ ((10 ≤ n) × (ltb n 10 ≡ false))
        → (0 < length (digits (suc (suc places)) n)) × (48 < get_or (digits (suc (suc places)) n) 0 0)
    go f (inl t) = rw (last_digit (suc places) n t.0) (omega arith, omega arith)
    go f (inr t) =
        let g = f (omega arith) in
        rw (digit_behind (suc places) n t.0)
        (rw length-append (omega arith), rw (get_or-append (digits (suc places) (n / 10)) ((48 + n % 10) ∷ []) 0 0 g.0) g.1)

-- no number but 0 starts with the digit 0
pub no_leading_zero : (n : ℕ) → 0 < n → n < 10000000000 → 48 < get_or (decimal n) 0 0
unfolding decimal
no_leading_zero n a h = (first_digit 9 n a h).1
