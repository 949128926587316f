-- Each refusal is given exactly when the table says, the first that applies; and a refused call changes nothing.
use mathlib.Core.Path.{◌≡◌, refl}
use mathlib.Core.Bool.{Bool, true, false, cond, ◌&&◌, ◌||◌}
use mathlib.Core.Logic.{◌⊎◌, inl, inr}
use Prim.Native.Nat.{ℕ, ◌<◌}
use native.Mathlib.Omega.{arith}
use lib.Dec.{eqb, leb, ltb}
use Rattle.std.specs.Prelude.{Result, Ok, Err}
use Rattle.std.proofs.lemmas.Bool.{cases_Bool}
use Rattle.refusals.specs.declared.Refusal.{Refusal}
use Rattle.refusals.specs.Numbers.{number_of, answer_number}
use Rattle.divider.specs.Divider.{test_pattern}
use Rattle.registers.specs.Bits.{dv_of}
use Rattle.registers.specs.Access.{closed, access, write_access}
use Rattle.chip.specs.declared.Chip.{Chip}
use Rattle.chip.specs.Calls.{read_by, read, write_by, write, run}

-- ---- the numbers of what access answers

-- a test that refuses, and what comes after it
number_of_cond : (t : Bool) (why : Refusal) (next : Result (Unit {0}) Refusal) → answer_number (cond t (Err why) next) ≡ cond t (number_of why) (answer_number next)
number_of_cond true why next = refl
number_of_cond false why next = refl

-- the numbers that a read and a write both can give
abbrev access_number : Chip → ℕ → ℕ → ℕ
access_number chip address next = cond (ltb 63 address) 2 (cond chip.regs.resetlow 3 (cond (leb address 9 && closed chip.regs) 4 next))

read_verdict : (chip : Chip) (address : ℕ) → answer_number (access chip.regs address) ≡ access_number chip address 0
unfolding access
read_verdict chip address = simp number_of_cond

write_verdict : (chip : Chip) (address value : ℕ)
    → answer_number (write_access chip.regs address value)
    ≡ access_number chip address (cond (eqb address 12 || eqb address 13) 5 (cond (eqb address 10 && test_pattern (dv_of value)) 6 0))
unfolding write_access access
write_verdict chip address value = go (cases_Bool (ltb 63 address)) (cases_Bool chip.regs.resetlow) (cases_Bool (leb address 9 && closed chip.regs))
  where
    go : (ltb 63 address ≡ true) ⊎ (ltb 63 address ≡ false) → (chip.regs.resetlow ≡ true) ⊎ (chip.regs.resetlow ≡ false)
        → (leb address 9 && closed chip.regs ≡ true) ⊎ (leb address 9 && closed chip.regs ≡ false)
        → answer_number (write_access chip.regs address value)
        ≡ access_number chip address (cond (eqb address 12 || eqb address 13) 5 (cond (eqb address 10 && test_pattern (dv_of value)) 6 0))
    go (inl a) b c = rw a
    go (inr a) (inl b) c = rw (a, b)
    go (inr a) (inr b) (inl c) = rw (a, b, c)
    go (inr a) (inr b) (inr c) = rw (a, b, c) (simp number_of_cond)

read_by_number : (v : Result (Unit {0}) Refusal) (chip : Chip) (address : ℕ) → answer_number (read_by v chip address).answer ≡ answer_number v
read_by_number (Ok _) chip address = refl
read_by_number (Err why) chip address = refl

write_by_number : (v : Result (Unit {0}) Refusal) (chip : Chip) (address value : ℕ) → answer_number (write_by v chip address value).answer ≡ answer_number v
write_by_number (Ok _) chip address value = refl
write_by_number (Err why) chip address value = refl

-- ---- the table

pub read_refusals : (chip : Chip) (address : ℕ)
    → answer_number (read chip address).answer
    ≡ cond (ltb 63 address) 2 (cond chip.regs.resetlow 3 (cond (leb address 9 && closed chip.regs) 4 0))
unfolding read
read_refusals chip address = rw (read_by_number (access chip.regs address) chip address) (read_verdict chip address)

pub write_refusals : (chip : Chip) (address value : ℕ)
    → answer_number (write chip address value).answer
    ≡ cond (ltb 63 address) 2 (cond chip.regs.resetlow 3 (cond (leb address 9 && closed chip.regs) 4
    (cond (eqb address 12 || eqb address 13) 5 (cond (eqb address 10 && test_pattern (dv_of value)) 6 0))))
unfolding write
write_refusals chip address value = rw (write_by_number (write_access chip.regs address value) chip address value) (write_verdict chip address value)

pub run_refusals : (chip : Chip) (n : ℕ) → answer_number (run chip n).answer ≡ cond (ltb 65536 n) 7 0
unfolding run
run_refusals chip n = go (cases_Bool (ltb 65536 n))
  where
    go : (ltb 65536 n ≡ true) ⊎ (ltb 65536 n ≡ false) → answer_number (run chip n).answer ≡ cond (ltb 65536 n) 7 0
    go (inl t) = rw t
    go (inr t) = rw t

-- ---- a refused call

pub refused_read_changes_nothing : (chip : Chip) (address : ℕ) → 0 < answer_number (read chip address).answer → (read chip address).chip ≡ chip
unfolding read
refused_read_changes_nothing chip address h = go (access chip.regs address) h
  where
    go : (v : Result (Unit {0}) Refusal) → 0 < answer_number (read_by v chip address).answer → (read_by v chip address).chip ≡ chip
    go (Ok _) h = absurd (omega arith)
    go (Err why) h = refl

pub refused_write_changes_nothing : (chip : Chip) (address value : ℕ) → 0 < answer_number (write chip address value).answer → (write chip address value).chip ≡ chip
unfolding write
refused_write_changes_nothing chip address value h = go (write_access chip.regs address value) h
  where
    go : (v : Result (Unit {0}) Refusal) → 0 < answer_number (write_by v chip address value).answer → (write_by v chip address value).chip ≡ chip
    go (Ok _) h = absurd (omega arith)
    go (Err why) h = refl

pub refused_run_changes_nothing : (chip : Chip) (n : ℕ) → 0 < answer_number (run chip n).answer → (run chip n).chip ≡ chip
unfolding run
refused_run_changes_nothing chip n h = go (cases_Bool (ltb 65536 n)) h
  where
    go : (ltb 65536 n ≡ true) ⊎ (ltb 65536 n ≡ false) → 0 < answer_number (run chip n).answer → (run chip n).chip ≡ chip
    go (inl t) h = rw t
    go (inr t) h = let z : 0 < 0 = rw t at h in absurd (omega arith)
