-- What holds of the registers of every chip, and which calls leave it so.
-- The laws of bits and flags here stay: each is of a register of this chip.
use mathlib.Core.Path.{◌≡◌, refl, sym, ap, ◌∙◌}
use mathlib.Core.Bool.{Bool, true, false, cond, ◌&&◌, ◌||◌, not}
use mathlib.Core.Logic.{◌⊎◌, inl, inr}
use Prim.Native.Nat.{ℕ, ◌+◌, ◌*◌, ◌/◌, ◌%◌, ◌<◌}
use native.Mathlib.Omega.{arith}
use lib.Dec.{eqb}
use borrow.Author.Tests.{not-true}
use Rattle.std.proofs.lemmas.Bool.{and_left, and_right, cases_Bool, false≢true}
use Rattle.cases.proofs.Tests.{eqb_case}
use Rattle.std.specs.Prelude.{None, Ok}
use Rattle.divider.specs.Divider as divider
use Rattle.divider.proofs.Laws.Keeps.{keeps_count_gives_kept, kept_gives_keeps_count, based_keeps, fresh_keeps}
use Rattle.registers.specs.declared.Regs.{Regs}
use Rattle.registers.specs.Bits.{dv_of, base_of, set_on}
use Rattle.registers.specs.Access.{write_access}
use Rattle.registers.specs.Calls.{fresh, after_read, write_a, set_rises, write_b, write_plain, written, with_pins}
use Rattle.registers.proofs.Laws.Access.{open_has_reset_high, open_a_has_no_pattern, write_open_is_open}

pub record Sound (r : Regs) : Type 0 where
  pub seconds : r.clock.seconds < 128
  pub a : r.a < 128
  pub pattern : divider.test_pattern (dv_of r.a) ≡ false
  pub count : divider.keeps_count (base_of r.a) r.divider ≡ true
  pub vrt : r.pslow ≡ true → r.vrt ≡ false
  pub enables : r.resetlow ≡ true → r.b / 8 % 16 ≡ 0
  pub pf : r.resetlow ≡ true → r.pf ≡ false
  pub af : r.resetlow ≡ true → r.af ≡ false
  pub uf : r.resetlow ≡ true → r.uf ≡ false
  pub set : r.pending ≡ true → set_on r.b ≡ false
  pub runs : r.pending ≡ true → divider.running (base_of r.a) ≡ true
  pub before_the_end : r.pending ≡ true → divider.before_end (base_of r.a) r.divider ≡ true

-- ---- fresh

pub fresh_is_sound : Sound fresh
unfolding fresh
fresh_is_sound =
    record {
      seconds = omega arith;
      a = omega arith;
      pattern = refl;
      count = kept_gives_keeps_count None divider.fresh (fresh_keeps None);
      vrt = λ e. refl;
      enables = λ e. refl;
      pf = λ e. refl;
      af = λ e. refl;
      uf = λ e. refl;
      set = λ e. absurd (false≢true e);
      runs = λ e. absurd (false≢true e);
      before_the_end = λ e. absurd (false≢true e);
    }

-- ---- reads and pins

low_vrt : (v p : Bool) (t : Bool) → (p ≡ true → v ≡ false) → p ≡ true → v || (t && not p) ≡ false
low_vrt v p true f e = rw (f e, e)
low_vrt v p false f e = rw (f e)

pub read_keeps_sound : (r : Regs) (address : ℕ) → Sound r → Sound (after_read r address)
unfolding after_read
read_keeps_sound r address s =
    record {
      seconds = s.seconds;
      a = s.a;
      pattern = s.pattern;
      count = s.count;
      vrt = λ e. low_vrt r.vrt r.pslow (eqb address 13) s.vrt e;
      enables = s.enables;
      pf = λ e. and_left _ _ (s.pf e);
      af = λ e. and_left _ _ (s.af e);
      uf = λ e. and_left _ _ (s.uf e);
      set = s.set;
      runs = s.runs;
      before_the_end = s.before_the_end;
    }

-- with RESET low the four enables are taken out, and SET stays
enables_out : (b : ℕ) → (b / 128 * 128 + b % 8) / 8 % 16 ≡ 0
enables_out b = omega arith

set_stays : (b : ℕ) → (b / 128 * 128 + b % 8) / 128 % 2 ≡ b / 128 % 2
set_stays b = omega arith

set_under_pins : (b : ℕ) (reset : Bool) → set_on (cond reset b (b / 128 * 128 + b % 8)) ≡ set_on b
set_under_pins b true = refl
set_under_pins b false = ap (λ (n : ℕ). eqb n 1) (set_stays b)

low_enables : (b : ℕ) (reset : Bool) → not reset ≡ true → cond reset b (b / 128 * 128 + b % 8) / 8 % 16 ≡ 0
low_enables b true e = absurd (false≢true e)
low_enables b false e = enables_out b

pub pins_keep_sound : (r : Regs) (reset ps : Bool) → Sound r → Sound (with_pins r reset ps)
unfolding with_pins
pins_keep_sound r reset ps s =
    record {
      seconds = s.seconds;
      a = s.a;
      pattern = s.pattern;
      count = s.count;
      vrt = λ e. and_right r.vrt ps (not-true ps e);
      enables = λ e. low_enables r.b reset e;
      pf = λ e. and_right r.pf reset (not-true reset e);
      af = λ e. and_right r.af reset (not-true reset e);
      uf = λ e. and_right r.uf reset (not-true reset e);
      set = λ e. set_under_pins r.b reset ∙ s.set e;
      runs = s.runs;
      before_the_end = s.before_the_end;
    }

-- ---- writes

dv_below_uip : (value : ℕ) → dv_of (value % 128) ≡ dv_of value
dv_below_uip value = omega arith

a_keeps_sound : (r : Regs) (value : ℕ) → divider.test_pattern (dv_of value) ≡ false → Sound r → Sound (write_a r value)
unfolding write_a
a_keeps_sound r value p s = go (eqb_case (dv_of value) (dv_of r.a))
  where
    go : ((dv_of value ≡ dv_of r.a) × (eqb (dv_of value) (dv_of r.a) ≡ true)) ⊎ ((dv_of value ≡ dv_of r.a → ⊥) × (eqb (dv_of value) (dv_of r.a) ≡ false))
        → Sound (write_a r value)
    go (inl t) =
        let d : dv_of (value % 128) ≡ dv_of r.a = dv_below_uip value ∙ t.0 in
        record {
          seconds = s.seconds;
          a = omega arith;
          pattern = rw d s.pattern;
          count = rw (d, t.1) s.count;
          vrt = s.vrt;
          enables = s.enables;
          pf = s.pf;
          af = s.af;
          uf = s.uf;
          set = rw t.1 s.set;
          runs = rw (d, t.1) s.runs;
          before_the_end = rw (d, t.1) s.before_the_end;
        }
    go (inr t) =
        let k = keeps_count_gives_kept (base_of r.a) r.divider s.count in
        record {
          seconds = s.seconds;
          a = omega arith;
          pattern = rw (dv_below_uip value) p;
          count = rw (dv_below_uip value, t.1) (kept_gives_keeps_count _ _ (based_keeps (base_of value) r.divider k.below_span));
          vrt = s.vrt;
          enables = s.enables;
          pf = s.pf;
          af = s.af;
          uf = s.uf;
          set = rw t.1 (λ e. absurd (false≢true e));
          runs = rw t.1 (λ e. absurd (false≢true e));
          before_the_end = rw t.1 (λ e. absurd (false≢true e));
        }

set_not_risen : (r : Regs) (value : ℕ) → set_rises r value ≡ false → set_on r.b ≡ false → set_on value ≡ false
set_not_risen r value e f = go (set_on value) refl
  where
    go : (t : Bool) → set_on value ≡ t → t ≡ false
    go true q = rw (q, f) at e
    go false q = refl

b_keeps_sound : (r : Regs) (value : ℕ) → r.resetlow ≡ false → Sound r → Sound (write_b r value)
unfolding write_b
b_keeps_sound r value up s = go (cases_Bool (set_rises r value))
  where
    low : {A : Type 0} → r.resetlow ≡ true → A
    low e = absurd (false≢true (sym up ∙ e))

    go : (set_rises r value ≡ true) ⊎ (set_rises r value ≡ false) → Sound (write_b r value)
    go (inl t) =
        record {
          seconds = s.seconds;
          a = s.a;
          pattern = s.pattern;
          count = s.count;
          vrt = s.vrt;
          enables = low;
          pf = s.pf;
          af = s.af;
          uf = s.uf;
          set = rw t (λ e. absurd (false≢true e));
          runs = rw t (λ e. absurd (false≢true e));
          before_the_end = rw t (λ e. absurd (false≢true e));
        }
    go (inr t) =
        record {
          seconds = s.seconds;
          a = s.a;
          pattern = s.pattern;
          count = s.count;
          vrt = s.vrt;
          enables = low;
          pf = s.pf;
          af = s.af;
          uf = s.uf;
          set = rw t (λ e. set_not_risen r value t (s.set e));
          runs = rw t s.runs;
          before_the_end = rw t s.before_the_end;
        }

seconds_stay_below : (t : Bool) (value old : ℕ) → old < 128 → cond t (value % 128) old < 128
seconds_stay_below true value old h = omega arith
seconds_stay_below false value old h = h

plain_keeps_sound : (r : Regs) (address value : ℕ) → Sound r → Sound (write_plain r address value)
unfolding write_plain
plain_keeps_sound r address value s =
    record {
      seconds = seconds_stay_below (eqb address 0) value r.clock.seconds s.seconds;
      a = s.a;
      pattern = s.pattern;
      count = s.count;
      vrt = s.vrt;
      enables = s.enables;
      pf = s.pf;
      af = s.af;
      uf = s.uf;
      set = s.set;
      runs = s.runs;
      before_the_end = s.before_the_end;
    }

pub write_keeps_sound : (r : Regs) (address value : ℕ) → write_access r address value ≡ Ok tt → Sound r → Sound (written r address value)
unfolding written
write_keeps_sound r address value o s = go (eqb_case address 10) (eqb_case address 11)
  where
    go : ((address ≡ 10) × (eqb address 10 ≡ true)) ⊎ ((address ≡ 10 → ⊥) × (eqb address 10 ≡ false))
        → ((address ≡ 11) × (eqb address 11 ≡ true)) ⊎ ((address ≡ 11 → ⊥) × (eqb address 11 ≡ false))
        → Sound (written r address value)
    go (inl x) y = rw x.1 (a_keeps_sound r value (open_a_has_no_pattern r address value x.0 o) s)
    go (inr x) (inl y) = rw (x.1, y.1) (b_keeps_sound r value (open_has_reset_high r address (write_open_is_open r address value o)) s)
    go (inr x) (inr y) = rw (x.1, y.1) (plain_keeps_sound r address value s)
