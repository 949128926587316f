-- A tick leaves sound registers sound.
-- The laws of flags here stay: each is of a tick.
use mathlib.Core.Path.{◌≡◌, refl, sym}
use mathlib.Core.Bool.{Bool, true, false, cond, ◌&&◌, ◌||◌, not}
use mathlib.Core.Logic.{◌⊎◌, inl, inr}
use Prim.Native.Nat.{ℕ, zero, suc}
use Rattle.std.proofs.lemmas.Bool.{cases_Bool, false≢true}
use Rattle.calendar.specs.Update.{update}
use Rattle.calendar.proofs.Laws.Bytes.{advance_seconds_below_128}
use Rattle.divider.specs.Divider.{running, moved, rose, at_zero, at_end, keeps_count}
use Rattle.divider.proofs.Laws.Base.{OfBase, running_is_base}
use Rattle.divider.proofs.Laws.Keeps.{Kept, keeps_count_gives_kept, kept_gives_keeps_count, moved_keeps}
use Rattle.divider.proofs.Laws.Formula.{pending_stays_before_end}
use Rattle.registers.specs.declared.Regs.{Regs}
use Rattle.registers.specs.Bits.{base_of, rate_of, set_on}
use Rattle.registers.proofs.Laws.Sound.{Sound}
use Rattle.ticks.specs.Tick.{counted, flagged, awaiting, new_time, updated, finished, tick, ticks}

-- a flag that is down stays down while RESET is low
stays_down : (flag cause low : Bool) → (low ≡ true → flag ≡ false) → low ≡ true → flag || (cause && not low) ≡ false
stays_down flag true low f e = rw (f e, e)
stays_down flag false low f e = rw (f e)

down_too : (flag low : Bool) → (low ≡ true → flag ≡ false) → low ≡ true → flag || not low ≡ false
down_too flag low f e = rw (f e, e)

-- SET is 0 where an update waits or now begins to
waits_with_set_0 : (waits nought set : Bool) → (waits ≡ true → set ≡ false) → waits || (nought && not set) ≡ true → set ≡ false
waits_with_set_0 true nought set f e = f refl
waits_with_set_0 false true true f e = sym e
waits_with_set_0 false true false f e = refl
waits_with_set_0 false false set f e = absurd (false≢true e)

-- what is pending once the count has moved was pending, or the count is at 0
waits_or_zero : (waits nought set : Bool) → waits || (nought && not set) ≡ true → nought || waits ≡ true
waits_or_zero true true set e = refl
waits_or_zero true false set e = refl
waits_or_zero false true set e = refl
waits_or_zero false false set e = e

module _ (r : Regs) (s : Sound r) (on : running (base_of r.a) ≡ true) where
  base : OfBase (base_of r.a)
  base = running_is_base (base_of r.a) on

  kept : Kept (base_of r.a) r.divider
  kept = keeps_count_gives_kept (base_of r.a) r.divider s.count

  moved_kept : keeps_count (base_of r.a) (moved (base_of r.a) r.divider) ≡ true
  moved_kept = kept_gives_keeps_count _ _ (moved_keeps (base_of r.a) r.divider kept)

  ended_is_sound : Sound (updated (awaiting (flagged (counted r))))
  unfolding updated awaiting flagged counted update
  ended_is_sound =
      record {
        seconds = advance_seconds_below_128 _ _ _ r.clock;
        a = s.a;
        pattern = s.pattern;
        count = moved_kept;
        vrt = s.vrt;
        enables = s.enables;
        pf = λ e. stays_down r.pf (rose (base_of r.a) (rate_of r.a) (moved (base_of r.a) r.divider)) r.resetlow s.pf e;
        af = λ e. stays_down r.af (new_time r).matched r.resetlow s.af e;
        uf = λ e. down_too r.uf r.resetlow s.uf e;
        set = λ e. absurd (false≢true e);
        runs = λ e. absurd (false≢true e);
        before_the_end = λ e. absurd (false≢true e);
      }

  waiting_is_sound : ((awaiting (flagged (counted r))).pending && at_end (base_of r.a) (moved (base_of r.a) r.divider) ≡ false) → Sound (awaiting (flagged (counted r)))
  unfolding awaiting flagged counted
  waiting_is_sound goes_on =
      record {
        seconds = s.seconds;
        a = s.a;
        pattern = s.pattern;
        count = moved_kept;
        vrt = s.vrt;
        enables = s.enables;
        pf = λ e. stays_down r.pf (rose (base_of r.a) (rate_of r.a) (moved (base_of r.a) r.divider)) r.resetlow s.pf e;
        af = s.af;
        uf = s.uf;
        set = λ e. waits_with_set_0 r.pending (at_zero (moved (base_of r.a) r.divider)) (set_on r.b) s.set e;
        runs = λ e. on;
        before_the_end =
            λ e.
            pending_stays_before_end (base_of r.a) r.divider r.pending base kept s.before_the_end
            (waits_or_zero r.pending (at_zero (moved (base_of r.a) r.divider)) (set_on r.b) e)
            (rw e at goes_on);
      }

pub tick_keeps_sound : (r : Regs) → Sound r → Sound (tick r)
unfolding tick finished
tick_keeps_sound r s = go (cases_Bool (running (base_of r.a)))
  where
    moved_on : Regs
    moved_on = awaiting (flagged (counted r))

    same : (base_of moved_on.a ≡ base_of r.a) × (moved_on.divider ≡ moved (base_of r.a) r.divider)
    same = unfold awaiting in unfold flagged in unfold counted in (refl, refl)

    go : (running (base_of r.a) ≡ true) ⊎ (running (base_of r.a) ≡ false) → Sound (tick r)
    go (inr off) = rw off s
    go (inl on) = rw on (ended (cases_Bool (moved_on.pending && at_end (base_of moved_on.a) moved_on.divider)))
      where
        ended : (moved_on.pending && at_end (base_of moved_on.a) moved_on.divider ≡ true) ⊎ (moved_on.pending && at_end (base_of moved_on.a) moved_on.divider ≡ false)
            → Sound (cond (moved_on.pending && at_end (base_of moved_on.a) moved_on.divider) (updated moved_on) moved_on)
        ended (inl e) = rw e (ended_is_sound r s on)
        ended (inr e) = rw e (waiting_is_sound r s on (rw (same.0, same.1) at e))

pub ticks_keep_sound : (n : ℕ) (r : Regs) → Sound r → Sound (ticks n r)
unfolding ticks
ticks_keep_sound zero r s = s
ticks_keep_sound (suc n) r s = tick_keeps_sound (ticks n r) (ticks_keep_sound n r s)
