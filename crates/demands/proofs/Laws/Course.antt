-- With SET and daylight saving off the registers follow the divider's course, and the clock moves with the updates that it counts.
-- The laws of Bools here stay: the library has none of these four forms.
use mathlib.Core.Path.{◌≡◌, refl, sym, ap, ◌∙◌}
use mathlib.Core.Bool.{Bool, true, false, cond, ◌&&◌, ◌||◌, not}
use mathlib.Core.Logic.{◌⊎◌, inl, inr}
use Prim.Native.Nat.{ℕ, zero, suc, ◌+◌}
use native.Mathlib.Numerals.{add-one}
use native.Mathlib.Omega.{arith}
use Rattle.std.proofs.lemmas.Bool.{cases_Bool}
use Rattle.fields.specs.declared.Mode.{Mode}
use Rattle.fields.specs.Modes.{mode_of}
use Rattle.calendar.specs.declared.Clock.{Clock}
use Rattle.calendar.specs.Advance.{one_second_on, ordinary}
use Rattle.calendar.specs.Daylight.{advance}
use Rattle.calendar.specs.Update.{update}
use Rattle.times.specs.Times.{seconds_on}
use Rattle.std.specs.Prelude.{Option}
use Rattle.divider.specs.declared.Base.{Base}
use Rattle.divider.specs.Divider.{running, moved, at_zero, at_end}
use Rattle.divider.proofs.Laws.Formula as course
use Rattle.divider.proofs.Laws.Formula.{Course}
use Rattle.registers.specs.declared.Regs.{Regs}
use Rattle.registers.specs.Bits.{base_of, set_on, dse_on}
use Rattle.ticks.specs.Tick.{counted, flagged, awaiting, new_time, updated, finished, tick, ticks}

-- the registers stand where the course is, and their clock is the first one, as many seconds on as there were updates
pub record Follows (base : Option Base) (m : Mode) (first : Clock) (c : Course) (r : Regs) : Type 0 where
  pub on_base : base_of r.a ≡ base
  pub mode : mode_of r.b ≡ m
  pub set_off : set_on r.b ≡ false
  pub dse_off : dse_on r.b ≡ false
  pub divider : r.divider ≡ c.divider
  pub pending : r.pending ≡ c.pending
  pub clock : r.clock ≡ seconds_on m c.updates first

-- the two ways to say that an update waits
waits_either_way : (p z : Bool) → p || (z && true) ≡ z || p
waits_either_way true true = refl
waits_either_way true false = refl
waits_either_way false true = refl
waits_either_way false false = refl

plain_second : (r : Regs) → dse_on r.b ≡ false → (new_time r).clock ≡ one_second_on (mode_of r.b) r.clock
unfolding update advance ordinary
plain_second r e = rw e

module _ (base : Option Base) (m : Mode) (first : Clock) (c : Course) (r : Regs) (on : running base ≡ true) (f : Follows base m first c r) where
  abbrev moved_on : Regs
  moved_on = awaiting (flagged (counted r))

  same_divider : moved_on.divider ≡ moved base c.divider
  unfolding awaiting flagged counted
  same_divider = rw (f.on_base, f.divider)

  same_base : base_of moved_on.a ≡ base
  unfolding awaiting flagged counted
  same_base = f.on_base

  same_waits : moved_on.pending ≡ course.waits base c
  unfolding awaiting flagged counted
  same_waits = rw (f.set_off, f.on_base, f.divider, f.pending) (waits_either_way c.pending (at_zero (moved base c.divider)))

  same_end : moved_on.pending && at_end (base_of moved_on.a) moved_on.divider ≡ course.ends base c
  same_end = rw (same_waits, same_base, same_divider)

  and_not_self : (x y : Bool) → x && y ≡ false → x && not (x && y) ≡ x
  and_not_self true y e = rw e
  and_not_self false y e = refl

  and_not_end : (x y : Bool) → x && y ≡ true → x && not (x && y) ≡ false
  and_not_end true y e = rw e
  and_not_end false y e = refl

  one_more : (k : ℕ) (next clock : Clock) → clock ≡ seconds_on m k first → next ≡ one_second_on m clock → next ≡ seconds_on m (k + 1) first
  unfolding seconds_on
  one_more k next clock e h = h ∙ ap (one_second_on m) e ∙ ap (λ (n : ℕ). seconds_on m n first) (sym (add-one k))

  new_clock : (updated moved_on).clock ≡ one_second_on m r.clock
  unfolding updated awaiting flagged counted
  new_clock = rw (plain_second (awaiting (flagged (counted r))) f.dse_off, f.mode)

  ended : course.ends base c ≡ true → Follows base m first (course.tick base c) (updated moved_on)
  unfolding course.tick
  ended e =
      record {
        on_base = unfold updated in unfold awaiting in unfold flagged in unfold counted in f.on_base;
        mode = unfold updated in unfold awaiting in unfold flagged in unfold counted in f.mode;
        set_off = unfold updated in unfold awaiting in unfold flagged in unfold counted in f.set_off;
        dse_off = unfold updated in unfold awaiting in unfold flagged in unfold counted in f.dse_off;
        divider = unfold updated in same_divider;
        pending = unfold updated in (sym (and_not_end (course.waits base c) (at_end base (moved base c.divider)) e));
        clock = rw e (one_more c.updates (updated moved_on).clock r.clock f.clock new_clock);
      }

  waiting : course.ends base c ≡ false → Follows base m first (course.tick base c) moved_on
  unfolding course.tick
  waiting e =
      record {
        on_base = same_base;
        mode = unfold awaiting in unfold flagged in unfold counted in f.mode;
        set_off = unfold awaiting in unfold flagged in unfold counted in f.set_off;
        dse_off = unfold awaiting in unfold flagged in unfold counted in f.dse_off;
        divider = same_divider;
        pending = same_waits ∙ sym (and_not_self (course.waits base c) (at_end base (moved base c.divider)) e);
        clock = rw e (unfold awaiting in unfold flagged in unfold counted in f.clock);
      }

  pub tick_follows : Follows base m first (course.tick base c) (tick r)
  unfolding tick finished
  tick_follows = rw (f.on_base, on) (go (cases_Bool (moved_on.pending && at_end (base_of moved_on.a) moved_on.divider)))
    where
      go : (moved_on.pending && at_end (base_of moved_on.a) moved_on.divider ≡ true) ⊎ (moved_on.pending && at_end (base_of moved_on.a) moved_on.divider ≡ false)
          → Follows base m first (course.tick base c) (cond (moved_on.pending && at_end (base_of moved_on.a) moved_on.divider) (updated moved_on) moved_on)
      go (inl e) = rw e (ended (sym same_end ∙ e))
      go (inr e) = rw e (waiting (sym same_end ∙ e))

-- n ticks after N of them
pub ticks_follow : (base : Option Base) (m : Mode) (first : Clock) (c : Course) (r : Regs) (done n : ℕ) → running base ≡ true
    → Follows base m first (course.ticks base done c) r → Follows base m first (course.ticks base (n + done) c) (ticks n r)
unfolding ticks course.ticks
ticks_follow base m first c r done zero on f = let e : 0 + done ≡ done = omega arith in rw e f
ticks_follow base m first c r done (suc n) on f =
    let e : suc n + done ≡ suc (n + done) = omega arith in
    rw e (tick_follows base m first (course.ticks base (n + done) c) (ticks n r) on (ticks_follow base m first c r done n on f))
