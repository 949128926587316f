-- The record rules on the count, as named facts, and what keeps them. Assumes nothing.
use mathlib.Core.Path.{◌≡◌, refl}
use mathlib.Core.Bool.{Bool, true, false, cond, ◌&&◌}
use Prim.Native.Nat.{ℕ, ◌+◌, ◌-◌, ◌*◌, ◌/◌, ◌%◌, ◌<◌}
use native.Mathlib.Nat.{dvd-mul_left, mod-mod_of_dvd, add-mod_right, mul-mod_left, div-add-mod'}
use native.Mathlib.Omega.{arith}
use lib.Dec.{ltb, eqb}
use borrow.Author.Tests.{ltb-true, lt-ltb, eqb-true, eq-eqb}
use Rattle.std.proofs.lemmas.Bool.{both_ways}
use Rattle.std.specs.Prelude.{Option, Some, None}
use Rattle.divider.specs.declared.Base.{Base}
use Rattle.divider.specs.declared.Base.TheVariants.{Fastest, Middle, Slowest}
use Rattle.divider.specs.declared.Divider.{Divider}
use Rattle.divider.specs.Divider.{span, half, fresh, running, step_of, moved, based, count_of, keeps_count}
use Rattle.divider.proofs.Laws.Count.{count_of_fresh, count_of_moved, moved_stays_where_held, count_of_based, based_is_fresh_where_held, keeps_count_by_count}
use Rattle.divider.proofs.Laws.Base.{OfBase, running_is_base}

-- ---- the rules

pub record Kept (base : Option Base) (d : Divider) : Type 0 where
  pub below_span : count_of d < span
  pub on_step : running base ≡ true → count_of d % step_of base ≡ 0
  pub held : running base ≡ false → count_of d ≡ half

kept_running : (base : Option Base) (d : Divider) → running base ≡ true → count_of d < span → count_of d % step_of base ≡ 0 → Kept base d
kept_running base d r l m =
    record { below_span = l; on_step = λ _. m; held = λ h. absurd (both_ways (running base) h r) }

kept_held : (base : Option Base) (d : Divider) → running base ≡ false → count_of d ≡ half → Kept base d
kept_held base d h e =
    record { below_span = omega arith; on_step = λ r. absurd (both_ways (running base) h r); held = λ _. e }

pub keeps_count_gives_kept : (base : Option Base) (d : Divider) → keeps_count base d ≡ true → Kept base d
keeps_count_gives_kept base d k = go (running base) refl (rw (keeps_count_by_count base d) at k)
  where
    go : (r : Bool) → running base ≡ r → cond r (ltb (count_of d) span && eqb (count_of d % step_of base) 0) (eqb (count_of d) half) ≡ true → Kept base d
    go true r k = both (ltb (count_of d) span) refl k
      where
        both : (b : Bool) → ltb (count_of d) span ≡ b → b && eqb (count_of d % step_of base) 0 ≡ true → Kept base d
        both true l m = kept_running base d r (ltb-true _ _ l) (eqb-true _ _ m)
        both false l m = absurd (both_ways false refl m)
    go false r k = kept_held base d r (eqb-true (count_of d) half k)

pub kept_gives_keeps_count : (base : Option Base) (d : Divider) → Kept base d → keeps_count base d ≡ true
kept_gives_keeps_count base d k = rw (keeps_count_by_count base d) (go (running base) refl)
  where
    go : (r : Bool) → running base ≡ r → cond r (ltb (count_of d) span && eqb (count_of d % step_of base) 0) (eqb (count_of d) half) ≡ true
    go true r = rw (lt-ltb (count_of d) span k.below_span, eq-eqb (count_of d % step_of base) 0 (k.on_step r))
    go false r = eq-eqb (count_of d) half (k.held r)

-- ---- what keeps them

-- the step divides the span, so that going around it leaves multiples of the step
around_span_on_step : (base : Option Base) (n : ℕ) → OfBase base → n % span % step_of base ≡ n % step_of base
around_span_on_step base n b = mod-mod_of_dvd (step_of base) n (rw b.step_divides_span at (dvd-mul_left (step_of base) b.steps_of_span))

pub moved_keeps : (base : Option Base) (d : Divider) → Kept base d → Kept base (moved base d)
moved_keeps base d k = go (running base) refl
  where
    go : (r : Bool) → running base ≡ r → Kept base (moved base d)
    go true r =
        kept_running base (moved base d) r
        (rw (count_of_moved base d r) (omega arith))
        (rw (count_of_moved base d r, around_span_on_step base (count_of d + step_of base) (running_is_base base r), add-mod_right) (k.on_step r))
    go false r = rw (moved_stays_where_held base d r) k

fresh_below_span : count_of fresh < span
fresh_below_span = rw count_of_fresh (omega arith)

pub fresh_keeps : (base : Option Base) → Kept base fresh
unfolding step_of
fresh_keeps None = kept_held None fresh refl count_of_fresh
fresh_keeps (Some Fastest) = kept_running (Some Fastest) fresh refl fresh_below_span (rw count_of_fresh)
fresh_keeps (Some Middle) = kept_running (Some Middle) fresh refl fresh_below_span (rw count_of_fresh)
fresh_keeps (Some Slowest) = kept_running (Some Slowest) fresh refl fresh_below_span (rw count_of_fresh)

pub based_keeps : (base : Option Base) (d : Divider) → count_of d < span → Kept base (based base d)
based_keeps base d l = go (running base) refl
  where
    go : (r : Bool) → running base ≡ r → Kept base (based base d)
    go true r =
        let e : count_of d - count_of d % step_of base ≡ count_of d / step_of base * step_of base = omega (arith, div-add-mod' (count_of d) (step_of base)) in
        kept_running base (based base d) r
        (rw (count_of_based base d r) (omega arith))
        (rw (count_of_based base d r, e, mul-mod_left))
    go false r = rw (based_is_fresh_where_held base d r) (fresh_keeps base)

-- a count that keeps the rules, in steps
pub kept_is_multiple : (base : Option Base) (d : Divider) → running base ≡ true → Kept base d → count_of d ≡ count_of d / step_of base * step_of base
kept_is_multiple base d r k = omega (arith, div-add-mod' (count_of d) (step_of base), k.on_step r)
