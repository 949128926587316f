-- What the number in the DV bits selects, said of the number itself, test patterns and 110, 111 among them: where the functions take the base, nothing
-- is left out that they said of each number.
use mathlib.Core.Path.{◌≡◌, refl, sym, ap, ◌∙◌}
use mathlib.Core.Bool.{Bool, true, false, cond}
use Prim.Native.Nat.{ℕ, ◌+◌, ◌-◌, ◌%◌}
use native.Mathlib.Omega.{arith}
use lib.Dec.{leb, ltb, eqb}
use borrow.Author.Tests.{eqb-true, eqb-false, lt-ltb, le-ltb}
use Rattle.std.specs.Prelude.{Option, Some, None, ◌&&◌}
use Rattle.divider.specs.declared.Base.{Base}
use Rattle.divider.specs.declared.Base.TheVariants.{Fastest, Middle, Slowest}
use Rattle.divider.specs.declared.Divider.{Divider}
use Rattle.divider.specs.Divider.{span, half, selected, running, step_on, step_of, moved, based, end_of, acts_as, keeps_count}

module _ (dv : ℕ) where
  -- what a function of the base gives, test by test of the number
  by_tests : {X : Type 0} (f : Option Base → X)
      → f (selected dv) ≡ cond (eqb dv 0) (f (Some Fastest)) (cond (eqb dv 1) (f (Some Middle)) (cond (eqb dv 2) (f (Some Slowest)) (f None)))
  by_tests f = go (eqb dv 0) (eqb dv 1) (eqb dv 2)
    where
      go : (a b c : Bool) → f (cond a (Some Fastest) (cond b (Some Middle) (cond c (Some Slowest) None)))
          ≡ cond a (f (Some Fastest)) (cond b (f (Some Middle)) (cond c (f (Some Slowest)) (f None)))
      go true b c = refl
      go false true c = refl
      go false false true = refl
      go false false false = refl

  -- where the slowest base alone differs
  slowest_alone : {X : Type 0} (x y : X) → cond (eqb dv 0) y (cond (eqb dv 1) y (cond (eqb dv 2) x y)) ≡ cond (eqb dv 2) x y
  slowest_alone x y = go (eqb dv 0) (eqb dv 1) (eqb dv 2) refl refl refl
    where
      go : (a b c : Bool) → eqb dv 0 ≡ a → eqb dv 1 ≡ b → eqb dv 2 ≡ c → cond a y (cond b y (cond c x y)) ≡ cond c x y
      go true b true e f g = absurd (omega (arith, eqb-true dv 0 e, eqb-true dv 2 g))
      go true b false e f g = refl
      go false true true e f g = absurd (omega (arith, eqb-true dv 1 f, eqb-true dv 2 g))
      go false true false e f g = refl
      go false false c e f g = refl

  pub running_by_number : running (selected dv) ≡ ltb dv 3
  running_by_number = by_tests running ∙ go (eqb dv 0) (eqb dv 1) (eqb dv 2) refl refl refl
    where
      go : (a b c : Bool) → eqb dv 0 ≡ a → eqb dv 1 ≡ b → eqb dv 2 ≡ c → cond a true (cond b true (cond c true false)) ≡ ltb dv 3
      go true b c e f g = let h = eqb-true dv 0 e in sym (lt-ltb dv 3 (omega (arith, h)))
      go false true c e f g = let h = eqb-true dv 1 f in sym (lt-ltb dv 3 (omega (arith, h)))
      go false false true e f g = let h = eqb-true dv 2 g in sym (lt-ltb dv 3 (omega (arith, h)))
      go false false false e f g = sym (le-ltb dv 3 (omega (arith, eqb-false dv 0 e, eqb-false dv 1 f, eqb-false dv 2 g)))

  pub step_by_number : step_of (selected dv) ≡ cond (eqb dv 0) 1 (cond (eqb dv 1) 4 (cond (eqb dv 2) 128 0))
  unfolding step_of
  step_by_number = by_tests step_of

  pub end_by_number : end_of (selected dv) ≡ cond (eqb dv 2) 9344 2064
  unfolding end_of
  end_by_number = by_tests end_of ∙ slowest_alone 9344 2064

  pub rates_by_number : (rate : ℕ) → acts_as (selected dv) rate ≡ cond (eqb dv 2 && leb 1 rate && leb rate 2) (rate + 7) rate
  unfolding acts_as
  rates_by_number rate =
      by_tests (λ (base : Option Base). acts_as base rate) ∙ slowest_alone (cond (leb 1 rate && leb rate 2) (rate + 7) rate) rate ∙ go (eqb dv 2)
    where
      go : (c : Bool) → cond c (cond (leb 1 rate && leb rate 2) (rate + 7) rate) rate ≡ cond (c && leb 1 rate && leb rate 2) (rate + 7) rate
      go true = refl
      go false = refl

  -- what a function makes of the step where the divider runs, and what it gives where it doesn't
  where_it_runs : {X : Type 0} (f : Option Base → X) (stepped : ℕ → X) (held : X) → ((base : Base) → f (Some base) ≡ stepped (step_on base)) → f None ≡ held
      → f (selected dv) ≡ cond (ltb dv 3) (stepped (step_of (selected dv))) held
  unfolding step_of
  where_it_runs f stepped held runs stays = go (selected dv) ∙ ap (λ (t : Bool). cond t (stepped (step_of (selected dv))) held) running_by_number
    where
      go : (base : Option Base) → f base ≡ cond (running base) (stepped (step_of base)) held
      go None = stays
      go (Some base) = runs base

  pub moved_by_number : (d : Divider) → moved (selected dv) d ≡ cond (ltb dv 3) (record { count = (d.count + step_of (selected dv)) % span }) d
  unfolding moved
  moved_by_number d =
      where_it_runs (λ (base : Option Base). moved base d) (λ (step : ℕ). record { count = (d.count + step) % span }) d (λ base. refl) refl

  pub based_by_number : (d : Divider) → based (selected dv) d ≡ cond (ltb dv 3) (record { count = d.count - d.count % step_of (selected dv) }) (record { count = half })
  unfolding based
  based_by_number d =
      where_it_runs (λ (base : Option Base). based base d) (λ (step : ℕ). record { count = d.count - d.count % step }) (record { count = half }) (λ base. refl) refl

  pub count_kept_by_number : (d : Divider)
      → keeps_count (selected dv) d ≡ cond (ltb dv 3) (ltb d.count span && eqb (d.count % step_of (selected dv)) 0) (eqb d.count half)
  unfolding keeps_count
  count_kept_by_number d =
      where_it_runs (λ (base : Option Base). keeps_count base d) (λ (step : ℕ). ltb d.count span && eqb (d.count % step) 0) (eqb d.count half) (λ base. refl) refl
