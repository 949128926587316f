-- The tick formula: count, pending update and completed updates after n ticks with SET 0, in closed form, once for every base. Assumes nothing.
use mathlib.Core.Path.{◌≡◌, refl, subst, ◌∙◌}
use mathlib.Core.Bool.{Bool, true, false, cond, ◌&&◌, ◌||◌, not}
use mathlib.Core.Logic.{◌⊎◌, inl, inr}
use Prim.Native.Nat.{ℕ, zero, suc, ◌+◌, ◌-◌, ◌*◌, ◌/◌, ◌%◌, ◌≤◌, ◌<◌}
use native.Mathlib.Omega.{arith}
use lib.Dec.{leb, ltb, eqb}
use borrow.Author.Tests.{eqb-true, eqb-false, ne_eqb, leb-true, leb-false, ltb-true, ltb-false, le-leb, lt-leb, lt-ltb, le-ltb}
use Rattle.std.specs.Prelude.{Option}
use Rattle.divider.specs.declared.Base.{Base}
use Rattle.divider.specs.declared.Divider.{Divider}
use Rattle.divider.specs.Divider.{span, step_of, moved, at_zero, end_of, at_end, before_end, count_of}
use Rattle.divider.proofs.Laws.Numbers.{multiples_differ_by_a_step}
use Rattle.cases.proofs.Tests.{eqb_case}
use Rattle.divider.proofs.Laws.Count.{count_of_moved, at_zero_by_count, at_end_by_count, before_end_by_count}
use Rattle.divider.proofs.Laws.Base.{OfBase}
use Rattle.divider.proofs.Laws.Keeps.{Kept, moved_keeps, kept_is_multiple}

-- ---- the course of a divider: whether an update is pending, and how many were completed

pub record Course : Type 0 where
  pub divider : Divider
  pub pending : Bool
  pub updates : ℕ

-- an update is pending once the count has moved
abbrev pub waits : Option Base → Course → Bool
waits base c = at_zero (moved base c.divider) || c.pending

-- the pending update ends
abbrev pub ends : Option Base → Course → Bool
ends base c = waits base c && at_end base (moved base c.divider)

unfoldable pub tick : Option Base → Course → Course
tick base c =
    record {
      divider = moved base c.divider;
      pending = waits base c && not (ends base c);
      updates = cond (ends base c) (c.updates + 1) c.updates;
    }

unfoldable pub ticks : Option Base → ℕ → Course → Course
ticks base zero c = c
ticks base (suc n) c = tick base (ticks base n c)

-- Where all steps since the start, with the start itself, sum up to t.
pub record Reached (base : Option Base) (t : ℕ) (c : Course) : Type 0 where
  pub kept : Kept base c.divider
  pub count : count_of c.divider ≡ t % span
  pub pending : c.pending ≡ leb span t && ltb (t % span) (end_of base)
  pub updates : c.updates ≡ (t - end_of base) / span

-- ---- one tick, in numbers: the count c with the step s, the end e, and whether an update is pending, p

-- the three parts of a second
data Stage (e t : ℕ) (p : Bool) : Type 0 where
  before : t < span → p ≡ false → Stage e t p
  within : span ≤ t → t % span < e → p ≡ true → Stage e t p
  after : span ≤ t → e ≤ t % span → p ≡ false → Stage e t p

stage_of : (e t : ℕ) (p : Bool) → p ≡ leb span t && ltb (t % span) e → Stage e t p
stage_of e t p h = go (leb span t) refl (ltb (t % span) e) refl h
  where
    go : (a : Bool) → leb span t ≡ a → (b : Bool) → ltb (t % span) e ≡ b → p ≡ a && b → Stage e t p
    go true l true m h = within (leb-true span t l) (ltb-true _ _ m) h
    go true l false m h = after (leb-true span t l) (ltb-false _ _ m) h
    go false l b m h = before (leb-false span t l) h

-- what the step does to the sum
record Stepped (e t n u : ℕ) (p : Bool) : Type 0 where
  pub count : n ≡ t % span
  pub pending : (eqb n 0 || p) && not ((eqb n 0 || p) && eqb n e) ≡ leb span t && ltb (t % span) e
  pub updates : cond ((eqb n 0 || p) && eqb n e) (u + 1) u ≡ (t - e) / span

record Fits (s e c : ℕ) : Type 0 where
  pub s_positive : 0 < s
  pub e_positive : 0 < e
  pub e_room : e + s ≤ span
  pub c_room : c + s ≤ span
  pub c_before_e : c < e → c + s ≤ e

module _ (s e t c u : ℕ) (p : Bool) (f : Fits s e c) (at : c ≡ t % span) (done : u ≡ (t - e) / span) where
  comes_to_zero : c + s ≡ span → Stepped e (t + s) 0 u p
  comes_to_zero z =
      let l = f.e_positive in
      let r = f.e_room in
      let n : eqb 0 e ≡ false = ne_eqb 0 e (omega arith) in
      let a : leb span (t + s) ≡ true = le-leb span (t + s) (omega arith) in
      let b : ltb ((t + s) % span) e ≡ true = lt-ltb ((t + s) % span) e (omega arith) in
      record { count = omega arith; pending = rw (n, a, b); updates = rw n (omega arith) }

  goes_on : c + s < span → Stage e t p → Stepped e (t + s) (c + s) u p
  goes_on l st = go st (eqb_case (c + s) e)
    where
      n : eqb (c + s) 0 ≡ false
      n = ne_eqb (c + s) 0 (omega (arith, f.s_positive))

      go : Stage e t p → ((c + s ≡ e) × (eqb (c + s) e ≡ true)) ⊎ ((c + s ≡ e → ⊥) × (eqb (c + s) e ≡ false)) → Stepped e (t + s) (c + s) u p
      go (before k q) x =
          let a : leb span (t + s) ≡ false = lt-leb span (t + s) (omega arith) in
          record { count = omega arith; pending = rw (n, q, a); updates = rw (n, q) (omega arith) }
      go (within k m q) (inl x) =
          let a : leb span (t + s) ≡ true = le-leb span (t + s) (omega arith) in
          let b : ltb ((t + s) % span) e ≡ false = le-ltb ((t + s) % span) e (omega arith) in
          record { count = omega arith; pending = rw (n, q, x.1, a, b); updates = rw (n, q, x.1) (omega arith) }
      go (within k m q) (inr x) =
          let r = f.c_before_e (omega arith) in
          let a : leb span (t + s) ≡ true = le-leb span (t + s) (omega arith) in
          let b : ltb ((t + s) % span) e ≡ true = lt-ltb ((t + s) % span) e (omega (arith, x.0)) in
          record { count = omega arith; pending = rw (n, q, x.1, a, b); updates = rw (n, q, x.1) (omega arith) }
      go (after k m q) x =
          let a : leb span (t + s) ≡ true = le-leb span (t + s) (omega arith) in
          let b : ltb ((t + s) % span) e ≡ false = le-ltb ((t + s) % span) e (omega arith) in
          record { count = omega arith; pending = rw (n, q, a, b); updates = rw (n, q) (omega arith) }

  steps : Stage e t p → Stepped e (t + s) ((c + s) % span) u p
  steps st = go (eqb_case (c + s) span)
    where
      go : ((c + s ≡ span) × (eqb (c + s) span ≡ true)) ⊎ ((c + s ≡ span → ⊥) × (eqb (c + s) span ≡ false)) → Stepped e (t + s) ((c + s) % span) u p
      go (inl x) =
          let z : (c + s) % span ≡ 0 = omega (arith, x.0) in
          rw z (comes_to_zero x.0)
      go (inr x) =
          let l : c + s < span = omega (arith, f.c_room, x.0) in
          let z : (c + s) % span ≡ c + s = omega arith in
          rw z (goes_on l st)

-- ---- one tick of a course, and many

fits : (base : Option Base) (d : Divider) → OfBase base → Kept base d → Fits (step_of base) (end_of base) (count_of d)
fits base d b k =
    record {
      s_positive = b.step_positive;
      e_positive = b.end_positive;
      e_room =
          let g = apart b.steps_of_end b.steps_of_span (omega (arith, end, whole, b.end_below_span)) in
          omega (arith, end, whole);
      c_room =
          let g = apart m b.steps_of_span (omega (arith, count, whole, k.below_span)) in
          omega (arith, count, whole);
      c_before_e = λ h.
          let g = apart m b.steps_of_end (omega (arith, count, end)) in
          omega (arith, count, end);
    }
  where
    m : ℕ
    m = count_of d / step_of base

    count : count_of d ≡ m * step_of base
    count = kept_is_multiple base d b.runs k

    end : b.steps_of_end * step_of base ≡ end_of base
    end = b.step_divides_end

    whole : b.steps_of_span * step_of base ≡ span
    whole = b.step_divides_span

    apart : (x y : ℕ) → x * step_of base < y * step_of base → x * step_of base + step_of base ≤ y * step_of base
    apart = multiples_differ_by_a_step (step_of base)

-- a pending update that does not end waits at a count below E, as the record rules ask
pub pending_stays_before_end : (base : Option Base) (d : Divider) (p : Bool) → OfBase base → Kept base d → (p ≡ true → before_end base d ≡ true)
    → at_zero (moved base d) || p ≡ true → at_end base (moved base d) ≡ false → before_end base (moved base d) ≡ true
pending_stays_before_end base d p b k h w e =
    rw (before_end_by_count base (moved base d))
    (go (eqb (count_of (moved base d)) 0) refl (rw (at_zero_by_count (moved base d)) at w))
  where
    f : Fits (step_of base) (end_of base) (count_of d)
    f = fits base d b k

    n : count_of (moved base d) ≡ (count_of d + step_of base) % span
    n = count_of_moved base d b.runs

    at_end_lem : count_of (moved base d) ≡ end_of base → ⊥
    at_end_lem = eqb-false (count_of (moved base d)) (end_of base) (rw (at_end_by_count base (moved base d)) at e)

    go : (z : Bool) → eqb (count_of (moved base d)) 0 ≡ z → z || p ≡ true → ltb (count_of (moved base d)) (end_of base) ≡ true
    go true z w = lt-ltb (count_of (moved base d)) (end_of base) (omega (arith, eqb-true (count_of (moved base d)) 0 z, f.e_positive))
    go false z w =
        let l = ltb-true (count_of d) (end_of base) (rw (before_end_by_count base d) at (h w)) in
        let r = f.c_before_e l in
        lt-ltb (count_of (moved base d)) (end_of base) (omega (arith, n, at_end_lem, f.e_room, f.s_positive))

pub tick_reaches_one_step_more : (base : Option Base) (t : ℕ) (c : Course) → OfBase base → Reached base t c → Reached base (t + step_of base) (tick base c)
unfolding tick
tick_reaches_one_step_more base t c b r =
    record {
      kept = moved_keeps base c.divider r.kept;
      count = n ∙ now.count;
      pending = rw (zero, end, n) now.pending;
      updates = rw (zero, end, n) now.updates;
    }
  where
    now : Stepped (end_of base) (t + step_of base) ((count_of c.divider + step_of base) % span) c.updates c.pending
    now =
        steps (step_of base) (end_of base) t (count_of c.divider) c.updates c.pending
        (fits base c.divider b r.kept) r.count r.updates (stage_of (end_of base) t c.pending r.pending)

    n : count_of (moved base c.divider) ≡ (count_of c.divider + step_of base) % span
    n = count_of_moved base c.divider b.runs

    zero : at_zero (moved base c.divider) ≡ eqb (count_of (moved base c.divider)) 0
    zero = at_zero_by_count (moved base c.divider)

    end : at_end base (moved base c.divider) ≡ eqb (count_of (moved base c.divider)) (end_of base)
    end = at_end_by_count base (moved base c.divider)

pub ticks_reach : (base : Option Base) (n t : ℕ) (c : Course) → OfBase base → Reached base t c → Reached base (t + n * step_of base) (ticks base n c)
unfolding ticks
ticks_reach base zero t c b r = let e : t + 0 * step_of base ≡ t = omega arith in rw e r
ticks_reach base (suc n) t c b r =
    let e : t + suc n * step_of base ≡ t + n * step_of base + step_of base = omega arith in
    rw e (tick_reaches_one_step_more base (t + n * step_of base) (ticks base n c) b (ticks_reach base n t c b r))

-- ---- the formula

-- what a start asks: the record rules on count and pending update, and nothing counted yet
pub record Start (base : Option Base) (c : Course) : Type 0 where
  pub kept : Kept base c.divider
  pub pending_before_end : c.pending ≡ true → count_of c.divider < end_of base
  pub none_yet : c.updates ≡ 0

-- a pending update was begun a span before
abbrev pub start_of : Course → ℕ
start_of c = cond c.pending (count_of c.divider + span) (count_of c.divider)

pub start_is_reached : (base : Option Base) (c : Course) → OfBase base → Start base c → Reached base (start_of c) c
start_is_reached base c b h = go c.pending refl
  where
    k : count_of c.divider < span
    k = h.kept.below_span

    go : (p : Bool) → c.pending ≡ p → Reached base (cond p (count_of c.divider + span) (count_of c.divider)) c
    go true e =
        let l = h.pending_before_end e in
        let x : leb span (count_of c.divider + span) ≡ true = le-leb span (count_of c.divider + span) (omega arith) in
        let y : ltb ((count_of c.divider + span) % span) (end_of base) ≡ true = lt-ltb ((count_of c.divider + span) % span) (end_of base) (omega arith) in
        record { kept = h.kept; count = omega arith; pending = rw (x, y) e; updates = omega (arith, h.none_yet, b.end_below_span) }
    go false e =
        let x : leb span (count_of c.divider) ≡ false = lt-leb span (count_of c.divider) k in
        record { kept = h.kept; count = omega arith; pending = rw x e; updates = omega (arith, h.none_yet, b.end_below_span) }

pub tick_formula : (base : Option Base) (n : ℕ) (c : Course) → OfBase base → Start base c → Reached base (start_of c + n * step_of base) (ticks base n c)
tick_formula base n c b h = ticks_reach base n (start_of c) c b (start_is_reached base c b h)

-- Divider and ticks: from a start with nothing pending, the sum begins at the count itself
pub tick_formula_at_rest : (base : Option Base) (n : ℕ) (c : Course) → OfBase base → Start base c → c.pending ≡ false → Reached base (count_of c.divider + n * step_of base) (ticks base n c)
tick_formula_at_rest base n c b h e =
    subst (λ (x : ℕ). Reached base (x + n * step_of base) (ticks base n c)) (at_rest c.pending e) (tick_formula base n c b h)
  where
    at_rest : (p : Bool) → p ≡ false → cond p (count_of c.divider + span) (count_of c.divider) ≡ count_of c.divider
    at_rest p e = rw e

pub completed_updates_at_rest : (base : Option Base) (n : ℕ) (c : Course) → OfBase base → Start base c → c.pending ≡ false
    → (ticks base n c).updates ≡ (count_of c.divider + n * step_of base - end_of base) / span
completed_updates_at_rest base n c b h e = (tick_formula_at_rest base n c b h e).updates
