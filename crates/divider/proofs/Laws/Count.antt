-- What each definition says of the count as one number. No other law looks into a divider. Assumes nothing.
use mathlib.Core.Path.{◌≡◌, refl}
use mathlib.Core.Bool.{true, false, cond, ◌&&◌, not, false≢true, true≢false}
use Prim.Native.Nat.{ℕ, ◌+◌, ◌-◌, ◌/◌, ◌%◌, ◌^◌}
use lib.Count.{count_trailing_zeros}
use lib.Dec.{leb, ltb, eqb}
use Rattle.std.specs.Prelude.{Option, Some, None}
use Rattle.divider.specs.declared.Base.{Base}
use Rattle.divider.specs.declared.Divider.{Divider}
use Rattle.divider.specs.Divider.{half, fresh, span, running, step_of, moved, based, tap_of, rose, wave, at_zero, end_of, in_window, at_end, count_of, of_count, keeps_count, before_end}

-- ---- dividers

pub count_of_of_count : (n : ℕ) → count_of (of_count n) ≡ n
unfolding count_of of_count
count_of_of_count n = refl

pub of_count_count_of : (d : Divider) → of_count (count_of d) ≡ d
unfolding count_of of_count
of_count_count_of d = refl

pub count_of_fresh : count_of fresh ≡ half
unfolding count_of fresh
count_of_fresh = refl

pub count_of_moved : (base : Option Base) (d : Divider) → running base ≡ true → count_of (moved base d) ≡ (count_of d + step_of base) % span
unfolding count_of moved step_of
count_of_moved None d r = absurd (false≢true r)
count_of_moved (Some base) d r = refl

pub moved_stays_where_held : (base : Option Base) (d : Divider) → running base ≡ false → moved base d ≡ d
unfolding moved
moved_stays_where_held None d r = refl
moved_stays_where_held (Some base) d r = absurd (true≢false r)

pub count_of_based : (base : Option Base) (d : Divider) → running base ≡ true → count_of (based base d) ≡ count_of d - count_of d % step_of base
unfolding count_of based step_of
count_of_based None d r = absurd (false≢true r)
count_of_based (Some base) d r = refl

pub based_is_fresh_where_held : (base : Option Base) (d : Divider) → running base ≡ false → based base d ≡ fresh
unfolding based fresh
based_is_fresh_where_held None d r = refl
based_is_fresh_where_held (Some base) d r = absurd (true≢false r)

-- ---- tests

pub rose_by_count : (base : Option Base) (rate : ℕ) (d : Divider) → rose base rate d ≡ not (eqb rate 0) && eqb (count_trailing_zeros 32 (count_of d)) (tap_of base rate)
unfolding rose count_of
rose_by_count base rate d = refl

pub wave_by_count : (base : Option Base) (rate : ℕ) (d : Divider) → wave base rate d ≡ not (eqb rate 0) && eqb (count_of d / 2 ^ tap_of base rate % 2) 1
unfolding wave count_of
wave_by_count base rate d = refl

pub at_zero_by_count : (d : Divider) → at_zero d ≡ eqb (count_of d) 0
unfolding at_zero count_of
at_zero_by_count d = refl

pub in_window_by_count : (base : Option Base) (d : Divider) → in_window base d ≡ leb 1024 (count_of d) && ltb (count_of d) (end_of base)
unfolding in_window count_of
in_window_by_count base d = refl

pub at_end_by_count : (base : Option Base) (d : Divider) → at_end base d ≡ eqb (count_of d) (end_of base)
unfolding at_end count_of
at_end_by_count base d = refl

pub before_end_by_count : (base : Option Base) (d : Divider) → before_end base d ≡ ltb (count_of d) (end_of base)
unfolding before_end count_of
before_end_by_count base d = refl

pub keeps_count_by_count : (base : Option Base) (d : Divider) → keeps_count base d ≡ cond (running base) (ltb (count_of d) span && eqb (count_of d % step_of base) 0) (eqb (count_of d) half)
unfolding keeps_count count_of step_of
keeps_count_by_count None d = refl
keeps_count_by_count (Some base) d = refl
