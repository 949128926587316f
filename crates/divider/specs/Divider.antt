-- The divider: its count, what a tick and a new base make of it, the taps, the closed window, and the rules that a stored count keeps.
-- `dv` is the number in bits DV2 to DV0, `base` the base that it selects, if the divider runs with it, and `rate` the number in the rate bits.
use Rattle.std.specs.Prelude.{Bool, true, false, cond, ◌&&◌, not, ℕ, ◌+◌, ◌-◌, ◌/◌, ◌%◌, ◌^◌, leb, ltb, eqb, Option, Some, None}
use Rattle.std.specs.Int.Count.{count_trailing_zeros}
use Rattle.divider.specs.declared.Base.{Base}
use Rattle.divider.specs.declared.Base.TheVariants.{Fastest, Middle, Slowest}
use Rattle.divider.specs.declared.Divider.{Divider}

-- Calls and their refusals: the divider bits that refusal 6 names, 011, 100 and 101.
abbrev pub test_pattern : ℕ → Bool
test_pattern dv = leb 3 dv && leb dv 5

-- Locations: a fresh chip's divider stands at half the span.
abbrev pub half : ℕ
half = 2097152

-- Locations: the divider of a fresh chip.
unfoldable pub fresh : Divider
fresh = record { count = half }

-- Divider and ticks: the count has this many values, and starts again from 0 behind the last.
abbrev pub span : ℕ
span = 4194304

-- Divider and ticks: the divider runs with 000, 001 and 010, each of which selects a base.
abbrev pub selected : ℕ → Option Base
selected dv = cond (eqb dv 0) (Some Fastest) (cond (eqb dv 1) (Some Middle) (cond (eqb dv 2) (Some Slowest) None))

-- Divider and ticks: whether the divider runs.
abbrev pub running : Option Base → Bool
running None = false
running (Some base) = true

-- Divider and ticks: what a tick adds on each base.
abbrev pub step_on : Base → ℕ
step_on Fastest = 1
step_on Middle = 4
step_on Slowest = 128

-- Divider and ticks: and nothing where the divider does not run.
unfoldable pub step_of : Option Base → ℕ
step_of None = 0
step_of (Some base) = step_on base

-- Divider and ticks: a tick moves the count by the step, around the span. A divider that does not run stays.
unfoldable pub moved : Option Base → Divider → Divider
moved None d = d
moved (Some base) d = record { count = (d.count + step_on base) % span }

-- Divider and ticks (house rule): after the DV bits changed, a running base starts on a multiple of its step, the low bits of
-- the count being cleared; any other holds the count at half the span.
unfoldable pub based : Option Base → Divider → Divider
based None d = record { count = half }
based (Some base) d = record { count = d.count - d.count % step_on base }

-- Divider and ticks, PF: on the base with step 128 the two fastest rates act as 8 and 9.
abbrev pub acts_on : Base → ℕ → ℕ
acts_on Fastest rate = rate
acts_on Middle rate = rate
acts_on Slowest rate = cond (leb 1 rate && leb rate 2) (rate + 7) rate

-- Divider and ticks, PF: and nowhere else.
unfoldable pub acts_as : Option Base → ℕ → ℕ
acts_as None rate = rate
acts_as (Some base) rate = acts_on base rate

-- Divider and ticks, PF: the bit of the count that the rate selects.
unfoldable pub tap_of : Option Base → ℕ → ℕ
tap_of base rate = 5 + acts_as base rate

-- Divider and ticks, PF: the selected tap has just risen, which the count's trailing zero bits tell. Rate 0 selects none.
unfoldable pub rose : Option Base → ℕ → Divider → Bool
rose base rate d = not (eqb rate 0) && eqb (count_trailing_zeros 32 d.count) (tap_of base rate)

-- Divider and ticks, SQW: the selected bit of the count, before SQWE has its say. Rate 0 selects none.
unfoldable pub wave : Option Base → ℕ → Divider → Bool
wave base rate d = not (eqb rate 0) && eqb (d.count / 2 ^ tap_of base rate % 2) 1

-- Divider and ticks: the count 0, at which an update may become pending.
unfoldable pub at_zero : Divider → Bool
at_zero d = eqb d.count 0

-- Divider and ticks: E, the count at which a pending update ends, on each base.
abbrev pub end_on : Base → ℕ
end_on Fastest = 2064
end_on Middle = 2064
end_on Slowest = 9344

-- Divider and ticks: where the divider does not run, nothing is pending; E counts as that of the steps 1 and 4.
unfoldable pub end_of : Option Base → ℕ
end_of None = 2064
end_of (Some base) = end_on base

-- Divider and ticks: the counts of the closed window, from 1,024 on and below E.
unfoldable pub in_window : Option Base → Divider → Bool
in_window base d = leb 1024 d.count && ltb d.count (end_of base)

-- Divider and ticks: the count is E.
unfoldable pub at_end : Option Base → Divider → Bool
at_end base d = eqb d.count (end_of base)

-- Saved chip: the count as a number, to be stored, and the divider that a stored number gives.
unfoldable pub count_of : Divider → ℕ
count_of d = d.count

-- Saved chip: the divider that a stored number gives.
unfoldable pub of_count : ℕ → Divider
of_count n = record { count = n }

-- Saved chip, record rules: a count that runs is below the span and a multiple of its step; one that does not stands at half the span.
unfoldable pub keeps_count : Option Base → Divider → Bool
keeps_count None d = eqb d.count half
keeps_count (Some base) d = ltb d.count span && eqb (d.count % step_on base) 0

-- Saved chip, record rules: what a pending update asks of the count.
unfoldable pub before_end : Option Base → Divider → Bool
before_end base d = ltb d.count (end_of base)
