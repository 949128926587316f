-- The bits of registers A and B by their names.
use Rattle.std.specs.Prelude.{Bool, ℕ, ◌/◌, ◌%◌, eqb, Option}
use Rattle.divider.specs.declared.Base.{Base}
use Rattle.divider.specs.Divider.{selected}

-- Divider and ticks: DV2 to DV0 are bits 6 to 4 of A.
abbrev pub dv_of : ℕ → ℕ
dv_of a = a / 16 % 8

-- Divider and ticks: the base that they select, if the divider runs with them.
abbrev pub base_of : ℕ → Option Base
base_of a = selected (dv_of a)

-- Divider and ticks: the rate is in bits 3 to 0 of A.
abbrev pub rate_of : ℕ → ℕ
rate_of a = a % 16

-- Locations: SET is bit 7 of B; bits 2 and 1, DM and 24/12, make the mode.
abbrev pub set_on : ℕ → Bool
set_on b = eqb (b / 128 % 2) 1

-- Locations: PIE is bit 6 of B.
abbrev pub pie_on : ℕ → Bool
pie_on b = eqb (b / 64 % 2) 1

-- Locations: AIE is bit 5 of B.
abbrev pub aie_on : ℕ → Bool
aie_on b = eqb (b / 32 % 2) 1

-- Locations: UIE is bit 4 of B.
abbrev pub uie_on : ℕ → Bool
uie_on b = eqb (b / 16 % 2) 1

-- Locations: SQWE is bit 3 of B.
abbrev pub sqwe_on : ℕ → Bool
sqwe_on b = eqb (b / 8 % 2) 1

-- Locations: DSE is bit 0 of B.
abbrev pub dse_on : ℕ → Bool
dse_on b = eqb (b % 2) 1
