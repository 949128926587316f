-- A user RAM byte after any events: the last one accepted, or the one at the start.
-- Stays: `accepted`, which computes where the library's law is cited.
use mathlib.Core.Path.{◌≡◌, refl, sym, ap, ◌∙◌}
use mathlib.Core.Bool.{Bool, true, false, cond, ◌&&◌}
use mathlib.Core.Logic.{◌⊎◌, inl, inr}
use mathlib.Core.List.{List, [], ◌∷◌}
use Prim.Native.Nat.{ℕ, ◌-◌, ◌≤◌, ◌<◌}
use native.Mathlib.Omega.{arith}
use lib.Dec.{eqb, leb}
use lib.ListN.{get_or, set}
use lib.Seq.{get_or-set_same, get_or-set_other}
use borrow.Author.Tests.{ne_eqb}
use Rattle.std.proofs.Math.Bool.{and-false}
use Rattle.cases.proofs.Tests.{eqb_case, leb_case}
use Rattle.std.specs.Prelude.{Result, Ok, Err}
use Rattle.refusals.specs.declared.Refusal.{Refusal}
use Rattle.refusals.specs.Numbers.{number_of, answer_number}
use Rattle.refusals.proofs.Laws.{refusal_has_number}
use Rattle.registers.specs.Access.{write_access}
use Rattle.chip.specs.declared.Chip.{Chip}
use Rattle.chip.specs.Chips.{location, written}
use Rattle.chip.specs.Calls.{write_by, write}
use Rattle.chip.specs.Rules.{Rules}
use Rattle.chip.proofs.Laws.Locations.{location_in_ram}
use Rattle.chip.proofs.Laws.Changes.{read_leaves_ram, run_leaves_ram, pins_leave_ram}
use Rattle.demands.specs.Events.{Event, runs, reads, levels, writes, after, after_all, kept_byte, last_accepted}
use Rattle.demands.proofs.Laws.Events.{event_keeps_rules}

module _ (address : ℕ) (low : 14 ≤ address) (high : address < 64) where
  -- the byte is in the RAM, so chips with the same RAM have the same byte
  same_ram : (chip now : Chip) → now.ram ≡ chip.ram → location now address ≡ location chip address
  same_ram chip now e = sym (location_in_ram now address low) ∙ ap (λ (l : List ℕ). get_or l (address - 14) 0) e ∙ location_in_ram chip address low

  stored_byte : (chip : Chip) (a value : ℕ) → Rules chip → location (written chip a value) address ≡ cond (eqb a address) value (location chip address)
  unfolding written
  stored_byte chip a value k = go (leb_case 14 a) (eqb_case a address)
    where
      go : ((14 ≤ a) × (leb 14 a ≡ true)) ⊎ ((a < 14) × (leb 14 a ≡ false)) → ((a ≡ address) × (eqb a address ≡ true)) ⊎ ((a ≡ address → ⊥) × (eqb a address ≡ false))
          → location (written chip a value) address ≡ cond (eqb a address) value (location chip address)
      go (inl t) (inl q) =
          let e : a - 14 ≡ address - 14 = omega arith in
          rw (t.1, q.1)
          (sym (location_in_ram (record { regs = chip.regs; ram = set chip.ram (a - 14) value }) address low)
          ∙ rw e (get_or-set_same chip.ram (address - 14) value 0 (omega (arith, k.ram_size))))
      go (inl t) (inr q) =
          let n : address - 14 ≡ a - 14 → ⊥ = λ e. q.0 (omega arith) in
          rw (t.1, q.1)
          (sym (location_in_ram (record { regs = chip.regs; ram = set chip.ram (a - 14) value }) address low)
          ∙ get_or-set_other chip.ram (a - 14) (address - 14) value 0 n
          ∙ location_in_ram chip address low)
      go (inr t) (inl q) = absurd (omega arith)
      go (inr t) (inr q) = rw (t.1, q.1) (same_ram chip _ refl)

  written_byte : (chip : Chip) (a value : ℕ) → Rules chip
      → location (write chip a value).chip address ≡ cond (eqb a address && eqb (answer_number (write chip a value).answer) 0) value (location chip address)
  unfolding write
  written_byte chip a value k = go (write_access chip.regs a value)
    where
      accepted : (t : Bool) → t && true ≡ t
      accepted true = refl
      accepted false = refl

      go : (v : Result (Unit {0}) Refusal) → location (write_by v chip a value).chip address ≡ cond (eqb a address && eqb (answer_number (write_by v chip a value).answer) 0) value (location chip address)
      go (Ok _) = rw (accepted (eqb a address)) (stored_byte chip a value k)
      go (Err why) = rw (ne_eqb (number_of why) 0 (refusal_has_number why), and-false (eqb a address))

  event_byte : (e : Event) (chip : Chip) → Rules chip → location (after e chip) address ≡ kept_byte address (location chip address) chip e
  event_byte (runs n) chip k = same_ram chip _ (run_leaves_ram chip n)
  event_byte (reads a) chip k = same_ram chip _ (read_leaves_ram chip a)
  event_byte (levels reset ps) chip k = same_ram chip _ (pins_leave_ram chip reset ps)
  event_byte (writes a value) chip k = written_byte chip a value k

  pub events_byte : (es : List Event) (chip : Chip) → Rules chip → location (after_all es chip) address ≡ last_accepted address (location chip address) chip es
  events_byte [] chip k = refl
  events_byte (e ∷ es) chip k =
      events_byte es (after e chip) (event_keeps_rules e chip k)
      ∙ ap (λ (b : ℕ). last_accepted address b (after e chip) es) (event_byte e chip k)
