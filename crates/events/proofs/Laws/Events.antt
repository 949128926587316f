-- What follows from the meaning of a record.
use mathlib.Core.Path.{◌≡◌, refl, sym, ap, ◌∙◌}
use mathlib.Core.Bool.{Bool, true, false, cond}
use mathlib.Core.List.{List}
use Prim.Native.Nat.{ℕ, ◌+◌, ◌*◌, ◌/◌, ◌%◌, ◌<◌}
use native.Mathlib.Omega.{arith}
use lib.Dec.{eqb}
use borrow.Author.Tests.{ne_eqb}
use Rattle.std.specs.Prelude.{Result, Ok, Err, slice_index}
use Rattle.refusals.specs.declared.Refusal.{Refusal}
use Rattle.refusals.specs.declared.Refusal.TheVariants.{Kind}
use Rattle.refusals.specs.Numbers.{number_of}
use Rattle.chip.specs.declared.Chip.{Chip}
use Rattle.chip.specs.Calls.{read, write, run}
use Rattle.chip.proofs.Laws.Refusals.{refused_read_changes_nothing, refused_write_changes_nothing, refused_run_changes_nothing}
use Rattle.events.specs.declared.event.Event.{Event}
use Rattle.events.specs.declared.event.Event.TheVariants.{Read, Write, Run, Pins}
use Rattle.events.specs.Events.{EventResult, read_event, plain_event, pins_event, unknown_event, event_of, record_event, call_of, decoded}

-- a fact of each kind is a fact of every record
by_kind : (P : EventResult → Type 0) (chip : Chip) (kind address low high : ℕ)
    → P (read_event (read chip address)) → P (plain_event (write chip address low)) → P (plain_event (run chip (low + 256 * high)))
    → P (pins_event chip low) → P (unknown_event chip) → P (event_of chip kind address low high)
unfolding event_of
by_kind P chip kind address low high p q r s t = go (eqb kind 0) (eqb kind 1) (eqb kind 2) (eqb kind 3)
  where
    go : (is0 is1 is2 is3 : Bool)
        → P (cond is0 (read_event (read chip address))
        (cond is1 (plain_event (write chip address low))
        (cond is2 (plain_event (run chip (low + 256 * high)))
        (cond is3 (pins_event chip low) (unknown_event chip)))))
    go true b c d = p
    go false true c d = q
    go false false true d = r
    go false false false true = s
    go false false false false = t

pub refused_record_changes_nothing : (chip : Chip) (kind address low high : ℕ) → 0 < (event_of chip kind address low high).answer
    → (event_of chip kind address low high).chip ≡ chip
refused_record_changes_nothing chip kind address low high =
    by_kind (λ (e : EventResult). 0 < e.answer → e.chip ≡ chip) chip kind address low high
    (refused_read_changes_nothing chip address)
    (refused_write_changes_nothing chip address low)
    (refused_run_changes_nothing chip (low + 256 * high))
    (λ h. absurd (omega arith))
    (λ h. refl)

pub kind_above_3_is_refused : (chip : Chip) (kind address low high : ℕ) → 3 < kind
    → event_of chip kind address low high ≡ record { answer = 10; byte = 0; chip = chip }
unfolding event_of
kind_above_3_is_refused chip kind address low high h =
    rw (ne_eqb kind 0 (λ e. omega arith), ne_eqb kind 1 (λ e. omega arith), ne_eqb kind 2 (λ e. omega arith), ne_eqb kind 3 (λ e. omega arith))

pub only_reads_show_a_byte : (chip : Chip) (kind address low high : ℕ) → (kind ≡ 0 → ⊥) → (event_of chip kind address low high).byte ≡ 0
unfolding event_of
only_reads_show_a_byte chip kind address low high h = rw (ne_eqb kind 0 h) (go (eqb kind 1) (eqb kind 2) (eqb kind 3))
  where
    go : (is1 is2 is3 : Bool)
        → (cond is1 (plain_event (write chip address low))
        (cond is2 (plain_event (run chip (low + 256 * high)))
        (cond is3 (pins_event chip low) (unknown_event chip)))).byte ≡ 0
    go true c d = refl
    go false true d = refl
    go false false true = refl
    go false false false = refl

-- ---- a record's bytes and the call that they are

-- what a call gives, or the refusal of bytes that are none
abbrev given : Chip → Result Event Refusal → EventResult
given chip (Ok event) = call_of chip event
given chip (Err why) = record { answer = number_of why; byte = 0; chip = chip }

record_is_given : (chip : Chip) (bytes : List ℕ) → record_event chip bytes ≡ given chip (decoded bytes)
unfolding event_of
record_is_given chip bytes =
    go (eqb (slice_index bytes 0) 0) (eqb (slice_index bytes 0) 1) (eqb (slice_index bytes 0) 2) (eqb (slice_index bytes 0) 3)
  where
    go : (is0 is1 is2 is3 : Bool)
        → cond is0 (read_event (read chip (slice_index bytes 1)))
        (cond is1 (plain_event (write chip (slice_index bytes 1) (slice_index bytes 2)))
        (cond is2 (plain_event (run chip (slice_index bytes 2 + 256 * slice_index bytes 3)))
        (cond is3 (pins_event chip (slice_index bytes 2)) (unknown_event chip))))
        ≡ given chip (cond is0 (Ok (Read (slice_index bytes 1)))
        (cond is1 (Ok (Write (slice_index bytes 1) (slice_index bytes 2)))
        (cond is2 (Ok (Run (slice_index bytes 2 + 256 * slice_index bytes 3)))
        (cond is3 (Ok (Pins (eqb (slice_index bytes 2 % 2) 1) (eqb (slice_index bytes 2 / 2 % 2) 1))) (Err Kind)))))
    go true b c d = refl
    go false true c d = refl
    go false false true d = refl
    go false false false true = refl
    go false false false false = refl

pub record_of_call : (chip : Chip) (bytes : List ℕ) (event : Event) → Ok event ≡ decoded bytes → record_event chip bytes ≡ call_of chip event
record_of_call chip bytes event e = record_is_given chip bytes ∙ sym (ap (given chip) e)

pub record_of_no_call : (chip : Chip) (bytes : List ℕ) (why : Refusal) → Err why ≡ decoded bytes
    → record_event chip bytes ≡ record { answer = number_of why; byte = 0; chip = chip }
record_of_no_call chip bytes why e = record_is_given chip bytes ∙ sym (ap (given chip) e)
