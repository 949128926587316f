-- What goes round comes back: encode and decode undo one another in every mode, and load undoes save. Stated of the calls themselves. The register rules
-- are the definitions that each call's contract cites, and the laws named in docs/CLAIMS.md.
use mathlib.Core.Path.{◌≡◌, ap, ◌∙◌}
use mathlib.Core.Bool.{true, false, ◌&&◌}
use mathlib.Core.Logic.{◌⊎◌, inl, inr}
use mathlib.Core.List.{List}
use Prim.Native.Nat.{ℕ, ◌+◌, ◌≤◌}
use native.Mathlib.Omega.{arith}
use lib.Dec.{eqb}
use lib.ListN.{length, take, drop}
use borrow.Author.Tests.{eq-eqb, eqb-true}
use Rattle.std.proofs.lemmas.Bool.{and_parts, cases_Bool}
use Rattle.std.specs.Prelude.{Result, Ok, Err}
use Rattle.refusals.specs.declared.Refusal.{Refusal}
use Rattle.refusals.specs.declared.Refusal.TheVariants as refusal
use Rattle.fields.specs.declared.Mode.{Mode}
use Rattle.times.specs.declared.Time.{Time}
use Rattle.times.specs.Times.{is_valid, is_time, time_of}
use Rattle.calendar.specs.Bytes.{clock_at}
use Rattle.times.specs.Calls.{decoded, encoded, encoding_of}
use Rattle.times.proofs.Laws.Code.{seven_are_a_clock}
use Rattle.times.proofs.Laws.RoundTrip.{encode_then_decode, decode_then_encode}
use Rattle.chip.specs.declared.Chip.{Chip}
use Rattle.chip.specs.Rules.{Rules}
use Rattle.saved.specs.Calls.{record_size, load, save}
use Rattle.saved.proofs.Laws.Calls.{store_then_load, save_changes_only_its_part}

-- ---- time

-- a time turned into bytes and back is the same time
pub encode_then_decode_is_the_same_time : (m : Mode) (t : Time) (buffer : List ℕ) → length buffer ≡ 7 → is_time t ≡ true
    → decoded m (encoded m t buffer).bytes ≡ Ok t
unfolding decoded encoded
encode_then_decode_is_the_same_time m t buffer size e =
    let r = encode_then_decode m t e in
    rw (eq-eqb (length buffer) 7 size, e, r.0, r.1)

-- bytes that decode to a time are the bytes of that time
pub decode_then_encode_is_the_same_bytes : (m : Mode) (bytes : List ℕ) (t : Time) (buffer : List ℕ) → decoded m bytes ≡ Ok t → length buffer ≡ 7
    → encoded m t buffer ≡ encoding_of (Ok tt) bytes
unfolding decoded encoded
decode_then_encode_is_the_same_bytes m bytes t buffer d size = go (cases_Bool (eqb (length bytes) 7 && is_valid m (clock_at bytes))) d
  where
    go : (eqb (length bytes) 7 && is_valid m (clock_at bytes) ≡ true) ⊎ (eqb (length bytes) 7 && is_valid m (clock_at bytes) ≡ false)
        → decoded m bytes ≡ Ok t → encoded m t buffer ≡ encoding_of (Ok tt) bytes
    go (inl s) d =
        let told : ◌≡◌ {A = Result Time Refusal} (Ok (time_of m (clock_at bytes))) (Ok t) = rw s at d in
        let same : time_of m (clock_at bytes) ≡ t = cc in
        let r = decode_then_encode m (clock_at bytes) ((and_parts (eqb (length bytes) 7) _ s).1) in
        let long = eqb-true (length bytes) 7 ((and_parts (eqb (length bytes) 7) _ s).0) in
        rw (← same, eq-eqb (length buffer) 7 size, r.0, r.1, seven_are_a_clock bytes long)
    go (inr s) d =
        let told : ◌≡◌ {A = Result Time Refusal} (Err refusal.Time) (Ok t) = rw s at d in
        let z : ◌≡◌ {A = ℕ} 0 1 = cc in
        absurd (omega arith)

-- ---- the chip

-- a chip saved anywhere in a page, and loaded from there, is the same chip
pub save_then_load_is_the_same_chip : (chip : Chip) (page : List ℕ) (offset : ℕ) → Rules chip → offset + record_size ≤ length page
    → ((save chip page offset).answer ≡ Ok tt)
    × (load (take record_size (drop offset (save chip page offset).page)) ≡ Ok chip)
save_then_load_is_the_same_chip chip page offset k h =
    let s = save_changes_only_its_part chip page offset k.ram_size h in
    (s.0, ap load s.2 ∙ store_then_load chip k)

-- a time turned into bytes and back
pub ruleset time_round_trip = (encode_then_decode_is_the_same_time, decode_then_encode_is_the_same_bytes)
