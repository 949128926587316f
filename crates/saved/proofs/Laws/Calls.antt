-- What the calls promise: when a load is accepted, that store and load undo each other, and what a save leaves of the page.
use mathlib.Core.Path.{◌≡◌, refl, sym, ap, ◌∙◌}
use mathlib.Core.Bool.{true, false}
use mathlib.Core.List.{List, ◌++◌, append_assoc}
use mathlib.Core.Logic.{◌⊎◌, inl, inr}
use Prim.Native.Nat.{ℕ, ◌+◌, ◌≤◌, ◌<◌}
use native.Mathlib.Omega.{arith}
use lib.Dec.{eqb}
use lib.ListN.{length, take, drop, length-append, length-drop}
use lib.Seq.{length-take-le, take_at, drop_at}
use borrow.Author.Tests.{eq-eqb, ne_eqb, le-leb, lt-leb}
use Rattle.std.proofs.lemmas.Bool.{cases_Bool}
use Rattle.cases.proofs.Tests.{eqb_case}
use Rattle.std.specs.Prelude.{Result, Ok, Err}
use Rattle.refusals.specs.declared.Refusal.{Refusal}
use Rattle.refusals.specs.declared.Refusal.TheVariants as refusal
use Rattle.divider.proofs.Laws.Keeps.{keeps_count_gives_kept}
use Rattle.chip.specs.declared.Chip.{Chip}
use Rattle.chip.specs.Rules.{Rules}
use Rattle.saved.specs.Record.{record_of, byte_at, regs_in, chip_of}
use Rattle.saved.specs.Rules.{keeps_rules, RecordRules}
use Rattle.saved.specs.Calls.{record_size, load, saving_of, save}
use Rattle.saved.proofs.Laws.Rules.{rules_test, rules_fact}
use Rattle.saved.proofs.Laws.RoundTrip.{record_is_72_bytes, chip_back, record_back, record_keeps_rules, chip_keeps_rules}

-- ---- load

accepted : (l : List ℕ) → length l ≡ record_size → RecordRules l → load l ≡ Ok (chip_of l)
unfolding load
accepted l size rules = rw (eq-eqb _ _ size, rules_test l rules)

refused_is_not_loaded : {A : Type 0} {why : Refusal} {chip : Chip} → ◌≡◌ {A = Result Chip Refusal} (Err why) (Ok chip) → A
refused_is_not_loaded e = let z : ◌≡◌ {A = ℕ} 0 1 = cc in absurd (omega arith)

loaded_keeps_record_rules : (l : List ℕ) (chip : Chip) → load l ≡ Ok chip → (length l ≡ record_size) × RecordRules l
unfolding load
loaded_keeps_record_rules l chip e = go (eqb_case (length l) record_size) (cases_Bool (keeps_rules l))
  where
    go : ((length l ≡ record_size) × (eqb (length l) record_size ≡ true)) ⊎ ((length l ≡ record_size → ⊥) × (eqb (length l) record_size ≡ false))
        → (keeps_rules l ≡ true) ⊎ (keeps_rules l ≡ false) → (length l ≡ record_size) × RecordRules l
    go (inl s) (inl k) = (s.0, rules_fact l k)
    go (inl s) (inr k) = refused_is_not_loaded (rw (s.1, k) at e)
    go (inr s) k = refused_is_not_loaded (rw s.1 at e)

-- a load gives a chip exactly where the bytes are a record's and keep every record rule
pub load_accepts_exactly : (l : List ℕ)
    → ((chip : Chip) → load l ≡ Ok chip → (length l ≡ record_size) × RecordRules l)
    × ((length l ≡ record_size) × RecordRules l → load l ≡ Ok (chip_of l))
load_accepts_exactly l = (loaded_keeps_record_rules l, λ k. accepted l k.0 k.1)

-- and it names the length before the rules
pub load_refuses_length : (l : List ℕ) → (length l ≡ record_size → ⊥) → load l ≡ Err refusal.Length
unfolding load
load_refuses_length l size = rw (ne_eqb _ _ size)

pub load_refuses_rules : (l : List ℕ) → length l ≡ record_size → (RecordRules l → ⊥) → load l ≡ Err refusal.Rules
unfolding load
load_refuses_rules l size broken = rw (eq-eqb _ _ size, go (cases_Bool (keeps_rules l)))
  where
    go : (keeps_rules l ≡ true) ⊎ (keeps_rules l ≡ false) → keeps_rules l ≡ false
    go (inl k) = absurd (broken (rules_fact l k))
    go (inr k) = k

-- the chip of an answer, and another one where it is refused
abbrev given : Chip → Result Chip Refusal → Chip
given other (Ok chip) = chip
given other (Err why) = other

-- the chip that a load gives is the one that stands in the record
pub loaded_chip : (l : List ℕ) (chip : Chip) → load l ≡ Ok chip → chip ≡ chip_of l
loaded_chip l chip e =
    let k = loaded_keeps_record_rules l chip e in
    sym (ap (given chip) e) ∙ ap (given chip) (accepted l k.0 k.1)

-- ---- store and load

-- what is stored of a chip that keeps its rules is loaded as that chip
pub store_then_load : (chip : Chip) → Rules chip → load (record_of chip) ≡ Ok chip
store_then_load chip r =
    let n = (keeps_count_gives_kept _ _ r.count).below_span in
    let back = chip_back chip r.ram_size r.a_below_uip (omega arith) in
    accepted (record_of chip) (record_is_72_bytes chip r.ram_size) (record_keeps_rules chip r.ram_size back r)
    ∙ ap (λ (c : Chip). Ok c) back

module _ (l : List ℕ) (bytes : (k : ℕ) → byte_at l k < 256) (chip : Chip) (e : load l ≡ Ok chip) where
  chip_record : record_of (chip_of l) ≡ l
  chip_record = let k = loaded_keeps_record_rules l chip e in record_back l k.0 bytes k.1

  -- what is loaded of a record is stored as that record
  pub load_then_store : record_of chip ≡ l
  load_then_store = rw (loaded_chip l chip e) chip_record

  -- and it is a chip that keeps its rules
  pub loaded_keeps_rules : Rules chip
  unfolding chip_of regs_in
  loaded_keeps_rules =
      let k = loaded_keeps_record_rules l chip e in
      let fifty : length (chip_of l).ram ≡ 50 = length-take-le 50 (drop 14 l) (simp length-drop (omega arith)) in
      rw (loaded_chip l chip e)
      (chip_keeps_rules (chip_of l) fifty (ap chip_of chip_record) (omega arith) (rw chip_record k.1))

-- ---- save

-- a save that does not fit answers 1 and leaves the page as it stood
pub refused_save_leaves_page : (chip : Chip) (page : List ℕ) (offset : ℕ) → length page < offset + record_size
    → save chip page offset ≡ saving_of (Err refusal.Length) page
unfolding save
refused_save_leaves_page chip page offset h = rw (lt-leb (offset + record_size) (length page) h)

saved_page : (chip : Chip) (page : List ℕ) (offset : ℕ) → offset + record_size ≤ length page
    → save chip page offset ≡ saving_of (Ok tt) (take offset page ++ (record_of chip ++ drop (offset + record_size) page))
unfolding save
saved_page chip page offset h = rw (le-leb (offset + record_size) (length page) h)

-- a save that fits answers 0, puts the record at the offset, and leaves what stands before and behind it
pub save_changes_only_its_part : (chip : Chip) (page : List ℕ) (offset : ℕ) → length chip.ram ≡ 50 → offset + record_size ≤ length page
    → ((save chip page offset).answer ≡ Ok tt)
    × (take offset (save chip page offset).page ≡ take offset page)
    × (take record_size (drop offset (save chip page offset).page) ≡ record_of chip)
    × (drop (offset + record_size) (save chip page offset).page ≡ drop (offset + record_size) page)
save_changes_only_its_part chip page offset fifty h =
    rw (saved_page chip page offset h)
    (refl, take_at before (part ++ behind) offset o, rw (drop_at before (part ++ behind) offset o) (take_at part behind record_size n), rw (← append_assoc before part behind) (drop_at (before ++ part) behind (offset + record_size) m))
  where
    before : List ℕ
    before = take offset page

    part : List ℕ
    part = record_of chip

    behind : List ℕ
    behind = drop (offset + record_size) page

    o : length before ≡ offset
    o = length-take-le offset page (omega arith)

    n : length part ≡ record_size
    n = record_is_72_bytes chip fifty

    m : length (before ++ part) ≡ offset + record_size
    m = simp length-append (omega (arith, o, n))
