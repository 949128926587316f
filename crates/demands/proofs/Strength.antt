-- The strength of the contracts: two results that a call's contract allows for one input are equal. Each contract is one equation, or one
-- for the answer and one for what is left, so each theorem is one line; what it says of a call is that they leave nothing open.
-- `equal` and `each` stay: they are what all these theorems share.
use mathlib.Core.Path.{◌≡◌, sym, ap, ◌∙◌}
use mathlib.Core.Bool.{Bool}
use mathlib.Core.List.{List}
use Prim.Native.Nat.{ℕ}
use Rattle.std.specs.Prelude.{Result}
use Rattle.refusals.specs.declared.Refusal.{Refusal}
use Rattle.fields.specs.declared.Mode.{Mode}
use Rattle.times.specs.declared.Time.{Time}
use Rattle.times.specs.Calls.{decoded, encoded, Encoding, encoding_of}
use Rattle.chip.specs.declared.Chip.{Chip}
use Rattle.chip.specs.declared.Levels.{Levels}
use Rattle.chip.specs.Chips.{fresh, ticked}
use Rattle.chip.specs.Calls as chip
use Rattle.chip.specs.Calls.{ReadResult, Outcome}
use Rattle.saved.specs.Record.{record_of}
use Rattle.saved.specs.Calls.{load, save, Saving, saving_of}
use Rattle.mc146818.specs.Words.{Host, host_of}
use Rattle.mc146818.specs.Calls as host

-- two things that equal a third
equal : {A : Type 0} {x y z : A} → x ≡ z → y ≡ z → x ≡ y
equal p q = p ∙ sym q

-- word and bytes
both : {h : Host} (v w : ℕ) (k l : List ℕ) → host_of v k ≡ h → host_of w l ≡ h → (v ≡ w) × (k ≡ l)
both v w k l p q = let e = equal p q in (ap (λ (h : Host). h.word) e, ap (λ (h : Host). h.bytes) e)

-- ---- the C host's calls: v and w are words, k and l the bytes that are left

pub host_fresh : (k l : List ℕ) → k ≡ record_of fresh → l ≡ record_of fresh → k ≡ l
host_fresh k l = equal

pub host_read : (bytes : List ℕ) (address v w : ℕ) (k l : List ℕ) → host_of v k ≡ host.read bytes address → host_of w l ≡ host.read bytes address → (v ≡ w) × (k ≡ l)
host_read bytes address = both

pub host_write : (bytes : List ℕ) (address value v w : ℕ) (k l : List ℕ) → host_of v k ≡ host.write bytes address value → host_of w l ≡ host.write bytes address value → (v ≡ w) × (k ≡ l)
host_write bytes address value = both

pub host_run : (bytes : List ℕ) (ticks v w : ℕ) (k l : List ℕ) → host_of v k ≡ host.run bytes ticks → host_of w l ≡ host.run bytes ticks → (v ≡ w) × (k ≡ l)
host_run bytes ticks = both

pub host_pins : (bytes : List ℕ) (levels v w : ℕ) (k l : List ℕ) → host_of v k ≡ host.pins bytes levels → host_of w l ≡ host.pins bytes levels → (v ≡ w) × (k ≡ l)
host_pins bytes levels = both

pub host_lines : (bytes : List ℕ) (v w : ℕ) → host_of v bytes ≡ host.lines bytes → host_of w bytes ≡ host.lines bytes → v ≡ w
host_lines bytes v w p q = (both v w bytes bytes p q).0

pub host_load : (bytes input : List ℕ) (v w : ℕ) (k l : List ℕ) → host_of v k ≡ host.load bytes input → host_of w l ≡ host.load bytes input → (v ≡ w) × (k ≡ l)
host_load bytes input = both

pub host_save : (bytes page : List ℕ) (offset v w : ℕ) (k l : List ℕ) → host_of v k ≡ host.save bytes page offset → host_of w l ≡ host.save bytes page offset → (v ≡ w) × (k ≡ l)
host_save bytes page offset = both

pub host_decode : (bytes : List ℕ) (mode v w : ℕ) → v ≡ host.decode bytes mode → w ≡ host.decode bytes mode → v ≡ w
host_decode bytes mode v w = equal

pub host_encode : (bytes : List ℕ) (seconds weekday mode v w : ℕ) (k l : List ℕ)
    → host_of v k ≡ host.encode bytes seconds weekday mode → host_of w l ≡ host.encode bytes seconds weekday mode → (v ≡ w) × (k ≡ l)
host_encode bytes seconds weekday mode = both

-- ---- the library's calls on the same bytes: x and y are answers, k and l the bytes or the page that is left

-- answer and bytes
each : {A : Type 0} {answer : A} {left : List ℕ} (k l : List ℕ) (x y : A) → x ≡ answer → y ≡ answer → k ≡ left → l ≡ left → (x ≡ y) × (k ≡ l)
each k l x y p q r s = (equal p q, equal r s)

pub bytes_read : (bytes k l : List ℕ) (address : ℕ) (x y : Result ℕ Refusal)
    → x ≡ host.read_answer bytes address → y ≡ host.read_answer bytes address → k ≡ host.read_bytes bytes address → l ≡ host.read_bytes bytes address → (x ≡ y) × (k ≡ l)
bytes_read bytes k l address = each k l

pub bytes_write : (bytes k l : List ℕ) (address value : ℕ) (x y : Result (Unit {0}) Refusal)
    → x ≡ host.write_answer bytes address value → y ≡ host.write_answer bytes address value → k ≡ host.write_bytes bytes address value → l ≡ host.write_bytes bytes address value → (x ≡ y) × (k ≡ l)
bytes_write bytes k l address value = each k l

pub bytes_run : (bytes k l : List ℕ) (ticks : ℕ) (x y : Result (Unit {0}) Refusal)
    → x ≡ host.run_answer bytes ticks → y ≡ host.run_answer bytes ticks → k ≡ host.run_bytes bytes ticks → l ≡ host.run_bytes bytes ticks → (x ≡ y) × (k ≡ l)
bytes_run bytes k l ticks = each k l

pub bytes_pins : (bytes k l : List ℕ) (levels : ℕ) (x y : Result (Unit {0}) Refusal)
    → x ≡ host.pins_answer bytes → y ≡ host.pins_answer bytes → k ≡ host.pins_bytes bytes levels → l ≡ host.pins_bytes bytes levels → (x ≡ y) × (k ≡ l)
bytes_pins bytes k l levels = each k l

pub bytes_lines : (bytes : List ℕ) (x y : Result Levels Refusal) → x ≡ host.lines_answer bytes → y ≡ host.lines_answer bytes → x ≡ y
bytes_lines bytes x y = equal

pub bytes_load : (bytes input k l : List ℕ) (x y : Result (Unit {0}) Refusal)
    → x ≡ host.load_answer input → y ≡ host.load_answer input → k ≡ host.load_bytes bytes input → l ≡ host.load_bytes bytes input → (x ≡ y) × (k ≡ l)
bytes_load bytes input k l = each k l

pub bytes_save : (bytes page k l : List ℕ) (offset : ℕ) (x y : Result (Unit {0}) Refusal)
    → x ≡ host.save_answer bytes page offset → y ≡ host.save_answer bytes page offset → k ≡ host.save_page bytes page offset → l ≡ host.save_page bytes page offset → (x ≡ y) × (k ≡ l)
bytes_save bytes page k l offset = each k l

-- ---- the calls on a chip by value

pub chip_fresh : (x y : Chip) → x ≡ fresh → y ≡ fresh → x ≡ y
chip_fresh x y = equal

pub chip_read : (c : Chip) (address : ℕ) (x y : ReadResult) → x ≡ chip.read c address → y ≡ chip.read c address → x ≡ y
chip_read c address x y = equal

pub chip_write : (c : Chip) (address value : ℕ) (x y : Outcome) → x ≡ chip.write c address value → y ≡ chip.write c address value → x ≡ y
chip_write c address value x y = equal

pub chip_run : (c : Chip) (n : ℕ) (x y : Outcome) → x ≡ chip.run c n → y ≡ chip.run c n → x ≡ y
chip_run c n x y = equal

pub chip_tick : (c x y : Chip) → x ≡ ticked c → y ≡ ticked c → x ≡ y
chip_tick c x y = equal

pub chip_pins : (c : Chip) (reset ps : Bool) (x y : Chip) → x ≡ chip.pins c reset ps → y ≡ chip.pins c reset ps → x ≡ y
chip_pins c reset ps x y = equal

pub chip_lines : (c : Chip) (x y : Levels) → x ≡ chip.lines c → y ≡ chip.lines c → x ≡ y
chip_lines c x y = equal

pub saved_load : (l : List ℕ) (x y : Result Chip Refusal) → x ≡ load l → y ≡ load l → x ≡ y
saved_load l x y = equal

pub saved_save : (c : Chip) (page : List ℕ) (offset : ℕ) (v w : Result (Unit {0}) Refusal) (k l : List ℕ)
    → saving_of v k ≡ save c page offset → saving_of w l ≡ save c page offset → (v ≡ w) × (k ≡ l)
saved_save c page offset v w k l p q = let e = equal p q in (ap (λ (s : Saving). s.answer) e, ap (λ (s : Saving). s.page) e)

pub times_decode : (m : Mode) (l : List ℕ) (x y : Result Time Refusal) → x ≡ decoded m l → y ≡ decoded m l → x ≡ y
times_decode m l x y = equal

pub times_encode : (m : Mode) (t : Time) (bytes : List ℕ) (v w : Result (Unit {0}) Refusal) (k l : List ℕ)
    → encoding_of v k ≡ encoded m t bytes → encoding_of w l ≡ encoded m t bytes → (v ≡ w) × (k ≡ l)
times_encode m t bytes v w k l p q = let e = equal p q in (ap (λ (s : Encoding). s.answer) e, ap (λ (s : Encoding). s.bytes) e)

-- ---- together

pub ruleset host_results = (host_fresh, host_read, host_write, host_run, host_pins, host_lines, host_load, host_save, host_decode, host_encode)

pub ruleset byte_results = (bytes_read, bytes_write, bytes_run, bytes_pins, bytes_lines, bytes_load, bytes_save)

pub ruleset results = (chip_fresh, chip_read, chip_write, chip_run, chip_tick, chip_pins, chip_lines, saved_load, saved_save, times_decode, times_encode)
