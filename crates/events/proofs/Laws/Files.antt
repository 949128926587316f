-- A file, block after block: what is printed for a whole is what is printed for its parts, one after the other.
-- Stays: `next_four`, since no law of the library takes four at a time.
use mathlib.Core.Path.{◌≡◌, refl, sym, ap, ◌∙◌}
use mathlib.Core.List.{List, [], ◌∷◌, ◌++◌, append_assoc, append-nil}
use Prim.Native.Nat.{ℕ, zero, suc, ◌+◌, ◌-◌, ◌*◌, ◌/◌, ◌%◌, ◌≤◌, ◌<◌}
use native.Mathlib.Omega.{arith}
use lib.ListN.{length, get_or, take, drop, length-append, length-drop, drop_of_length-le}
use lib.Seq.{drop-cons, drop-drop, sets, length-sets}
use borrow.Rule.Slice.PartMut.{put_mid}
use Rattle.std.specs.Simd.{first_chunks}
use Rattle.std.proofs.lemmas.List.{take_all, drop_all, get_or-take, get_or-drop}
use Rattle.std.proofs.lemmas.List.Edits.{sets-eq}
use Rattle.events.specs.declared.State.{State}
use Rattle.events.specs.Text.{line_room}
use Rattle.events.specs.Files.{after, line, after_record, record_line, part_line, state_after, printed_from, printed}
use Rattle.events.proofs.Laws.Text.{one_behind_the_other}

-- ---- whole records

-- a list of whole records
pub data Whole : List ℕ → Type 0 where
  none : Whole []
  more : (kind address low high : ℕ) (rest : List ℕ) → Whole rest → Whole (kind ∷ address ∷ low ∷ high ∷ rest)

pub whole : (l : List ℕ) → length l % 4 ≡ 0 → Whole l
whole [] h = none
whole (_ ∷ []) h = absurd (omega arith)
whole (_ ∷ _ ∷ []) h = absurd (omega arith)
whole (_ ∷ _ ∷ _ ∷ []) h = absurd (omega arith)
whole (kind ∷ address ∷ low ∷ high ∷ rest) h = more kind address low high rest (whole rest (omega arith))

-- ---- block after block

pub state_after_both : (s : State) (first second : List ℕ) → Whole first
    → state_after s (first ++ second) ≡ state_after (state_after s first) second
unfolding state_after
state_after_both s _ second none = refl
state_after_both s _ second (more kind address low high rest w) =
    state_after_both (after s kind address low high) rest second w

pub printed_for_both : (s : State) (first second : List ℕ) → Whole first
    → printed_from s (first ++ second) ≡ printed_from s first ++ printed_from (state_after s first) second
unfolding state_after printed_from
printed_for_both s _ second none = refl
printed_for_both s _ second (more kind address low high rest w) =
    ap (λ (text : List ℕ). line s kind address low high ++ text) (printed_for_both (after s kind address low high) rest second w)
    ∙ sym (append_assoc (line s kind address low high) _ _)

-- ---- a part-record at the end

pub printed_with_part : (s : State) (first part : List ℕ) → Whole first → 0 < length part → length part < 4
    → printed_from s (first ++ part) ≡ printed_from s first ++ part_line (state_after s first)
unfolding printed_from
printed_with_part s first [] w h i = absurd (omega arith)
printed_with_part s first (a ∷ []) w h i = printed_for_both s first (a ∷ []) w
printed_with_part s first (a ∷ b ∷ []) w h i = printed_for_both s first (a ∷ b ∷ []) w
printed_with_part s first (a ∷ b ∷ c ∷ []) w h i = printed_for_both s first (a ∷ b ∷ c ∷ []) w
printed_with_part s first (_ ∷ _ ∷ _ ∷ _ ∷ _) w h i = absurd (omega arith)

-- ---- a block, record after record

next_four : (l : List ℕ) (i : ℕ) → i + 4 ≤ length l
    → drop i l ≡ get_or l i 0 ∷ get_or l (i + 1) 0 ∷ get_or l (i + 2) 0 ∷ get_or l (i + 3) 0 ∷ drop (i + 4) l
next_four l i h =
    let e : i + 1 ≡ suc i = omega arith in
    let f : i + 2 ≡ suc (suc i) = omega arith in
    let g : i + 3 ≡ suc (suc (suc i)) = omega arith in
    let k : i + 4 ≡ suc (suc (suc (suc i))) = omega arith in
    rw (e, f, g, k)
    (drop-cons l i 0 (omega arith)
    ∙ ap (λ (r : List ℕ). get_or l i 0 ∷ r) (drop-cons l (suc i) 0 (omega arith)
    ∙ ap (λ (r : List ℕ). get_or l (suc i) 0 ∷ r) (drop-cons l (suc (suc i)) 0 (omega arith)
    ∙ ap (λ (r : List ℕ). get_or l (suc (suc i)) 0 ∷ r) (drop-cons l (suc (suc (suc i))) 0 (omega arith)))))

-- the first i bytes of l are worked: what is left to do from here gives the same state and the same buffer as all from the start
pub record Reached (l : List ℕ) (out₀ : List ℕ) (s₀ : State) (out : List ℕ) (s : State) (at i : ℕ) : Type 0 where
  pub inside : i ≤ length l
  pub between : i % 4 ≡ 0
  pub room : at ≤ i / 4 * line_room
  pub size : length out ≡ length out₀
  pub state : state_after s (drop i l) ≡ state_after s₀ l
  pub end : at + length (printed_from s (drop i l)) ≡ length (printed_from s₀ l)
  pub text : sets out at (printed_from s (drop i l)) ≡ sets out₀ 0 (printed_from s₀ l)

module _ (l out₀ : List ℕ) (s₀ : State) (out : List ℕ) (s : State) (at i : ℕ) (r : Reached l out₀ s₀ out s at i) where
  pub four_left : length l % 4 ≡ 0 → i < length l → i + 4 ≤ length l
  four_left w h = omega (arith, r.between)

  module _ (w : length l % 4 ≡ 0) (h : i < length l) (out₁ : List ℕ) (s₁ : State) (at₁ : ℕ) where
    abbrev line_here : List ℕ
    line_here = line s (get_or l i 0) (get_or l (i + 1) 0) (get_or l (i + 2) 0) (get_or l (i + 3) 0)

    pub reached_next : s₁ ≡ after s (get_or l i 0) (get_or l (i + 1) 0) (get_or l (i + 2) 0) (get_or l (i + 3) 0)
        → at₁ ≡ at + length line_here → out₁ ≡ sets out at line_here → at₁ ≤ at + line_room
        → Reached l out₀ s₀ out₁ s₁ at₁ (i + 4)
    unfolding state_after printed_from
    reached_next e f g b =
        let k = four_left w h in
        let four = next_four l i k in
        let st = rw four at r.state in
        let en = rw (four, length-append) at r.end in
        let te = rw four at r.text in
        record {
          inside = k;
          between = omega (arith, r.between);
          room = omega (arith, r.room);
          size = rw g (length-sets out at line_here ∙ r.size);
          state = rw e st;
          end = rw e (omega arith);
          text = rw (g, e) (one_behind_the_other out at at₁ line_here _ f ∙ te);
        }

  pub reached_end : length l ≤ i
      → (s ≡ state_after s₀ l) × (at ≡ length (printed_from s₀ l)) × (out ≡ sets out₀ 0 (printed_from s₀ l)) × (at ≤ length l / 4 * line_room)
  unfolding state_after printed_from
  reached_end h =
      let none = drop_of_length-le l h in
      let en = rw none at r.end in
      (rw none at r.state, omega arith, rw none at r.text, omega (arith, r.room, r.inside))

-- ---- records as arrays of four bytes

chunk_at : (k : ℕ) (l : List ℕ) (j : ℕ) → j < k → get_or (first_chunks 4 k l) j [] ≡ take 4 (drop (4 * j) l)
chunk_at zero l j h = absurd (omega arith)
chunk_at (suc k) l zero h = refl
chunk_at (suc k) l (suc j) h =
    let e : 4 + 4 * j ≡ 4 * suc j = omega arith in
    chunk_at k (drop 4 l) j (omega arith) ∙ rw (drop-drop (4 * j) 4 l, e)

-- a text put at the start of the rest of a buffer
put_behind : (out text : List ℕ) (at : ℕ) → at + length text ≤ length out
    → put_mid at (length out - at) out (sets (take (length out - at) (drop at out)) 0 text) ≡ sets out at text
put_behind out text at h =
    let k = length out - at in
    let all : length (drop at out) ≤ k = rw length-drop (omega arith) in
    let fits : 0 + length text ≤ length (drop at out) = rw length-drop (omega arith) in
    let z : 0 + length text ≡ length text = omega arith in
    rw (take_all k (drop at out) all, sets-eq text (drop at out) 0 fits, z, sets-eq text out at h, drop_all k (drop at out) all, drop-drop (length text) at out, append-nil)
    (sym (append_assoc (take at out) text (drop (at + length text) out)))

module _ (l out₀ : List ℕ) (s₀ : State) (out : List ℕ) (s : State) (at j : ℕ) (r : Reached l out₀ s₀ out s at (4 * j)) where
  module _ (w : length l % 4 ≡ 0) (h : j < length l / 4) (room : length l / 4 * line_room ≤ length out₀) (bytes : List ℕ)
      (e : bytes ≡ get_or (first_chunks 4 (length l / 4) l) j []) where
    four : bytes ≡ take 4 (drop (4 * j) l)
    four = e ∙ chunk_at (length l / 4) l j h

    byte_at : (k : ℕ) → k < 4 → get_or bytes k 0 ≡ get_or l (4 * j + k) 0
    byte_at k i = rw four (get_or-take 4 (drop (4 * j) l) k 0 i ∙ get_or-drop (4 * j) l k 0)

    -- the record at j is worked, with its line in the rest of the buffer
    pub reached_record : (s₁ : State) (n : ℕ) (rest : List ℕ) → s₁ ≡ after_record s bytes → n ≡ length (record_line s bytes)
        → rest ≡ sets (take (length out - at) (drop at out)) 0 (record_line s bytes) → n ≤ line_room
        → Reached l out₀ s₀ (put_mid at (length out - at) out rest) s₁ (at + n) (4 * (j + 1))
    reached_record s₁ n rest f g t b =
        let a0 : get_or bytes 0 0 ≡ get_or l (4 * j) 0 = let z : 4 * j + 0 ≡ 4 * j = omega arith in rw z at (byte_at 0 (omega arith)) in
        let a1 = byte_at 1 (omega arith) in
        let a2 = byte_at 2 (omega arith) in
        let a3 = byte_at 3 (omega arith) in
        let f₁ = rw (a0, a1, a2, a3) at f in
        let g₁ = rw (a0, a1, a2, a3) at g in
        let t₁ = rw (a0, a1, a2, a3) at t in
        let next : 4 * j + 4 ≡ 4 * (j + 1) = omega arith in
        let put = put_behind out (record_line s bytes) at (omega (arith, r.room, r.size)) in
        let put₁ = rw (a0, a1, a2, a3) at put in
        rw (← next)
        (reached_next l out₀ s₀ out s at (4 * j) r w (omega arith) (put_mid at (length out - at) out rest) s₁ (at + n)
        f₁ (ap (λ (m : ℕ). at + m) g₁) (rw t₁ put₁) (omega arith))

-- ---- read after read

-- What a read brings stands behind the bytes kept of the last one. Its whole records are printed, and the bytes behind them are kept.
pub printed_read_by_read : (s : State) (kept got whole kept₁ rest : List ℕ) → kept ++ got ≡ whole ++ kept₁ → Whole whole
    → printed_from s (kept ++ (got ++ rest)) ≡ printed_from s whole ++ printed_from (state_after s whole) (kept₁ ++ rest)
printed_read_by_read s kept got whole kept₁ rest e w =
    rw (← append_assoc kept got rest, e, append_assoc) (printed_for_both s whole (kept₁ ++ rest) w)

pub nothing_printed_for_nothing : printed [] ≡ []
unfolding printed_from
nothing_printed_for_nothing = refl
