-- A block's text is what its file prints: the lines of its whole records, and then those of what is left with what the next read brings.
use mathlib.Core.Path.{◌≡◌, ap, ◌∙◌}
use mathlib.Core.List.{List, ◌++◌}
use Prim.Native.Nat.{ℕ, ◌+◌, ◌-◌, ◌%◌, ◌≤◌}
use native.Mathlib.Omega.{arith}
use lib.ListN.{length, take}
use lib.Seq.{take-add, length-take-le}
use Rattle.events.specs.declared.State.{State}
use Rattle.events.specs.Files.{state_after, printed_from}
use Rattle.events.proofs.Laws.Files.{Whole, whole, printed_read_by_read}
use Rattle.rtc_events.specs.Blocks.{whole_of, part_of}

module _ (total : ℕ) (block : List ℕ) (h : total ≤ length block) where
  pub whole_and_part : take total block ≡ whole_of total block ++ part_of total block
  whole_and_part =
      let e : total ≡ (total - total % 4) + total % 4 = omega arith in
      ap (λ (n : ℕ). take n block) e ∙ take-add (total - total % 4) (total % 4) block

  pub whole_is_whole : Whole (whole_of total block)
  whole_is_whole = let e = length-take-le (total - total % 4) block (omega arith) in whole (whole_of total block) (omega arith)

  -- `kept` stood in the block, `got` was read behind it, and `rest` is still to come
  pub block_prints : (s : State) (kept got rest : List ℕ) → kept ++ got ≡ take total block
      → printed_from s (kept ++ (got ++ rest))
      ≡ printed_from s (whole_of total block) ++ printed_from (state_after s (whole_of total block)) (part_of total block ++ rest)
  block_prints s kept got rest e = printed_read_by_read s kept got _ _ rest (e ∙ whole_and_part) whole_is_whole
