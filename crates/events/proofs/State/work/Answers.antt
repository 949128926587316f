-- The check asks for these goals of the loop.
-- One record more is worked.
use Rattle.std.proofs.Common.{ℕ, List, [], get_or, ap, arith}
use Rattle.events.proofs.Laws.Files.{reached_record, reached_end}
use Rattle.events.proofs.State.work.Goals as goal

pub loop-bytes-preserved : goal.loop-bytes-preserved
loop-bytes-preserved c =
    let index = c.loop-bytes.bytes-index in
    reached_record _ _ _ _ _ _ index c.loop-bytes.invariant c.requires.whole (omega (arith, c.as_chunks.ensures.front_len)) c.requires.room
    _ (ap (λ (records : List (List ℕ)). get_or records index []) c.as_chunks.ensures.front)
    _ _ _ c.step-end.ensures.state c.step-end.ensures.end c.step-end.ensures.text c.step-end.ensures.fits

pub returns : goal.returns
returns c =
    let all = reached_end _ _ _ _ _ _ _ c.loop-bytes.invariant (omega (arith, c.as_chunks.ensures.front_len)) in
    record { state = all.0; end = all.1; text = all.2; fits = all.3 }
