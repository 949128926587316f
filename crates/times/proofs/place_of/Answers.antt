-- The check asks for these goals of the loop.
use native.Mathlib.Omega.{arith}
use Rattle.times.proofs.Laws.Code.{reached_first, reached_month, reached_date, reached_last}
use Rattle.times.proofs.place_of.Goals as goal

pub loop-month-init : goal.loop-month-init
loop-month-init c = reached_first c.args.leap c.args.day

pub returns-then-left-last : goal.returns-then-left-last
returns-then-left-last c =
    let e = c.from-last.ensures in
    (reached_month _ _ _ _ c.last_day.result c.loop-month.invariant c.last_day.ensures (omega arith), reached_date _ _ _ _ c.last_day.result c.loop-month.invariant c.last_day.ensures (omega arith))

pub overflow_cast-result-2 : goal.overflow_cast-result-2
overflow_cast-result-2 c = let r = reached_last _ _ _ _ c.requires c.loop-month.invariant c.loop-month-test.false in omega (arith, r.2)

pub overflow_add-result-2 : goal.overflow_add-result-2
overflow_add-result-2 c = let r = reached_last _ _ _ _ c.requires c.loop-month.invariant c.loop-month-test.false in omega (arith, r.2)

pub returns : goal.returns
returns c = let r = reached_last _ _ _ _ c.requires c.loop-month.invariant c.loop-month-test.false in (r.0, r.1)
