-- The check asks for these goals of the loop.
use Rattle.std.proofs.Common.{rules, ◌≡◌, Some}
use Rattle.registers.specs.Bits.{base_of}
use Rattle.ticks.proofs.Laws.Ticks.{base_stays}
use Rattle.ticks.proofs.ticks.Goals as goal

pub tick_on-requires : goal.tick_on-requires
tick_on-requires c =
    let e : Some c.in-Some.base ≡ base_of c.args.regs.now.a = search rules in
    base_stays c.loop.counter c.args.regs.now c.loop.regs c.in-Some.base e c.loop.invariant
