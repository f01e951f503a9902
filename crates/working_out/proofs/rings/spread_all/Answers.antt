use Rattle.std.proofs.Common.{arith}
use Rattle.working_out.proofs.RingMarks.{spread_out}
use Rattle.working_out.proofs.rings.spread_all.Goals as goal

pub returns : goal.returns
returns c =
    spread_out c.args.hops.now c.args.from c.args.ports.now c.loop.ports c.loop.counter c.loop.invariant
    (omega (arith, c.loop-test.false, c.count-end.ensures.is))
