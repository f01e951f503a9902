use Rattle.std.proofs.Common.{arith}
use Rattle.register.specs.Registers.{rows, viewed}
use Rattle.working_out.proofs.Rounds.{none_left}
use Rattle.working_out.proofs.settling.settle_all.Goals as goal

pub returns-clause-stuck : goal.returns-clause-stuck
returns-clause-stuck g c r s w =
    let (worked, left) = c.loop.invariant.3 r s w in
    none_left r (g.M.Method.worth c.args.method.now) (rows c.loop.ports) (viewed c.args.links.now) (rows c.loop.hops) (omega (arith, left, c.loop-test.false, c.count-end.ensures.is)) worked
