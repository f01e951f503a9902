use Rattle.std.proofs.Common.{arith}
use Rattle.working_out.proofs.RingFound.{no_ring}
use Rattle.working_out.proofs.rings.first_in_ring.Goals as goal

pub returns : goal.returns
returns c =
    no_ring c.args.hops.now c.args.ports.now c.loop-place.ports c.loop-place.place c.loop-place.invariant
    (omega (arith, c.loop-place-test.false, c.count-place-end.ensures.is))
