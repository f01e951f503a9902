use Rattle.working_out.proofs.RingMarks.{spreads_next}
use Rattle.working_out.proofs.rings.feed_next.Goals as goal

pub returns-in-Some : goal.returns-in-Some
returns-in-Some c =
    spreads_next c.args.row.now c.args.from c.in-Some.before c.args.ports.now _ _ c.in-Some.is (c.is_reached.ensures.0 c.if-is_reached.true) c.mark_port.ensures
