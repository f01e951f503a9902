use Rattle.working_out.proofs.Concluding.{judged_ring, judged_past, judged_none}
use Rattle.working_out.proofs.working.judge.Goals as goal

pub returns-in-Some-clause-judged : goal.returns-in-Some-clause-judged
returns-in-Some-clause-judged c r worth ls s k =
    judged_ring c.args.ports.now c.ring_of.new.ports c.args.hops.now c.ring_of.ensures.remarked r worth ls s k c.in-Some.port (c.in-Some.ensures.told r worth ls s k)

pub returns-in-Some-past-clause-judged : goal.returns-in-Some-past-clause-judged
returns-in-Some-past-clause-judged c r worth ls s k =
    judged_past c.args.ports.now c.ring_of.new.ports c.args.hops.now c.ring_of.ensures.remarked r worth ls s k (c.in_default.ensures.told r worth ls s k) c.in-Some-past.port
    (rw c.all.ensures at c.in-Some-past.ensures)

pub returns-in-None-clause-judged : goal.returns-in-None-clause-judged
returns-in-None-clause-judged c r worth ls s k =
    judged_none c.args.ports.now c.ring_of.new.ports c.args.hops.now c.ring_of.ensures.remarked r worth ls s k (c.in_default.ensures.told r worth ls s k)
    (rw c.all.ensures at c.in-None.ensures)
