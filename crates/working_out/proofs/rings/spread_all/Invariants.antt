use Rattle.working_out.proofs.RingMarks.{Spreading}
use Rattle.working_out.proofs.rings.spread_all.Given as goal

-- each pass so far marked a row
abbrev pub invariant-loop : goal.invariant-loop
invariant-loop l = Spreading l.hops l.from l.initial.ports l.counter l.ports
