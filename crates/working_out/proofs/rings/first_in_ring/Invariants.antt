use Rattle.working_out.proofs.RingFound.{NoneBefore}
use Rattle.working_out.proofs.rings.first_in_ring.Given as goal

-- no port that was passed feeds itself
abbrev pub invariant-loop-place : goal.invariant-loop-place
invariant-loop-place l = NoneBefore l.hops l.initial.ports l.place l.ports
