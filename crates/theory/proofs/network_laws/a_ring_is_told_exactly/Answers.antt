use Rattle.theory.proofs.network_laws.a_ring_is_told_exactly.Goals as goal
use Rattle.theory.proofs.Rings.{a_ring_is_told_exactly}

pub returns : goal.returns
returns c = a_ring_is_told_exactly
