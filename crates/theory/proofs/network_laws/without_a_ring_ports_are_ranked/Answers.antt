use Rattle.theory.proofs.network_laws.without_a_ring_ports_are_ranked.Goals as goal
use Rattle.theory.proofs.Order.{without_a_ring_ports_are_ranked}

pub returns : goal.returns
returns c = without_a_ring_ports_are_ranked
