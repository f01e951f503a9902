use Rattle.theory.proofs.network_laws.forward_is_never_larger.Goals as goal
use Rattle.theory.proofs.Smaller.{forward_is_never_larger}

pub returns : goal.returns
returns c = forward_is_never_larger
