use Rattle.theory.proofs.window_laws.forward_is_the_largest.Goals as goal
use Rattle.theory.proofs.Largest.{forward_is_the_largest}

pub returns : goal.returns
returns c = forward_is_the_largest
