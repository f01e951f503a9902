use Rattle.theory.proofs.window_laws.overload_is_unboundedness.Goals as goal
use Rattle.theory.proofs.Largest.{overload_is_unboundedness}

pub returns : goal.returns
returns c = overload_is_unboundedness
