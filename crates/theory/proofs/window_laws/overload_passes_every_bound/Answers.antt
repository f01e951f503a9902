use Rattle.theory.proofs.window_laws.overload_passes_every_bound.Goals as goal
use Rattle.theory.proofs.Largest.{overload_passes_every_bound}

pub returns : goal.returns
returns c = overload_passes_every_bound
