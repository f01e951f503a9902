use Rattle.theory.proofs.network_laws.figures_are_exactly_one.Goals as goal
use Rattle.theory.proofs.Exist.{figures_are_exactly_one}

pub returns : goal.returns
returns c = figures_are_exactly_one
