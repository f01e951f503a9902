use Rattle.theory.proofs.window_laws.no_loads_no_backlog.Goals as goal
use Rattle.theory.proofs.Largest.{no_loads_no_backlog}

pub returns : goal.returns
returns c = no_loads_no_backlog
