use Rattle.theory.proofs.traffic_laws.no_port_holds_more.Goals as goal
use Rattle.theory.proofs.OnTime.{no_port_holds_more}

pub returns : goal.returns
returns c = no_port_holds_more
