use Rattle.theory.proofs.traffic_laws.no_frame_leaves_later.Goals as goal
use Rattle.theory.proofs.OnTime.{no_frame_leaves_later}

pub returns : goal.returns
returns c = no_frame_leaves_later
