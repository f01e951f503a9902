use Rattle.theory.proofs.SampleFrames.{sample_traffic_tried}
use Rattle.theory.proofs.sample_laws.traffic_exists.Goals as goal

pub returns : goal.returns
returns c = sample_traffic_tried
