use Rattle.theory.proofs.network_laws.a_working_out_comes_to_one.Goals as goal
use Rattle.theory.proofs.Outcomes.{a_working_out_comes_to_one}

pub returns : goal.returns
returns c = a_working_out_comes_to_one
