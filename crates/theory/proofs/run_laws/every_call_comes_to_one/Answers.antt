use Rattle.theory.proofs.OneAnswer.{every_call_comes_to_one}
use Rattle.theory.proofs.run_laws.every_call_comes_to_one.Goals as goal

pub returns : goal.returns
returns c = every_call_comes_to_one
