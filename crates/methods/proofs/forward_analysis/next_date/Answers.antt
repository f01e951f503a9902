use Rattle.std.proofs.Common.{arith}
use Rattle.std.proofs.lemmas.Grind.{common_steps}
use Rattle.definitions.specs.Windows.{horizon}
use Rattle.methods.proofs.Nearest.{nearness_most}
use Rattle.methods.proofs.forward_analysis.next_date.Goals as goal

pub returns-clause-later : goal.returns-clause-later
unfolding horizon
returns-clause-later c =
    let most = nearness_most c.args.rows.now c.requires.loads c.args.date in
    grind (arith, common_steps)
