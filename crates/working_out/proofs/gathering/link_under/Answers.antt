use Rattle.std.proofs.Common.{rules}
use Rattle.register.specs.Registers.{viewed}
use Rattle.working_out.proofs.Gathered.{link_told}
use Rattle.working_out.proofs.gathering.link_under.Goals as goal

pub returns : goal.returns
returns c = link_told c.args.number (viewed c.args.links.now) c.args.links.now.ascends c.get.result c.get.ensures c.unwrap_or_default.result (search rules)
