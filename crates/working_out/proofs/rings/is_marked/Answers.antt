use Rattle.std.proofs.Common.{rules}
use Rattle.register.specs.Registers.{rows}
use Rattle.working_out.proofs.RingMarks.{marked_by}
use Rattle.working_out.proofs.rings.is_marked.Goals as goal

pub returns : goal.returns
returns c = marked_by c.args.port (rows c.args.ports.now) c.args.ports.now.ascends c.get.result c.get.ensures c.is_some_and.result (search rules)
