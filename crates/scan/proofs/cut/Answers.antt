use Rattle.std.proofs.Common.{rules}
use Rattle.scan.proofs.Cutting.{cut_found}
use Rattle.scan.proofs.cut.Goals as goal

pub returns-in-Some : goal.returns-in-Some
returns-in-Some c = cut_found c.args.byte c.args.bytes.now c.in-Some.end (search rules) (search rules) (search rules)
