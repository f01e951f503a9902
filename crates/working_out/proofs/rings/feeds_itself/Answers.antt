use Rattle.std.proofs.Common.{false, rules}
use Rattle.working_out.specs.Rings.{marked}
use Rattle.working_out.proofs.RingMarks.{cleared, tried}
use Rattle.working_out.proofs.rings.feeds_itself.Goals as goal

pub returns : goal.returns
returns c =
    let (marks, sound) = cleared c.args.hops.now c.args.port c.args.ports.now c.edit_all.new.table (c.edit_all.ensures (marked false) (λ x y called. search rules)) in
    tried c.args.hops.now c.args.port c.args.ports.now c.edit_all.new.table c.spread_all.new.ports c.is_marked.result
    marks sound c.spread_all.ensures c.is_marked.ensures
