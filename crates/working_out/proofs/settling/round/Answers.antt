use Rattle.std.proofs.Common.{◌∙◌, rules}
use Rattle.working_out.specs.Marks.{opened}
use Rattle.working_out.proofs.Rounds.{round_makes}
use Rattle.working_out.proofs.settling.round.Goals as goal

pub returns-clause-ports_room : goal.returns-clause-ports_room
returns-clause-ports_room g c = c.settle_open.ensures.same_room ∙ c.advance.ensures.ports_room ∙ (c.edit_all.ensures opened (λ x y called. search rules)).same_room

pub returns-clause-makes : goal.returns-clause-makes
returns-clause-makes g c =
    round_makes (g.M.Method.worth c.args.method.now) c.args.ports.now c.edit_all.new.table c.advance.new.ports c.settle_open.new.ports c.args.links.now
    c.args.hops.now c.advance.new.hops c.settle_open.result (c.edit_all.ensures opened (λ x y called. search rules)) c.advance.ensures.advances c.advance.ensures.same_count (rw c.all.ensures at c.settle_open.ensures.settles)
