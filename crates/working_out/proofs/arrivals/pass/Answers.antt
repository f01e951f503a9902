use Rattle.std.proofs.Common.{rules}
use Rattle.working_out.specs.Marks.{held_up}
use Rattle.working_out.proofs.Passed.{pass_known, pass_waits}
use Rattle.working_out.proofs.arrivals.pass.Goals as goal

pub returns-in-Some-arrival-clause-advances : goal.returns-in-Some-arrival-clause-advances
returns-in-Some-arrival-clause-advances c lt =
    pass_known c.args.ports.now c.args.links.now c.args.hops.now c.args.place c.in-Some.row c.in-Some.ensures c.replace.new.self c.in-Some-arrival.earliest c.in-Some-arrival.latest c.replace.result
    c.in-Some-arrival.ensures c.replace.ensures

pub returns-in-None-clause-ports_room : goal.returns-in-None-clause-ports_room
returns-in-None-clause-ports_room c = (c.edit_under.ensures held_up (λ x y called. search rules)).same_room

pub returns-in-None-clause-advances : goal.returns-in-None-clause-advances
returns-in-None-clause-advances c lt =
    pass_waits c.args.ports.now c.args.links.now c.args.hops.now c.args.place c.in-Some.row c.in-Some.ensures c.edit_under.new.table
    c.in-None.ensures (c.edit_under.ensures held_up (λ x y called. search rules))
