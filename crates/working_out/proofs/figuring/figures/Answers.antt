use Rattle.std.proofs.Common.{arith}
use Rattle.working_out.proofs.PortFigures.{depth_fits, figured}
use Rattle.working_out.proofs.figuring.figures.Goals as goal

pub returns-in_err-depth : goal.returns-in_err-depth
returns-in_err-depth g c =
    let (a, e) = c.in_ok-backlog.ensures in
    absurd (depth_fits (g.M.Method.worth c.args.method.now) (g.met.M.Method.lawful c.args.method.now) c.args.loads.now c.in_ok-backlog.backlog a e c.in_err-depth.ensures)

pub returns : goal.returns
returns g c =
    let (a, e) = c.in_ok-backlog.ensures in
    figured (g.M.Method.worth c.args.method.now) c.args.hops.now c.args.port c.args.loads.now c.in_ok-backlog.backlog c.in_ok-depth.depth c.in_ok-largest.field-0
    a e c.in_ok-depth.ensures c.in_ok-largest.ensures.told (omega (arith, c.if-branch-gt-LIMIT.false)) c.in_ok-largest.ensures.meant
