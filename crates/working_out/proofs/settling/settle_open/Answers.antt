use Rattle.std.proofs.Common.{◌∙◌, arith}
use Rattle.register.specs.Registers.{rows, viewed}
use Rattle.working_out.proofs.SettledTable.{settle_more}
use Rattle.working_out.proofs.settling.settle_open.Goals as goal

pub loop-place-preserved : goal.loop-place-preserved
loop-place-preserved g c =
    let (room, so_far) = c.loop-place.invariant in (
      c.settle-any.ensures.same_room ∙ room,
      λ r s known.
          let old = so_far r s known in
          settle_more r (g.M.Method.worth c.args.method.now) (viewed c.args.links.now) c.args.hops.now c.loop-place.place (rows c.args.ports.now) (rows c.loop-place.ports) (rows c.settle-any.new.ports) c.loop-place.any c.settle-any.result
          (omega (arith, c.loop-place-test.true, c.count-place-end.ensures.is)) old (c.settle-any.ensures.settles r s old.known),
    )
