use Rattle.std.proofs.Common.{◌≡◌, length, ◌∙◌, subst, arith}
use Rattle.register.specs.Registers.{rows}
use Rattle.working_out.specs.Settling.{Advance}
use Rattle.working_out.proofs.Passed.{pass_more}
use Rattle.working_out.proofs.arrivals.advance.Goals as goal

pub loop-place-preserved : goal.loop-place-preserved
loop-place-preserved c =
    let (ports, hops, count, so_far) = c.loop-place.invariant in (
      c.pass.ensures.ports_room ∙ ports,
      c.pass.ensures.hops_room ∙ hops,
      c.pass.ensures.same_count ∙ count,
      pass_more c.args.ports.now c.loop-place.ports c.pass.new.ports c.args.links.now c.args.hops.now c.loop-place.hops c.pass.new.hops c.loop-place.place
          (omega (arith, c.loop-place-test.true, c.count-place-end.ensures.is)) so_far c.pass.ensures.advances,
    )

pub returns-clause-advances : goal.returns-clause-advances
returns-clause-advances c =
    let end : c.loop-place.place ≡ length (rows c.args.hops.now) = omega (arith, c.loop-place-test.false, c.loop-place.auto.place-end, c.count-place-end.ensures.is) in
    subst (Advance c.args.ports.now c.args.links.now c.args.hops.now c.loop-place.ports c.loop-place.hops 0) end c.loop-place.invariant.3
