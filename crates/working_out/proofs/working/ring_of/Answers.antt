use Rattle.register.specs.Registers.{rows}
use Rattle.working_out.proofs.Judging.{none_waits}
use Rattle.working_out.proofs.working.ring_of.Goals as goal

pub returns-in_err-first_with-clause-told : goal.returns-in_err-first_with-clause-told
returns-in_err-first_with-clause-told c r worth ls s k =
    rw c.from_residual.ensures
    (none_waits r worth s (rows c.args.ports.now) ls c.args.hops.now k
    (rw c.all.ensures at c.in_err-first_with.ensures))
