use Rattle.std.proofs.Common.{arith}
use Rattle.definitions.specs.Windows.{horizon}
use Rattle.theory.proofs.Windows.{horizon_pos}
use Rattle.methods.proofs.BusyPeriod.{none_before, past_limit, worst_before, busy_period_ends}
use Rattle.methods.proofs.forward_analysis.largest_backlog.Goals as goal

pub loop-work-init : goal.loop-work-init
loop-work-init c = (none_before _, horizon_pos)

pub returns-in_err-work : goal.returns-in_err-work
returns-in_err-work c =
    rw c.from_residual.ensures (past_limit _ _ c.loop-work.invariant.1 (omega (arith, c.in_err-work.ensures)))

pub loop-work-preserved : goal.loop-work-preserved
unfolding horizon
loop-work-preserved c = (
  worst_before _ _ _ _ _ c.loop-work.invariant.0 (omega (arith, c.in_ok-work.ensures))
      c.next_date-next.ensures.later c.next_date-next.ensures.flat,
  c.if-next-ge-HORIZON.false,
)

pub returns-then-work-next : goal.returns-then-work-next
unfolding horizon
returns-then-work-next c =
    busy_period_ends _ _ _ _ _ c.loop-work.invariant.0 (omega (arith, c.in_ok-work.ensures)) c.requires
    c.loop-work.invariant.1 c.next_date-next.ensures.later c.next_date-next.ensures.flat (grind (arith, c.in_ok-work.ensures))
