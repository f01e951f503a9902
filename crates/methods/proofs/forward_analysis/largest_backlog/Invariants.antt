use Rattle.std.proofs.Common.{◌≡◌, ◌-◌, ◌<◌}
use Rattle.definitions.specs.Windows.{horizon}
use Rattle.definitions.specs.Methods.{most}
use Rattle.methods.proofs.forward_analysis.largest_backlog.Given as goal

-- the worst so far is the largest at the moments before the date
abbrev pub invariant-loop-work : goal.invariant-loop-work
invariant-loop-work l = (l.worst ≡ most l.rows l.date) × (l.date < horizon)

abbrev pub decreases-loop-work : goal.decreases-loop-work
decreases-loop-work l = horizon - l.date
