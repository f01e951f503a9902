-- Marks: how the rows of ports are marked while figures are worked out.
--
--   marked p x      the row with its progress at p
--   opened x        a port that waits is open again
--   held_up x       an open port waits

use Rattle.working_out.specs.declared.rows.Progress.{Progress}
use Rattle.working_out.specs.declared.rows.Progress.TheVariants.{Open, Waiting, WorkedOut, PastLimit}
use Rattle.working_out.specs.declared.rows.PortRow.{PortRow}

abbrev pub marked : Progress → PortRow → PortRow
marked p x = record { port = x.port; backlog = x.backlog; depth = x.depth; progress = p; fed = x.fed }

abbrev pub opened_from : Progress → Progress
opened_from Open = Open
opened_from Waiting = Open
opened_from WorkedOut = WorkedOut
opened_from PastLimit = PastLimit

abbrev pub opened : PortRow → PortRow
opened x = marked (opened_from x.progress) x

abbrev pub held_up_from : Progress → Progress
held_up_from Open = Waiting
held_up_from Waiting = Waiting
held_up_from WorkedOut = WorkedOut
held_up_from PastLimit = PastLimit

abbrev pub held_up : PortRow → PortRow
held_up x = marked (held_up_from x.progress) x
