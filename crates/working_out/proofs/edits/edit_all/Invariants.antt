use Rattle.std.proofs.Common.{◌≡◌, length}
use Rattle.register.specs.Registers.{rows}
use Rattle.working_out.proofs.Edited.{Changed}
use Rattle.working_out.proofs.edits.edit_all.Given as goal

-- the rows that were passed are changed, the others as they were
abbrev pub invariant-loop-place : goal.invariant-loop-place
invariant-loop-place g l =
    (length (rows l.table) ≡ length (rows l.initial.table))
    × ((edited : _) → ((x y : _) → goal.F-post g l.edit x y → y ≡ edited x) → Changed g.R.K.Key.before g.R.Keyed.key edited l.initial.table l.place l.table)
