use Rattle.std.proofs.Common.{◌≡◌}
use Rattle.register.specs.Tables.{rows, room}
use Rattle.working_out.proofs.Edited.{ChangedRows}
use Rattle.working_out.proofs.edits.edit_rows.Given as goal

-- the rows that were passed are changed, the others as they were
abbrev pub invariant-loop-place : goal.invariant-loop-place
invariant-loop-place g l =
    (l.table.len ≡ l.initial.table.len)
    × (room l.table ≡ room l.initial.table)
    × ((edited : _) → ((x y : _) → goal.F-post g l.edit x y → y ≡ edited x) → ChangedRows edited l.initial.table l.place (rows l.table))
