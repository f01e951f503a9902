use Rattle.std.proofs.Common.{◌≡◌, ◌+◌, length, vec_items}
use Rattle.std.specs.Iterator.Adapters.{zip_first, zip_second}
use Rattle.definitions.specs.Text.{lines}
use Rattle.scan.specs.Cursors.{lines_left}
use Rattle.port_check.proofs.Lines.{ReadOn}
use Rattle.port_check.proofs.input.read_loads.Given as goal

-- the next line has the number that comes next, and what is left, read on, gives the answer
abbrev pub invariant-loop-line : goal.invariant-loop-line
invariant-loop-line l =
    (goal.iterator-loop-line).can_next l.line-iterator
    × (goal.iterator-loop-line).is_finite l.line-iterator
    × ((zip_first l.line-iterator).start + length (lines_left (zip_second l.line-iterator)) ≡ length (lines l.text) + 1)
    × ReadOn (lines l.text) (zip_first l.line-iterator).start (lines_left (zip_second l.line-iterator)) (vec_items l.rows)
