use Rattle.std.proofs.Common.{sym, ◌∙◌, arith, length-set, length-take}
use Rattle.working_out.proofs.Edited.{row_changed, rows_changed}
use Rattle.working_out.proofs.edits.edit_rows.Goals as goal

pub bounds-table-place : goal.bounds-table-place
bounds-table-place g c =
    omega (arith, c.loop-place-test.true, c.count-place-end.ensures.is, c.loop-place.invariant.1, length-take c.args.table.now.len c.args.table.now.places.now)

pub loop-place-preserved : goal.loop-place-preserved
loop-place-preserved g c = (
  c.loop-place.invariant.0,
  length-set c.loop-place.table.places.now c.loop-place.place c.edit.result ∙ c.loop-place.invariant.1,
  λ edited computes. row_changed edited c.args.table.now c.loop-place.table c.loop-place.place c.index-table-place.result c.edit.result
      c.loop-place.invariant.0 c.loop-place.invariant.1 (omega (arith, c.loop-place-test.true, c.count-place-end.ensures.is))
      c.index-table-place.is (computes c.index-table-place.result c.edit.result (rw (sym c.index-table-place.is) at c.edit.ensures)) (c.loop-place.invariant.2 edited computes),
)

pub returns : goal.returns
returns g c edited computes = rows_changed edited c.args.table.now c.loop-place.table c.loop-place.place
    (omega (arith, c.loop-place-test.false, c.count-place-end.ensures.is)) c.loop-place.invariant.0 c.loop-place.invariant.1 (c.loop-place.invariant.2 edited computes)
