use Rattle.std.proofs.Common.{arith}
use Rattle.std.proofs.lemmas.Grind.{common_steps}
use Rattle.working_out.proofs.Edited.{one_changed, all_changed}
use Rattle.working_out.proofs.edits.edit_all.Goals as goal

pub loop-place-preserved : goal.loop-place-preserved
loop-place-preserved g c = (
  grind (arith, common_steps),
  λ edited computes. one_changed g.R.K.Key.before g.R.Keyed.key edited c.args.table.now c.loop-place.table c.replace.new.self c.loop-place.place
      c.in-Some.row c.edit.result c.replace.result c.in-Some.ensures (computes c.in-Some.row c.edit.result c.edit.ensures) (c.loop-place.invariant.1 edited computes) c.replace.ensures,
)

pub returns : goal.returns
returns g c edited computes = all_changed g.R.K.Key.before g.R.Keyed.key edited c.args.table.now c.loop-place.table c.loop-place.place
    (omega (arith, c.loop-place-test.false, c.count-place-end.ensures.is)) (c.loop-place.invariant.1 edited computes)
