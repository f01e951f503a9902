use Rattle.working_out.proofs.Edited.{under_changed}
use Rattle.working_out.proofs.edits.edit_under.Goals as goal

pub returns : goal.returns
returns g c edited computes =
    under_changed g.R.K.Key.before g.R.Keyed.key g.met.R.K.Key.trichotomy edited c.args.key c.args.table.now c.replace.new.self c.in-Ok.place
    c.in-Some.row c.edit.result c.replace.result c.in-Ok.ensures.found c.in-Some.ensures (computes c.in-Some.row c.edit.result c.edit.ensures) c.replace.ensures
