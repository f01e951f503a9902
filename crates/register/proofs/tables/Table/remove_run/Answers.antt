use Rattle.std.proofs.Common.{refl, arith}
use Rattle.register.proofs.Exits.{run_removed}
use Rattle.register.proofs.tables.Table.remove_run.Goals as goal

pub returns : goal.returns
returns g c =
    run_removed g.R.K.Key.before g.R.Keyed.key c.args.self.now _ c.args.from c.args.to c.count-count.result
    c.count-count.ensures.is c.count-count.ensures.bound (omega arith) (omega arith)
    c.remove_between.auto.places refl c.remove_between.ensures
