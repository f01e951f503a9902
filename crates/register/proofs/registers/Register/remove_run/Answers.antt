use Rattle.register.proofs.Registered.{removed}
use Rattle.register.proofs.registers.Register.remove_run.Goals as goal

pub returns : goal.returns
returns g c = removed g.R.K.Key.before g.R.Keyed.key c.args.self.now _ c.args.from c.args.to c.remove_run.result c.remove_run.ensures
