use Rattle.std.proofs.Common.{◌+◌}
use Rattle.register.proofs.Registered.{removed}
use Rattle.register.proofs.registers.Register.remove_one.Goals as goal

pub returns : goal.returns
returns g c = removed g.R.K.Key.before g.R.Keyed.key c.args.self.now _ c.args.place (c.args.place + 1) c.remove_one.result c.remove_one.ensures
