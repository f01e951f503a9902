use Rattle.register.proofs.Registered.{replaced}
use Rattle.register.proofs.registers.Register.replace.Goals as goal

pub returns : goal.returns
returns g c = replaced g.R.K.Key.before g.R.Keyed.key c.args.self.now _ c.args.place c.args.record c.replace.result c.replace.ensures
