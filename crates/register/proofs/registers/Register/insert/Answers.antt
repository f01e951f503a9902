use Rattle.register.proofs.Registered.{inserted}
use Rattle.register.proofs.registers.Register.insert.Goals as goal

pub returns-clause-inserts : goal.returns-clause-inserts
returns-clause-inserts g c = inserted g.R.K.Key.before g.R.Keyed.key c.args.self.now _ c.args.most c.args.record c.insert.result (c.insert.ensures.inserts c.args.self.now.ascends)
