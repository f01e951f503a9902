use Rattle.std.proofs.Common.{◌+◌, refl, arith}
use borrow.Rule.Slice.Mut.{set_vals}
use Rattle.register.proofs.Exits.{present, full_up, added, kept_same}
use Rattle.register.proofs.tables.Table.insert.Goals as goal

pub returns-in_default : goal.returns-in_default
returns-in_default g c = record {
  inserts = present g.R.K.Key.before g.R.Keyed.key g.met.R.K.Key.trichotomy c.args.most c.args.record c.key.result c.key.ensures c.args.self.now
      c.in_default.field-0 c.in_default.ensures.found;
  kept = kept_same _ _ _;
}

pub returns-then-count-min : goal.returns-then-count-min
returns-then-count-min g c = record {
  inserts = λ o. full_up g.R.K.Key.before g.R.Keyed.key g.met.R.K.Key.trichotomy c.args.most c.args.record c.key.result c.key.ensures c.args.self.now
      c.in-Err.place c.count-count.result c.count-count.ensures.is c.in-Err.ensures.found o (omega arith);
  kept = kept_same _ _ _;
}

pub returns : goal.returns
returns g c =
    let a = added g.R.K.Key.before g.R.Keyed.key g.met.R.K.Key.trichotomy c.args.most c.args.record c.key.result c.key.ensures c.args.self.now
    c.in-Err.place c.count-count.result c.count-count.ensures.is c.in-Err.ensures.found
    (record { places = set_vals c.insert_at.new.places c.args.self.now.places; len = c.count-count.result + 1 })
    (omega arith) c.insert_at.auto.places refl c.insert_at.ensures in
    record { inserts = a.0; kept = a.1 }
