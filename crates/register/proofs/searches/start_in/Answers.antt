use Rattle.std.proofs.Common.{refl, rules}
use Rattle.std.proofs.lemmas.Fn.{always_returns_same}
use Rattle.register.proofs.Searching.{parted, is_before}
use Rattle.register.proofs.searches.start_in.Goals as goal

pub returns : goal.returns
returns g c =
    let lt = g.R.K.Key.before in
    let key = g.R.Keyed.key in
    let one = g.met.R.K.Key.trichotomy in
    let rs = c.args.records.now in
    let place = c.partition_point.ensures.partitioned (λ y. lt (key y) c.args.key)
    (always_returns_same _ _ _ (λ a r f' called. (is_before lt one (key a.0.now) c.args.key r (search rules), search rules))) in
    λ up. parted lt key one g.met.R.K.Key.transitive rs up c.args.key rs refl c.partition_point.result c.partition_point.ensures.bound place
