use Rattle.std.proofs.Common.{rules}
use Rattle.std.proofs.lemmas.Fn.{always_returns_same}
use Rattle.register.specs.Orders.{by_key}
use Rattle.register.proofs.Adjacent.{told}
use Rattle.register.proofs.Searching.{is_before}
use Rattle.register.proofs.searches.ascend.Goals as goal

pub returns : goal.returns
returns g c =
    let lt = g.R.K.Key.before in
    let key = g.R.Keyed.key in
    let one = g.met.R.K.Key.trichotomy in
    told (by_key lt key) (λ x y z. g.met.R.K.Key.transitive (key x) (key y) (key z)) c.args.records.now c.is_sorted_by.result
    (c.is_sorted_by.ensures.cases (by_key lt key)
    (always_returns_same _ _ _ (λ a r f' called. (is_before lt one (key a.0.now) (key a.1.0.now) r (search rules), search rules))))
