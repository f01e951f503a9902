use Rattle.std.proofs.Common.{refl, rules}
use Rattle.std.proofs.lemmas.Fn.{always_returns_same}
use Rattle.register.specs.Orders.{compare}
use Rattle.register.proofs.Searching.{searched}
use Rattle.register.proofs.searches.find_in.Goals as goal

pub returns-clause-found : goal.returns-clause-found
returns-clause-found g c =
    let lt = g.R.K.Key.before in
    let key = g.R.Keyed.key in
    let one = g.met.R.K.Key.trichotomy in
    let carries = g.met.R.K.Key.transitive in
    let rs = c.args.records.now in
    let place = c.binary_search_by.ensures.position (λ y. compare lt (key y) c.args.key)
    (always_returns_same _ _ _ (λ a r f' called. (search rules, search rules))) in
    λ up. searched lt key one carries rs up c.args.key rs refl c.binary_search_by.result c.binary_search_by.ensures.bound place
