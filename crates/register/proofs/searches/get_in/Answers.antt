use Rattle.register.proofs.Rows.{item_at}
use Rattle.register.proofs.Searching.{got, got_none}
use Rattle.register.proofs.searches.get_in.Goals as goal

pub returns-in_err-place : goal.returns-in_err-place
returns-in_err-place g c =
    λ up. rw c.from_residual.ensures (got_none g.R.K.Key.before g.R.Keyed.key c.args.records.now c.args.key g.met.R.K.Key.trichotomy c.find_in.result (c.find_in.ensures.found up) c.in_err-place.ensures.value)

pub returns : goal.returns
returns g c =
    λ up. got g.R.K.Key.before g.R.Keyed.key c.args.records.now c.args.key c.find_in.result (c.find_in.ensures.found up)
    c.in_ok-place.place c.in_ok-place.ensures.value c.copied.result (item_at c.args.records.now _ c.get.result c.copied.result c.get.ensures.lookup c.copied.ensures)
