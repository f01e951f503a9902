use Rattle.std.proofs.Common.{sym, ap, ◌∙◌, arith, rules, length-take, length-set}
use Rattle.std.proofs.lemmas.Option.{slice_get_within}
use Rattle.definitions.specs.Lists.{ascending}
use Rattle.register.specs.Orders.{by_key}
use Rattle.register.specs.Tables.{rows}
use Rattle.register.proofs.Exits.{same_key, rows_set}
use Rattle.register.proofs.Sorted.{set_ascends}
use Rattle.register.proofs.tables.Table.replace.Goals as goal

pub bounds-self-place : goal.bounds-self-place
bounds-self-place g c =
    let l = slice_get_within _ c.args.place c.in-Some.old (sym c.in-Some.ensures) in
    omega (arith, length-take c.args.self.now.len c.args.self.now.places.now)

pub returns : goal.returns
returns g c =
    let t = c.args.self.now in
    let within = slice_get_within (rows t) c.args.place c.in-Some.old (sym c.in-Some.ensures) in
    let same = same_key g.R.K.Key.before g.R.Keyed.key g.met.R.K.Key.trichotomy (rows t) c.args.place c.args.record c.in-Some.old c.key.result
    c.in-Some.ensures c.key.ensures c.stands.result c.stands.ensures (sym c.is_ne.ensures ∙ c.if-is_ne.false) in
    let new = rows_set t.places.now t.len c.args.place c.args.record within in
    let room = length-set t.places.now c.args.place c.args.record in (
      record {
        same_room = room;
        fits = λ z. omega (arith, room);
        order = λ o. ap (ascending (by_key g.R.K.Key.before g.R.Keyed.key)) new ∙ set_ascends g.R.K.Key.before g.R.Keyed.key (rows t) c.args.place c.args.record same ∙ o;
      },
      within,
      same,
      new,
    )

pub offset_bounds-self-place : goal.offset_bounds-self-place
offset_bounds-self-place g c = let l = bounds-self-place g c in search rules
