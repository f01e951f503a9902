use Rattle.std.proofs.Common.{◌||◌, take, sym, subst}
use Rattle.std.proofs.lemmas.List.{take_more}
use Rattle.working_out.specs.Rings.{Spreads}
use Rattle.working_out.proofs.RingMarks.{spreads_on}
use Rattle.working_out.proofs.rings.spread.Goals as goal

pub loop-row-preserved : goal.loop-row-preserved
loop-row-preserved c =
    subst (λ hs. Spreads hs c.args.from c.args.ports.now c.feed_next-added.new.ports (c.loop-row.added || c.feed_next-added.result))
    (sym (take_more c.args.hops.now c.loop-row.row-index _ c.loop-row-test.true))
    (spreads_on (take c.loop-row.row-index c.args.hops.now) _ c.args.from c.args.ports.now c.loop-row.ports _ c.loop-row.added c.feed_next-added.result c.loop-row.invariant c.feed_next-added.ensures)
