use Rattle.std.proofs.Common.{◌+◌, rules, arith, tests}
use Rattle.folds.proofs.Tried.{told_by_try_fold, total_is_fold}
use Rattle.folds.proofs.sum.Goals as goal

pub returns : goal.returns
returns g c =
    let figure = g.M.Measure.figure c.args.measure.now in
    told_by_try_fold (λ a x. a + figure x) (λ i. i.rest.now) c.iter.result _ _ _ (λ a x. omega arith)
    (rw c.iter.ensures.rest (omega (arith, total_is_fold figure 0 c.args.items.now)))
    c.iter.ensures.runs c.try_fold.ensures.runs (λ a x v f' k. search (rules, tests))
