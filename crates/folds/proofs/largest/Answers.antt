use Rattle.std.proofs.Common.{max, rules, arith, tests}
use Rattle.folds.proofs.Tried.{told_by_try_fold, largest_is_fold}
use Rattle.folds.proofs.Reached.{largest_is_largest}
use Rattle.folds.proofs.largest.Goals as goal

pub returns-clause-told : goal.returns-clause-told
returns-clause-told g c =
    let figure = g.M.Measure.figure c.args.measure.now in
    told_by_try_fold (λ a x. max a (figure x)) (λ i. i.rest.now) c.iter.result _ _ _ (λ a x. omega arith)
    (rw c.iter.ensures.rest (omega (arith, largest_is_fold figure 0 c.args.items.now)))
    c.iter.ensures.runs c.try_fold.ensures.runs (λ a x v f' k. search (rules, tests))

pub returns-clause-meant : goal.returns-clause-meant
returns-clause-meant g c = largest_is_largest _ _
