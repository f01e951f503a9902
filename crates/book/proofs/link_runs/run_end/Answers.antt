use Rattle.std.proofs.Common.{drop, arith, rules, tests}
use Rattle.std.proofs.lemmas.Grind.{common_steps}
use Rattle.std.proofs.lemmas.Iterator.{IsFirst-from_position, YieldsList-from_slice}
use Rattle.book.proofs.Runs.{same_link, other_link, run_ends}
use Rattle.book.proofs.link_runs.run_end.Goals as goal

-- with the lemma of Runs named on the function no proof is found: that of iterators takes what the closure tests
pub returns : goal.returns
returns c =
    run_ends c.args.rows.now c.args.link c.args.from c.requires c.position-others.result
    (IsFirst-from_position _ _ c.position-others.result (other_link c.args.link) (same_link c.args.link) c.position-others.ensures.ran
    (YieldsList-from_slice (drop c.args.from c.args.rows.now) (grind (arith, common_steps))) (λ x q k. search (rules, tests)) (λ x q k. search (rules, tests)))
    _ c.unwrap_or.result (grind (arith, common_steps)) c.unwrap_or.ensures
