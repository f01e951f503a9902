use Rattle.std.proofs.Common.{◌∙◌, rules, tests}
use Rattle.std.proofs.lemmas.Iterator.{YieldsList-from_slice}
use Rattle.std.proofs.lemmas.Iterator.Search.{any_from_yields_List}
use Rattle.book.proofs.Runs.{row_begins, begins_is, any_is_some}
use Rattle.book.proofs.link_runs.has_first.Goals as goal

-- with the lemmas of Runs named on the function no proof is found: those of iterators take what the closure tests
pub returns : goal.returns
returns c =
    any_from_yields_List row_begins _ _ _ c.any.ensures.ran (YieldsList-from_slice c.args.rows.now cc) (λ x b q k. (search (rules, tests), begins_is x.now.hop b (search (rules, tests))))
    ∙ any_is_some row_begins c.args.rows.now
