use Rattle.std.proofs.Common.{rules, tests, sym, ap, ◌∙◌, arith}
use Rattle.definitions.specs.Text.{number_on}
use Rattle.scan.proofs.Numerals.{digits_read, filtered}
use Rattle.scan.proofs.digits.Goals as goal

pub returns : goal.returns
returns c =
    filtered c.args.most c.try_fold.result c.filter.result c.filter.ensures (λ n b call. search (rules, tests))
    ∙ sym (digits_read c.args.most c.try_fold.result c.try_fold.ensures.ran (λ p q x call. search rules) (λ g n x call. search rules) (omega arith))
    ∙ ap (number_on c.args.most 0) c.iter.ensures.rest
