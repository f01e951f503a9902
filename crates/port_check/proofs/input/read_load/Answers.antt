use Rattle.std.proofs.Common.{[], ◌∷◌, rules}
use Rattle.definitions.specs.Text.{fields}
use Rattle.port_check.proofs.Lines.{refused_field}
use Rattle.port_check.proofs.input.read_load.Goals as goal

pub returns-in_err-occupancy : goal.returns-in_err-occupancy
returns-in_err-occupancy c =
    refused_field c.args.line (fields c.args.row.now) [] c.in_ok-first.first.now (c.in_ok-first.second.now ∷ c.in_ok-first.third.now ∷ [])
    c.in_err-occupancy.field-0.0 c.from_residual-in_err-occupancy.result (search rules) (search rules) c.in_err-occupancy.ensures c.from_residual-in_err-occupancy.ensures.1

pub returns-in_err-gap : goal.returns-in_err-gap
returns-in_err-gap c =
    refused_field c.args.line (fields c.args.row.now) (c.in_ok-occupancy.occupancy ∷ []) c.in_ok-first.second.now (c.in_ok-first.third.now ∷ [])
    c.in_err-gap.field-0.0 c.from_residual-in_err-gap.result (search rules) (search rules) c.in_err-gap.ensures c.from_residual-in_err-gap.ensures.1

pub returns-in_err-jitter : goal.returns-in_err-jitter
returns-in_err-jitter c =
    refused_field c.args.line (fields c.args.row.now) (c.in_ok-occupancy.occupancy ∷ c.in_ok-gap.gap ∷ []) c.in_ok-first.third.now []
    c.in_err-jitter.field-0.0 c.from_residual-in_err-jitter.result (search rules) (search rules) c.in_err-jitter.ensures c.from_residual-in_err-jitter.ensures.1
