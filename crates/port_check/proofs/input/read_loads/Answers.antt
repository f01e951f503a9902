use Rattle.std.proofs.Common.{inl, inr, vec_items, rules, arith}
use Rattle.std.proofs.lemmas.Result.{err_from_is_err_and}
use Rattle.definitions.specs.Text.{lines}
use Rattle.port_check.proofs.Lines.{lines_most, first_fault, read_on_end}
use Rattle.port_check.proofs.input.read_loads.Goals as goal

pub returns-in_err-load : goal.returns-in_err-load
returns-in_err-load c =
    let p = err_from_is_err_and c.from_residual.result c.from_residual.ensures.1 in
    let (counted, more) = c.in-Some.ensures.steps in
    rw (p.1, p.2) (first_fault (lines c.args.text.now) _ c.in-Some.line _ c.in-Some.row.now _ (vec_items c.loop-line.rows)
    c.loop-line.invariant.3 counted.0 more c.read_load.result c.in_err-load.field-0.0
    c.read_load.ensures c.in_err-load.ensures.cases (λ e call. search rules))

pub returns : goal.returns
returns c =
    elim c.in-None.ensures.steps [
      | inl (u, none) ↦ absurd (omega (arith, none.0, c.loop-line.invariant.2, lines_most c.args.text.now))
      | inr (u, none) ↦ read_on_end _ _ _ _ c.loop-line.invariant.3 none.0
    ]
