use Rattle.std.proofs.Common.{length, is_err, ap, ◌∙◌, arith, rules}
use Rattle.working_out.specs.Rows.{rested}
use Rattle.working_out.proofs.Concluding.{works_refused, works_settled, cleared_rests, edited_rests}
use Rattle.working_out.proofs.working.work_out_registers.Goals as goal

pub returns-then-loads-count-clause-rests : goal.returns-then-loads-count-clause-rests
returns-then-loads-count-clause-rests g c = cleared_rests _ _ _ _ c.clear_figures.ensures

pub returns-in-Some-clause-rests : goal.returns-in-Some-clause-rests
returns-in-Some-clause-rests g c = cleared_rests _ _ _ _ c.clear_figures.ensures

pub returns-in-Err-clause-rests : goal.returns-in-Err-clause-rests
returns-in-Err-clause-rests g c = cleared_rests _ _ _ _ c.clear_figures-in-Err.ensures

pub returns-in-Err-clause-works : goal.returns-in-Err-clause-works
returns-in-Err-clause-works g c wf =
    works_refused (g.M.Method.worth c.args.method.now) (g.met.M.Method.lawful c.args.method.now) (length c.args.loads.now) c.args.ports.now c.args.links.now c.args.hops.now wf
    c.clear_figures.new.ports c.clear_figures.new.hops c.clear_figures.ensures
    (omega (arith, c.if-loads-count.false, c.count.ensures.is)) (rw (c.all.ensures, c.all-2.ensures) at c.in_default.ensures)
    c.settle_all.new.ports c.judge-judged.new.ports c.settle_all.new.hops c.judge-judged.result c.settle_all.ensures.stuck (rw c.all-3.ensures at c.judge-judged.ensures.judged)
    (ap is_err c.in-Err.is) c.clear_figures-in-Err.new.ports c.clear_figures-in-Err.new.hops c.clear_figures-in-Err.ensures

pub returns-in-Ok-clause-ports_room : goal.returns-in-Ok-clause-ports_room
returns-in-Ok-clause-ports_room g c =
    (c.edit_all.ensures rested (λ x y called. search rules)).same_room ∙ c.judge-judged.ensures.same_room ∙ c.settle_all.ensures.ports_room ∙ c.clear_figures.ensures.ports_room

pub returns-in-Ok-clause-rests : goal.returns-in-Ok-clause-rests
returns-in-Ok-clause-rests g c = edited_rests _ _ (c.edit_all.ensures rested (λ x y called. search rules))

pub returns-in-Ok-clause-works : goal.returns-in-Ok-clause-works
returns-in-Ok-clause-works g c wf =
    works_settled (g.M.Method.worth c.args.method.now) (g.met.M.Method.lawful c.args.method.now) (length c.args.loads.now) c.args.ports.now c.args.links.now c.args.hops.now wf
    c.clear_figures.new.ports c.clear_figures.new.hops c.clear_figures.ensures
    (omega (arith, c.if-loads-count.false, c.count.ensures.is)) (rw (c.all.ensures, c.all-2.ensures) at c.in_default.ensures)
    c.settle_all.new.ports c.judge-judged.new.ports c.settle_all.new.hops c.judge-judged.result c.settle_all.ensures.stuck (rw c.all-3.ensures at c.judge-judged.ensures.judged)
    (ap is_err c.in-Ok.is) c.edit_all.new.table (c.edit_all.ensures rested (λ x y called. search rules))
