use Rattle.std.proofs.Common.{◌≡◌, Some, rules, tests}
use Rattle.std.proofs.lemmas.Iterator.{first_from_find, YieldsList-from_slice}
use Rattle.working_out.specs.declared.rows.PortRow.{PortRow}
use Rattle.working_out.proofs.Gathered.{first_found}
use Rattle.working_out.proofs.settling.first_with.Goals as goal

pub returns : goal.returns
returns c =
    first_found (λ (x : PortRow). x.progress ≡ c.args.progress) c.args.ports.now c.in_ok-row.row.now
    (first_from_find c.find.new.self _ (Some c.in_ok-row.row) (λ (x : PortRow). x.progress ≡ c.args.progress) (λ (x : PortRow). ¬ (x.progress ≡ c.args.progress)) c.in_ok-row.ensures.ran
    (YieldsList-from_slice c.args.ports.now cc) (λ x q k. search (rules, tests)) (λ x q k. search (rules, tests)))
