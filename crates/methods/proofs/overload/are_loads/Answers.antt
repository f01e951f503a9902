use Rattle.std.proofs.Common.{arith}
use Rattle.std.proofs.lemmas.Grind.{common_steps}
use Rattle.std.proofs.lemmas.List.Elements.{All-from_recursion, recursion_from_All}
use Rattle.definitions.specs.Loads.{IsLoad}
use Rattle.methods.proofs.overload.are_loads.Goals as goal

pub returns : goal.returns
returns c =
    let rows = c.args.rows.now in (
      λ e. recursion_from_All IsLoad rows (λ k d l. grind (arith, common_steps)),
      λ all. let each = All-from_recursion IsLoad rows all in grind (arith, common_steps),
    )
