-- What is told of the arrivals at a hop.
use Rattle.std.proofs.Common.{◌≡◌, ℕ, true, List, Option, Some, None, MatchOption, inr, arith}
use Rattle.definitions.specs.declared.network.Hop.{Hop}
use Rattle.definitions.specs.Lists.{ascending}
use Rattle.register.specs.Registers.{by_key, Getting}
use Rattle.working_out.specs.declared.rows.Progress.TheVariants.{WorkedOut}
use Rattle.working_out.specs.declared.rows.PortRow.{PortRow}
use Rattle.working_out.specs.declared.rows.LinkRow.{LinkRow}
use Rattle.working_out.specs.declared.rows.HopRow.{HopRow}
use Rattle.working_out.specs.Keys.{number_before, port_key, hop_key}
use Rattle.working_out.proofs.Tabled.{one_row}
use Rattle.working_out.specs.Settling.{Arrives, next_earliest, next_latest}

module _ (ps : List PortRow) (ls : List LinkRow) (hs : List HopRow) (h : Hop) (q : ℕ) (after : h.after ≡ Some q) where
  pub port_unknown : Getting port_key ps q None → Arrives ps ls hs h None
  port_unknown none = (q, after, λ b. none b.port b.port_there cc)

  pub port_undone : ascending (by_key number_before port_key) ps ≡ true → (x : PortRow) → Getting port_key ps q (Some x) → ¬ (x.progress ≡ WorkedOut)
      → Arrives ps ls hs h None
  port_undone up x (i, e) not_done = (
    q,
    after,
    λ b.
        let same : b.port ≡ x = one_row ps up b.port x b.port_there i cc in
        not_done cc,
  )

  -- where the row under the port, if there is one, was let through only if its figures are worked out
  pub port_out : ascending (by_key number_before port_key) ps ≡ true → (o : Option PortRow) → Getting port_key ps q o
      → MatchOption o (Unit {0}) (λ x. ¬ (x.progress ≡ WorkedOut)) → Arrives ps ls hs h None
  port_out up None none _ = port_unknown none
  port_out up (Some x) got not_done = port_undone up x got not_done

  pub hop_unknown : Getting hop_key hs (h.link, q) None → Arrives ps ls hs h None
  hop_unknown none = (q, after, λ b. none b.hop b.hop_there cc)

  pub arrives : (x : PortRow) (y : HopRow) → Getting port_key ps q (Some x) → x.progress ≡ WorkedOut → Getting hop_key hs (h.link, q) (Some y)
      → (a b : ℕ) → a ≡ next_earliest ls x y → b ≡ next_latest x y → Arrives ps ls hs h (Some (a, b))
  arrives x y (i, e) done (j, k) a b f g = inr (
    record {
      port = x;
      port_there = i;
      done = done;
      after = cc;
      hop = y;
      hop_there = j;
      same_link = grind arith;
      same_port = grind arith;
    },
    f,
    g,
  )
