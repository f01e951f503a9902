-- What feeds ports that are worked out is worked out.
use Rattle.std.proofs.Common.{ℕ, List, sym, ◌∙◌, inl}
use Rattle.definitions.specs.declared.loads.Load.{Load}
use Rattle.definitions.specs.Network.{Records, FeedsNext, Feeds, direct, through}
use Rattle.working_out.specs.declared.rows.PortRow.{PortRow}
use Rattle.working_out.specs.declared.rows.LinkRow.{LinkRow}
use Rattle.working_out.specs.declared.rows.HopRow.{HopRow}
use Rattle.working_out.specs.Settling.{DoneAt, Worked}

module _ {r : Records} {worth : List Load → ℕ} {ps : List PortRow} {ls : List LinkRow} {hs : List HopRow} (w : Worked r worth ps ls hs) where
  done_back : {q p : ℕ} → Feeds r q p → DoneAt ps p → DoneAt ps q
  done_back (direct {q = q} n) d = w.after_done d.row d.there (inl d.holds) n.hop n.there (n.at ∙ sym d.number) q n.after
  done_back (through f g) d = done_back f (done_back g d)

  -- where what feeds a port directly is worked out, all that feeds it is
  pub fed_done : {q p : ℕ} → ((q : ℕ) → FeedsNext r q p → DoneAt ps q) → Feeds r q p → DoneAt ps q
  fed_done next (direct {q = q} n) = next q n
  fed_done next (through f g) = done_back f (fed_done next g)
