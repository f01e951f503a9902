-- Gathering: the loads of one port, as they stand in the rows.
--
--   link_under rs n       the link of that number
--   row_load p l row      the load that the row's hop, of the link l, brings to the port p
--   loads_at rs p hs      the loads of the port p, by ascending link
--   Gathers               n loads are written from the first place on: those of the port
--   OverloadedRow         the loads of the row's port overload it
--   FirstPort P ps r      r is the number of the first row of which P holds, if there is one

use Rattle.std.specs.Prelude.{◌≡◌, ℕ, ◌-◌, ◌≤◌, List, ◌∷◌, ◌++◌, map, length, take, Some, None, filter, Option, nat_eq}
use Rattle.std.specs.List.{AllByRecursion}
use Rattle.definitions.specs.Windows.{Overloaded}
use Rattle.working_out.specs.declared.rows.PortRow.{PortRow}
use Rattle.definitions.specs.declared.loads.Load.{Load}
use Rattle.definitions.specs.declared.network.Port.{Port}
use Rattle.definitions.specs.declared.network.VirtualLink.{VirtualLink}
use Rattle.definitions.specs.Network.{occupancy, gap_of, find_link}
use Rattle.working_out.specs.declared.rows.LinkRow.{LinkRow}
use Rattle.working_out.specs.declared.rows.HopRow.{HopRow}

abbrev pub link_under : List LinkRow → ℕ → VirtualLink
link_under rs n = find_link (map (λ (r : LinkRow). r.link) rs) n

abbrev pub row_load : Port → VirtualLink → HopRow → Load
row_load p l row = record {
  occupancy = occupancy p l.longest;
  gap = gap_of l;
  jitter = row.latest - row.earliest;
}

abbrev pub loads_at : List LinkRow → Port → List HopRow → List Load
loads_at rs p hs = map (λ (h : HopRow). row_load p (link_under rs h.hop.link) h) (filter (λ (h : HopRow). nat_eq h.hop.port p.number) hs)

pub record Gathers (rs : List LinkRow) (hs : List HopRow) (p : Port) (after : List Load) (n : ℕ) : Type 0 where
  pub within : n ≤ length hs
  pub loads : take n after ≡ loads_at rs p hs

abbrev pub OverloadedRow : List LinkRow → List HopRow → PortRow → Type 0
OverloadedRow rs hs row = Overloaded (loads_at rs row.port hs)

-- the first of the rows of which P holds
pub record FirstIs (P : PortRow → Type 0) (ps : List PortRow) (n : ℕ) : Type 0 where
  pub before : List PortRow
  pub row : PortRow
  pub rest : List PortRow
  pub parts : ps ≡ before ++ (row ∷ rest)
  pub none_before : AllByRecursion (λ x. ¬ P x) before
  pub holds : P row
  pub number : row.port.number ≡ n

abbrev pub FirstPort : (PortRow → Type 0) → List PortRow → Option ℕ → Type 0
FirstPort P ps (Some n) = FirstIs P ps n
FirstPort P ps None = AllByRecursion (λ x. ¬ P x) ps
