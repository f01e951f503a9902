-- Works: what a working-out answers, and what it leaves in the rows.
--
--   Shown r F ps hs      the rows show the figures F of the records r
--   Zero ps hs           all figures in the rows are zero
--   Cleared t h u k      the registers u and k are t and h with all figures zero
--   Zeroed t h u k       the rows of the tables u and k are those of t and h with all figures zero
--   FiguresLeft          what the rows hold after a working-out that came to an outcome
--   result_of o          what a working-out answers that came to the outcome o
--   Judged               why not every port was worked out, or that every port was
--   Works                what a working-out over the rows answers and leaves
--   InOrder t l h        the keys of all three tables ascend

use Rattle.std.specs.Prelude.{◌≡◌, ℕ, ◌≤◌, List, map, length, Some, None, Ok, Err, Option, Result}
use Rattle.std.specs.List.{AllByRecursion}
use Rattle.definitions.specs.declared.loads.Load.{Load}
use Rattle.definitions.specs.declared.refusals.Refusal.{Refusal}
use Rattle.definitions.specs.Network.{Records}
use Rattle.definitions.specs.Figures.{Figures, Settled, depth, earliest_at, latest_at}
use Rattle.definitions.specs.WorkingOut.{Outcome, settles, short, overloaded, ring, past, refusal_of, WorksOut}
use Rattle.working_out.specs.declared.rows.PortRow.{PortRow}
use Rattle.working_out.specs.declared.rows.LinkRow.{LinkRow}
use Rattle.working_out.specs.declared.rows.HopRow.{HopRow}
use Rattle.register.specs.Registers.{rows, room}
use Rattle.register.specs.Tables.{rows as table_rows, Ordered}
use Rattle.register.specs.declared.tables.Table.{Table}
use Rattle.working_out.specs.Rows.{bare_port, bare_hop}
use Rattle.working_out.specs.Keys.{number_before, place_before, port_key, link_key, hop_key, Ports, Hops}
use Rattle.working_out.specs.Settling.{Holds}

pub record Shown (r : Records) (F : Figures) (ps : List PortRow) (hs : List HopRow) : Type 0 where
  pub ports : AllByRecursion (λ (x : PortRow). (x.backlog ≡ F.backlog x.port.number) × (x.depth ≡ depth r F x.port.number)) ps
  pub hops : AllByRecursion (λ (y : HopRow). (y.earliest ≡ earliest_at F y.hop) × (y.latest ≡ latest_at F y.hop)) hs

pub record Zero (ps : List PortRow) (hs : List HopRow) : Type 0 where
  pub ports : AllByRecursion (λ (x : PortRow). (x.backlog ≡ 0) × (x.depth ≡ 0)) ps
  pub hops : AllByRecursion (λ (y : HopRow). (y.earliest ≡ 0) × (y.latest ≡ 0)) hs

-- every figure is zero, and nothing else changed
pub record Cleared (t : Ports) (h : Hops) (u : Ports) (k : Hops) : Type 0 where
  pub ports_room : room u ≡ room t
  pub hops_room : room k ≡ room h
  pub ports : rows u ≡ map (λ (x : PortRow). bare_port x.port) (rows t)
  pub hops : rows k ≡ map (λ (y : HopRow). bare_hop y.hop) (rows h)

-- the same of tables, which need not be in order
pub record Zeroed (t : Table PortRow) (h : Table HopRow) (u : Table PortRow) (k : Table HopRow) : Type 0 where
  pub ports : table_rows u ≡ map (λ (x : PortRow). bare_port x.port) (table_rows t)
  pub hops : table_rows k ≡ map (λ (y : HopRow). bare_hop y.hop) (table_rows h)

-- a working-out that settles leaves figures of the method; every refusal leaves zeros
abbrev pub FiguresLeft : Records → (List Load → ℕ) → List PortRow → List HopRow → Outcome → Type 0
FiguresLeft r worth ps hs settles = (F : Figures) × Settled r worth F × Shown r F ps hs
FiguresLeft r worth ps hs short = Zero ps hs
FiguresLeft r worth ps hs (overloaded p) = Zero ps hs
FiguresLeft r worth ps hs (ring p) = Zero ps hs
FiguresLeft r worth ps hs (past p) = Zero ps hs

abbrev pub refused_by : Option Refusal → Result (Unit {0}) Refusal
refused_by None = Ok tt
refused_by (Some e) = Err e

abbrev pub result_of : Outcome → Result (Unit {0}) Refusal
result_of o = refused_by (refusal_of o)

-- what the ports that were not worked out say, where the load table suffices and no port is overloaded
pub record Judged (r : Records) (worth : List Load → ℕ) (ps : List PortRow) (ls : List LinkRow) (hs : List HopRow) (a : Result (Unit {0}) Refusal) : Type 0 where
  pub outcome : Outcome
  pub told : a ≡ result_of outcome
  pub comes : (n : ℕ) → length r.hops ≤ n → WorksOut r worth n outcome
  pub held : Holds r ps ls hs
  pub shown : a ≡ Ok tt → FiguresLeft r worth ps hs settles

pub record Works (r : Records) (worth : List Load → ℕ) (n : ℕ) (ps : List PortRow) (ls : List LinkRow) (hs : List HopRow) (a : Result (Unit {0}) Refusal) : Type 0 where
  pub outcome : Outcome
  pub comes : WorksOut r worth n outcome
  pub answer : a ≡ result_of outcome
  pub held : Holds r ps ls hs
  pub left : FiguresLeft r worth ps hs outcome

-- only then do the tables hold a network
pub record InOrder (t : Table PortRow) (l : Table LinkRow) (h : Table HopRow) : Type 0 where
  pub ports : Ordered number_before port_key t
  pub links : Ordered number_before link_key l
  pub hops : Ordered place_before hop_key h
