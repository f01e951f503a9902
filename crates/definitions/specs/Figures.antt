-- Figures: the worst-case figures of a network, as equations that they keep.
--
--   Figures              a backlog for each port, an earliest and a latest arrival for each hop, by numbers
--   load_of r F h        the load that the hop h brings to its port
--   loads r F p          the list of a port: one load for each hop there, by ascending link
--   departure F h        the latest end of a frame at the hop h, after its release
--   delay r F l          the largest departure of the link's hops
--   depth r F p          how many frames the port holds at most
--   FiguresOf r worth F  F are figures of the records by a method of this worth
--   Past r F p           a figure of the port exceeds the limit
--   Settled r worth F    F are figures that a successful working-out leaves

use Rattle.std.specs.Prelude.{◌≡◌, ℕ, ◌+◌, ◌-◌, ◌/◌, ◌<◌, ◌⊎◌, List, map, Some, None, filter, nat_eq}
use Rattle.definitions.specs.declared.loads.Load.{Load}
use Rattle.definitions.specs.declared.network.Port.{Port}
use Rattle.definitions.specs.declared.network.Hop.{Hop}
use Rattle.definitions.specs.Lists.{In, total, largest}
use Rattle.definitions.specs.Windows.{Overloaded}
use Rattle.definitions.specs.Methods.{limit}
use Rattle.definitions.specs.Network.{Records, latency, occupancy, gap_of, find_port, find_link, InRing}

pub record Figures : Type 0 where
  pub backlog : ℕ → ℕ
  pub earliest : ℕ → ℕ → ℕ
  pub latest : ℕ → ℕ → ℕ

abbrev pub earliest_at : Figures → Hop → ℕ
earliest_at F h = F.earliest h.link h.port

abbrev pub latest_at : Figures → Hop → ℕ
latest_at F h = F.latest h.link h.port

abbrev pub load_of : Records → Figures → Hop → Load
load_of r F h = record {
  occupancy = occupancy (find_port r.ports h.port) (find_link r.links h.link).longest;
  gap = gap_of (find_link r.links h.link);
  jitter = latest_at F h - earliest_at F h;
}

-- the hops of a book stand by link and then port
abbrev pub hops_at : Records → ℕ → List Hop
hops_at r p = filter (λ (h : Hop). nat_eq h.port p) r.hops

abbrev pub hops_of : Records → ℕ → List Hop
hops_of r l = filter (λ (h : Hop). nat_eq h.link l) r.hops

abbrev pub loads : Records → Figures → ℕ → List Load
loads r F p = map (load_of r F) (hops_at r p)

abbrev pub departure : Figures → Hop → ℕ
departure F h = latest_at F h + F.backlog h.port

abbrev pub delay : Records → Figures → ℕ → ℕ
delay r F l = largest (departure F) (hops_of r l)

-- a frame that is held arrived within the last backlog − 1 moments or now
abbrev pub depth : Records → Figures → ℕ → ℕ
depth r F p = total (λ (l : Load). 1 + (F.backlog p - 1 + l.jitter) / l.gap) (loads r F p)

pub record FiguresOf (r : Records) (worth : List Load → ℕ) (F : Figures) : Type 0 where
  pub first_earliest : (h : Hop) → In h r.hops → h.after ≡ None → earliest_at F h ≡ 0
  pub first_latest : (h : Hop) → In h r.hops → h.after ≡ None → latest_at F h ≡ 0
  pub next_earliest : (h : Hop) → In h r.hops → (q : ℕ) → h.after ≡ Some q
      → earliest_at F h ≡ F.earliest h.link q + occupancy (find_port r.ports q) (find_link r.links h.link).shortest + latency
  pub next_latest : (h : Hop) → In h r.hops → (q : ℕ) → h.after ≡ Some q
      → latest_at F h ≡ F.latest h.link q + F.backlog q + latency
  pub backlogs : (p : Port) → In p r.ports → F.backlog p.number ≡ worth (loads r F p.number)

abbrev pub Past : Records → Figures → ℕ → Type 0
Past r F p = (limit < F.backlog p) ⊎ ((h : Hop) × In h r.hops × (h.port ≡ p) × (limit < departure F h))

-- whether a port is overloaded does not depend on jitter, so not on figures
abbrev pub still : Figures
still = record { backlog = λ p. 0; earliest = λ l p. 0; latest = λ l p. 0 }

abbrev pub OverloadedAt : Records → ℕ → Type 0
OverloadedAt r p = Overloaded (loads r still p)

pub record Settled (r : Records) (worth : List Load → ℕ) (F : Figures) : Type 0 where
  pub carried : (p : Port) → In p r.ports → ¬ OverloadedAt r p.number
  pub no_ring : (p : Port) → In p r.ports → ¬ InRing r p.number
  pub figures : FiguresOf r worth F
  pub within : (p : Port) → In p r.ports → ¬ Past r F p.number
