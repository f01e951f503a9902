-- Network: the records of a book, and the rules that they keep.
--
--   Records            the ports, virtual links and hops of a book, each in ascending order of keys
--   latency            what a switch takes between the end of a frame at one port and its arrival at the next
--   byte_time p        how long a byte occupies the port p: 800 ns at 10 Mb/s, 80 ns at 100 Mb/s
--   occupancy p n      how long a frame of n bytes occupies the port p
--   gap_of l           the gap of the link l in ns
--   find_port, find_link   the record of that number, or one of zeros where there is none
--   port_before, link_before, hop_before   the order of keys: by number; hops by link and then port
--   Precedes r k h     the hop h comes after the port of k, a hop of the same link
--   Step r h n         h is n hops after the first hop of its link
--   bags               the eight gaps, in ms
--   suits k a          a port of kind k suits a hop that comes after a
--   PortKept, LinkKept, HopKept   the rules of one record
--   WellFormed r       the rules of all records together
--   Feeds r q p        a hop at port p comes after q, or q feeds a port that feeds p
--   InRing r p         p feeds itself
--   most_ports, most_links, most_hops   what a book holds at most

use Rattle.std.specs.Prelude.{◌≡◌, ℕ, suc, ◌*◌, ◌≤◌, Bool, true, false, cond, ◌&&◌, ◌||◌, ◌⊎◌, List, [], ◌∷◌, Some, None, Option, ◌==◌, nat_lt}
use Rattle.definitions.specs.declared.network.PortKind.{PortKind}
use Rattle.definitions.specs.declared.network.PortKind.TheVariants.{End, Switch}
use Rattle.definitions.specs.declared.network.Port.{Port}
use Rattle.definitions.specs.declared.network.VirtualLink.{VirtualLink}
use Rattle.definitions.specs.declared.network.Hop.{Hop}
use Rattle.definitions.specs.Lists.{In, find, ascending}

pub record Records : Type 0 where
  pub ports : List Port
  pub links : List VirtualLink
  pub hops : List Hop

abbrev pub latency : ℕ
latency = 16000

abbrev pub byte_time : Port → ℕ
byte_time p = cond (p.rate == 100) 80 800

abbrev pub occupancy : Port → ℕ → ℕ
occupancy p n = n * byte_time p

abbrev pub gap_of : VirtualLink → ℕ
gap_of l = l.gap * 1000000

-- ## Looking up

abbrev pub find_port : List Port → ℕ → Port
find_port ps n = find (λ (p : Port). p.number) record { number = 0; kind = End; rate = 0 } ps n

abbrev pub find_link : List VirtualLink → ℕ → VirtualLink
find_link ls n = find (λ (l : VirtualLink). l.number) record { number = 0; gap = 0; shortest = 0; longest = 0 } ls n

-- ## Order of keys

abbrev pub port_before : Port → Port → Bool
port_before p q = nat_lt p.number q.number

abbrev pub link_before : VirtualLink → VirtualLink → Bool
link_before l m = nat_lt l.number m.number

abbrev pub hop_before : Hop → Hop → Bool
hop_before h k = nat_lt h.link k.link || (h.link == k.link && nat_lt h.port k.port)

-- ## The rules

pub record PortKept (p : Port) : Type 0 where
  pub number_most : p.number ≤ 255
  pub rate_known : (p.rate ≡ 10) ⊎ (p.rate ≡ 100)

-- the gap (BAG) of a link, in ms
abbrev pub bags : List ℕ
bags = 1 ∷ 2 ∷ 4 ∷ 8 ∷ 16 ∷ 32 ∷ 64 ∷ 128 ∷ []

pub record LengthsKept (l : VirtualLink) : Type 0 where
  pub shortest_least : 64 ≤ l.shortest
  pub in_order : l.shortest ≤ l.longest
  pub longest_most : l.longest ≤ 1518

pub record LinkKept (l : VirtualLink) : Type 0 where
  pub number_most : l.number ≤ 65535
  pub gap_known : In l.gap bags
  pub lengths : LengthsKept l

pub record Precedes (r : Records) (k h : Hop) : Type 0 where
  pub there : In k r.hops
  pub same_link : k.link ≡ h.link
  pub before : h.after ≡ Some k.port

pub data Step (r : Records) : Hop → ℕ → Type 0 where
  first : {h : Hop} → h.after ≡ None → Step r h 0
  next : {k h : Hop} {n : ℕ} → Precedes r k h → Step r k n → Step r h (suc n)

-- the port of a hop suits it: end systems begin links, switches carry them on
abbrev pub suits : PortKind → Option ℕ → Bool
suits End None = true
suits End (Some q) = false
suits Switch None = false
suits Switch (Some q) = true

pub record HopKept (r : Records) (h : Hop) : Type 0 where
  pub link_known : (l : VirtualLink) × In l r.links × (l.number ≡ h.link)
  pub port_known : (p : Port) × In p r.ports × (p.number ≡ h.port) × (suits p.kind h.after ≡ true)
  pub stepped : (n : ℕ) × Step r h n
  pub one_first : (k : Hop) → In k r.hops → k.link ≡ h.link → k.after ≡ None → h.after ≡ None → k ≡ h

-- that a link has at most one hop at a port is part of the order of keys
pub record WellFormed (r : Records) : Type 0 where
  pub ports_ascend : ascending port_before r.ports ≡ true
  pub links_ascend : ascending link_before r.links ≡ true
  pub hops_ascend : ascending hop_before r.hops ≡ true
  pub ports_kept : (p : Port) → In p r.ports → PortKept p
  pub links_kept : (l : VirtualLink) → In l r.links → LinkKept l
  pub hops_kept : (h : Hop) → In h r.hops → HopKept r h

-- ## Feeding

pub record FeedsNext (r : Records) (q p : ℕ) : Type 0 where
  pub hop : Hop
  pub there : In hop r.hops
  pub at : hop.port ≡ p
  pub after : hop.after ≡ Some q

pub data Feeds (r : Records) : ℕ → ℕ → Type 0 where
  direct : {q p : ℕ} → FeedsNext r q p → Feeds r q p
  through : {q m p : ℕ} → Feeds r q m → Feeds r m p → Feeds r q p

abbrev pub InRing : Records → ℕ → Type 0
InRing r p = Feeds r p p

abbrev pub most_ports : ℕ
most_ports = 256

abbrev pub most_links : ℕ
most_links = 4096

abbrev pub most_hops : ℕ
most_hops = 16384
