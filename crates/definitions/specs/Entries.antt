-- Entries: what entering a record or removing a link meets, and what it leaves.
--
--   Places             how many records each of the tables lent to a book can hold
--   Entry              a record to be entered
--   first_met          the first ground whose test holds, of tests in the order in which they are tried
--   full n room most   n records fill a table of so many places, or a book that holds at most so many
--   port_grounds, link_grounds, hop_grounds   the grounds of an entry, in the order in which they are tried
--   entry_ground       the ground that an entry meets, if any
--   removal_ground     the ground that the removal of a link meets, if any
--   placed lt x xs     x put into the ascending list xs
--   entered, removed   the records after an entry, and after a removal, that meets no ground

use Rattle.std.specs.Prelude.{ℕ, min, Bool, true, false, cond, not, ◌&&◌, ◌||◌, List, [], ◌∷◌, length, Some, None, filter, Option, ◌==◌, nat_eq, nat_le}
use Rattle.definitions.specs.declared.network.Port.{Port}
use Rattle.definitions.specs.declared.network.VirtualLink.{VirtualLink}
use Rattle.definitions.specs.declared.network.Hop.{Hop}
use Rattle.definitions.specs.declared.refusals.Refusal.{Refusal}
use Rattle.definitions.specs.declared.refusals.Refusal.TheVariants.{RateUnknown, PortPresent, PortTableFull, GapUnknown, OutOfRange, LinkPresent, LinkTableFull, LinkUnknown, PortUnknown, HopPresent, KindUnsuited, SecondFirstHop, NoHopBefore, HopTableFull}
use Rattle.definitions.specs.Lists.{some}
use Rattle.definitions.specs.Network.{Records, find_port, port_before, link_before, hop_before, suits, bags, most_ports, most_links, most_hops}

pub record Places : Type 0 where
  pub ports : ℕ
  pub links : ℕ
  pub hops : ℕ

pub data Entry : Type 0 where
  port_entry : Port → Entry
  link_entry : VirtualLink → Entry
  hop_entry : Hop → Entry

-- ## Tests

abbrev pub has_port : Records → ℕ → Bool
has_port r n = some (λ (p : Port). nat_eq p.number n) r.ports

abbrev pub has_link : Records → ℕ → Bool
has_link r n = some (λ (l : VirtualLink). nat_eq l.number n) r.links

abbrev pub has_hop : Records → ℕ → ℕ → Bool
has_hop r l p = some (λ (h : Hop). (h.link == l) && h.port == p) r.hops

abbrev pub begins : Hop → Bool
begins h = elim h.after [ None ↦ true | Some q ↦ false ]

abbrev pub has_first_hop : Records → ℕ → Bool
has_first_hop r l = some (λ (h : Hop). (h.link == l) && begins h) r.hops

abbrev pub has_hop_before : Records → Hop → Bool
has_hop_before r h = elim h.after [ None ↦ true | Some q ↦ has_hop r h.link q ]

abbrev pub rate_known : Port → Bool
rate_known p = p.rate == 10 || p.rate == 100

abbrev pub gap_known : VirtualLink → Bool
gap_known l = some (nat_eq l.gap) bags

abbrev pub lengths_kept : VirtualLink → Bool
lengths_kept l = nat_le 64 l.shortest && (nat_le l.shortest l.longest && nat_le l.longest 1518)

abbrev pub full : ℕ → ℕ → ℕ → Bool
full n room most = nat_le (min room most) n

-- ## Grounds

abbrev pub first_met : List (Bool × Refusal) → Option Refusal
first_met [] = None
first_met (g ∷ gs) = cond g.0 (Some g.1) (first_met gs)

abbrev pub port_grounds : Places → Records → Port → List (Bool × Refusal)
port_grounds pl r p =
    (not (rate_known p), RateUnknown)
    ∷ (has_port r p.number, PortPresent)
    ∷ (full (length r.ports) pl.ports most_ports, PortTableFull)
    ∷ []

abbrev pub link_grounds : Places → Records → VirtualLink → List (Bool × Refusal)
link_grounds pl r l =
    (not (gap_known l), GapUnknown)
    ∷ (not (lengths_kept l), OutOfRange)
    ∷ (has_link r l.number, LinkPresent)
    ∷ (full (length r.links) pl.links most_links, LinkTableFull)
    ∷ []

abbrev pub hop_grounds : Places → Records → Hop → List (Bool × Refusal)
hop_grounds pl r h =
    (not (has_link r h.link), LinkUnknown)
    ∷ (not (has_port r h.port), PortUnknown)
    ∷ (has_hop r h.link h.port, HopPresent)
    ∷ (not (suits (find_port r.ports h.port).kind h.after), KindUnsuited)
    ∷ (begins h && has_first_hop r h.link, SecondFirstHop)
    ∷ (not (has_hop_before r h), NoHopBefore)
    ∷ (full (length r.hops) pl.hops most_hops, HopTableFull)
    ∷ []

abbrev pub entry_ground : Places → Records → Entry → Option Refusal
entry_ground pl r (port_entry p) = first_met (port_grounds pl r p)
entry_ground pl r (link_entry l) = first_met (link_grounds pl r l)
entry_ground pl r (hop_entry h) = first_met (hop_grounds pl r h)

abbrev pub removal_ground : Records → ℕ → Option Refusal
removal_ground r l = first_met ((not (has_link r l), LinkUnknown) ∷ [])

-- ## Effects

abbrev pub placed : {X : Type 0} → (X → X → Bool) → X → List X → List X
placed lt x [] = x ∷ []
placed lt x (y ∷ ys) = cond (lt x y) (x ∷ y ∷ ys) (y ∷ placed lt x ys)

abbrev pub no_records : Records
no_records = record { ports = []; links = []; hops = [] }

abbrev pub entered : Records → Entry → Records
entered r (port_entry p) = record { ports = placed port_before p r.ports; links = r.links; hops = r.hops }
entered r (link_entry l) = record { ports = r.ports; links = placed link_before l r.links; hops = r.hops }
entered r (hop_entry h) = record { ports = r.ports; links = r.links; hops = placed hop_before h r.hops }

abbrev pub removed : Records → ℕ → Records
removed r l = record {
  ports = r.ports;
  links = filter (λ (m : VirtualLink). not (m.number == l)) r.links;
  hops = filter (λ (h : Hop). not (h.link == l)) r.hops;
}
