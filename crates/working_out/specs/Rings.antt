-- Rings: the ports that a port feeds, as marks in the rows, and the lowest port that feeds itself.
--
--   marked b x           the row x with the mark b
--   unmarked x           the row x without its mark
--   Remarked t u         u is t but for the marks of its rows
--   FedBy hs q p         q feeds p by the hops of the rows hs
--   Marked xs q          the row of the port q is marked
--   Reached p xs q       q is p, or is marked
--   Sound hs p xs        p feeds each port that is marked
--   Passed p xs h        where the hop of h comes after p or a marked port, its port is marked
--   unmarked_count xs    how many rows are not marked
--   Marks                what marking one port answers and leaves
--   Comes                what one pass over hops comes to: rows marked, or none and each hop passed
--   Spreads              what one pass over hops answers and leaves
--   SpreadsAll           what passes over hops leave, one after another until each hop is passed
--   Homed xs hs          each hop stands at the port of a row
--   FeedsItself          what trying one port answers and leaves
--   LowestTold r P a     a is the lowest of the records' ports of which P holds, or none where there is no such port
--   RingTold r a         a is the lowest port in a ring, or none where there is no ring
--   FindsRing            what looking for a ring answers and leaves

use Rattle.std.specs.Prelude.{◌≡◌, ℕ, ◌<◌, Bool, true, false, cond, ◌⊎◌, List, [], map, Some, None, Decides, Option}
use Rattle.std.specs.List.{AllByRecursion}
use Rattle.definitions.specs.Lists.{In, total}
use Rattle.definitions.specs.Network.{Records, WellFormed, Feeds, InRing}
use Rattle.definitions.specs.WorkingOut.{NoPort, Lowest}
use Rattle.register.specs.Registers.{rows, room}
use Rattle.working_out.specs.declared.rows.PortRow.{PortRow}
use Rattle.working_out.specs.declared.rows.HopRow.{HopRow}
use Rattle.working_out.specs.Keys.{number_before, port_key, Ports}
use Rattle.working_out.specs.Rows.{net}
use Rattle.working_out.specs.Edits.{edited_under}

-- ## Marks

abbrev pub marked : Bool → PortRow → PortRow
marked b x = record { port = x.port; backlog = x.backlog; depth = x.depth; progress = x.progress; fed = b }

abbrev pub unmarked : PortRow → PortRow
unmarked x = marked false x

pub record Remarked (t u : Ports) : Type 0 where
  pub same_room : room u ≡ room t
  pub marks_only : map unmarked (rows u) ≡ map unmarked (rows t)

abbrev pub Marked : List PortRow → ℕ → Type 0
Marked xs q = (x : PortRow) × In x xs × (port_key x ≡ q) × (x.fed ≡ true)

abbrev pub unmarked_count : List PortRow → ℕ
unmarked_count xs = total (λ (x : PortRow). cond x.fed 0 1) xs

-- a port that is there without a mark is marked; otherwise nothing changes
abbrev pub Marks : ℕ → Ports → Ports → Bool → Type 0
Marks p t u true =
    (room u ≡ room t)
    × ((x : PortRow) × In x (rows t) × (port_key x ≡ p) × (x.fed ≡ false))
    × (rows u ≡ map (edited_under number_before port_key p (marked true)) (rows t))
Marks p t u false = (u ≡ t) × ((x : PortRow) → In x (rows t) → port_key x ≡ p → x.fed ≡ true)

-- ## Spreading from a port

abbrev pub FedBy : List HopRow → ℕ → ℕ → Type 0
FedBy hs = Feeds (net [] [] hs)

abbrev pub Reached : ℕ → List PortRow → ℕ → Type 0
Reached p xs q = (q ≡ p) ⊎ Marked xs q

abbrev pub Sound : List HopRow → ℕ → List PortRow → Type 0
Sound hs p xs = (x : PortRow) → In x xs → x.fed ≡ true → FedBy hs p (port_key x)

abbrev pub Passed : ℕ → List PortRow → HopRow → Type 0
Passed p xs h =
    (q : ℕ) → h.hop.after ≡ Some q → Reached p xs q → (x : PortRow) → In x xs → port_key x ≡ h.hop.port → x.fed ≡ true

abbrev pub Comes : List HopRow → ℕ → Ports → Ports → Bool → Type 0
Comes hs p t u true = unmarked_count (rows u) < unmarked_count (rows t)
Comes hs p t u false = (u ≡ t) × AllByRecursion (Passed p (rows t)) hs

pub record Spreads (hs : List HopRow) (p : ℕ) (t u : Ports) (added : Bool) : Type 0 where
  pub remarked : Remarked t u
  pub sound : (ks : List HopRow) → ((h : HopRow) → In h hs → In h ks) → Sound ks p (rows t) → Sound ks p (rows u)
  pub comes : Comes hs p t u added

pub record SpreadsAll (hs : List HopRow) (p : ℕ) (t u : Ports) : Type 0 where
  pub remarked : Remarked t u
  pub sound : Sound hs p (rows t) → Sound hs p (rows u)
  pub passed : AllByRecursion (Passed p (rows u)) hs

-- ## Rings

abbrev pub Homed : List PortRow → List HopRow → Type 0
Homed xs hs = (h : HopRow) → In h hs → (x : PortRow) × In x xs × (port_key x ≡ h.hop.port)

pub record FeedsItself (hs : List HopRow) (p : ℕ) (t u : Ports) (found : Bool) : Type 0 where
  pub remarked : Remarked t u
  pub told : Homed (rows t) hs → Decides found (FedBy hs p p)

abbrev pub LowestTold : Records → (ℕ → Type 0) → Option ℕ → Type 0
LowestTold r P (Some p) = Lowest r P p
LowestTold r P None = NoPort r P

abbrev pub RingTold : Records → Option ℕ → Type 0
RingTold r = LowestTold r (InRing r)

pub record FindsRing (hs : List HopRow) (t u : Ports) (a : Option ℕ) : Type 0 where
  pub remarked : Remarked t u
  pub told : (r : Records) → WellFormed r
      → map (λ (x : PortRow). x.port) (rows t) ≡ r.ports → map (λ (x : HopRow). x.hop) hs ≡ r.hops → RingTold r a
