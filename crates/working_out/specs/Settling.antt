-- Settling: how far a working-out has come.
--
--   Holds r ps ls hs        the rows hold the records r
--   Tried x                 the port of the row was worked out or passes the limit
--   RowAt P ps n            the row of the port n is there, and P holds of it
--   RightHop F y            the arrivals in the row of a hop are those of the figures F
--   RightPort r F x         backlog and depth in the row of a port are those of F, and no figure of it passes the limit
--   Arrives                 what is told of the arrivals at a hop from the rows before it
--   Figured                 what is told of the figures of a port from its loads
--   settled_row x o         the row of a port after that
--   Setting r worth         the records are well-formed, the method is lawful, and no port is overloaded
--   Worked                  what was worked out so far is right, and comes after ports that are worked out
--   Known                   the arrivals at every hop of an open port are right, for the first i hops
--   Waits                   a port that waits comes after one that is not worked out
--   Advancing               the first i hops are passed, with n ports left to try
--   Advance                 what passing some hops makes of the tables
--   Stuck                   nothing more can be worked out
--   untried ps              how many ports were not tried yet
--   Settles, SettlesFirst   what trying one port, or those before a place, makes of the rows
--   RoundMakes              what a round makes of them

use Rattle.std.specs.Prelude.{◌≡◌, ℕ, ◌+◌, ◌-◌, ◌/◌, ◌^◌, ◌<◌, ◌≤◌, min, Bool, true, false, ◌⊎◌, List, map, length, take, Some, None, Option, slice_set}
use Rattle.std.specs.List.{slice_get}
use Rattle.definitions.specs.declared.loads.Load.{Load}
use Rattle.definitions.specs.declared.network.Hop.{Hop}
use Rattle.definitions.specs.Lists.{In, total}
use Rattle.definitions.specs.Methods.{Lawful, Answerable, limit}
use Rattle.definitions.specs.Network.{Records, WellFormed, InRing, latency, occupancy}
use Rattle.definitions.specs.Figures.{Figures, FiguresOf, OverloadedAt, Past, depth, earliest_at, latest_at}
use Rattle.working_out.specs.declared.rows.Progress.TheVariants.{Open, Waiting, WorkedOut, PastLimit}
use Rattle.working_out.specs.declared.rows.PortRow.{PortRow}
use Rattle.working_out.specs.declared.rows.LinkRow.{LinkRow}
use Rattle.working_out.specs.declared.rows.HopRow.{HopRow}
use Rattle.definitions.specs.WorkingOut.{NoPort}
use Rattle.register.specs.Registers.{rows, viewed}
use Rattle.working_out.specs.Keys.{Ports, Links, Hops}
use Rattle.working_out.specs.Gathering.{link_under}
use Rattle.working_out.specs.Marks.{marked}

pub record Holds (r : Records) (ps : List PortRow) (ls : List LinkRow) (hs : List HopRow) : Type 0 where
  pub ports : map (λ (x : PortRow). x.port) ps ≡ r.ports
  pub links : map (λ (x : LinkRow). x.link) ls ≡ r.links
  pub hops : map (λ (x : HopRow). x.hop) hs ≡ r.hops

-- ## One row

abbrev pub Tried : PortRow → Type 0
Tried x = (x.progress ≡ WorkedOut) ⊎ (x.progress ≡ PastLimit)

pub record RowAt (P : PortRow → Type 0) (ps : List PortRow) (n : ℕ) : Type 0 where
  pub row : PortRow
  pub there : In row ps
  pub number : row.port.number ≡ n
  pub holds : P row

abbrev pub DoneAt : List PortRow → ℕ → Type 0
DoneAt = RowAt (λ (x : PortRow). x.progress ≡ WorkedOut)

pub record RightHop (F : Figures) (y : HopRow) : Type 0 where
  pub earliest : y.earliest ≡ earliest_at F y.hop
  pub latest : y.latest ≡ latest_at F y.hop
  pub in_order : y.earliest ≤ y.latest

pub record RightPort (r : Records) (F : Figures) (x : PortRow) : Type 0 where
  pub backlog : x.backlog ≡ F.backlog x.port.number
  pub depth_is : x.depth ≡ depth r F x.port.number
  pub within : ¬ Past r F x.port.number

-- ## Arrivals

-- a sum in 64 bits, or the largest number that they hold
abbrev pub up_to : ℕ → ℕ
up_to n = min n (2 ^ 64 - 1)

-- the rows of the port before and of the link's hop there
pub record Before (ps : List PortRow) (hs : List HopRow) (h : Hop) : Type 0 where
  pub port : PortRow
  pub port_there : In port ps
  pub done : port.progress ≡ WorkedOut
  pub after : h.after ≡ Some port.port.number
  pub hop : HopRow
  pub hop_there : In hop hs
  pub same_link : hop.hop.link ≡ h.link
  pub same_port : hop.hop.port ≡ port.port.number

abbrev pub next_earliest : List LinkRow → PortRow → HopRow → ℕ
next_earliest ls x y = up_to (y.earliest + (occupancy x.port (link_under ls y.hop.link).shortest + latency))

abbrev pub next_latest : PortRow → HopRow → ℕ
next_latest x y = up_to (y.latest + (x.backlog + latency))

abbrev pub Arrives : List PortRow → List LinkRow → List HopRow → Hop → Option (ℕ × ℕ) → Type 0
Arrives ps ls hs h None = (q : ℕ) × (h.after ≡ Some q) × ¬ Before ps hs h
Arrives ps ls hs h (Some a) =
    ((h.after ≡ None) × (a.0 ≡ 0) × (a.1 ≡ 0))
    ⊎ ((b : Before ps hs h) × (a.0 ≡ next_earliest ls b.port b.hop) × (a.1 ≡ next_latest b.port b.hop))

-- ## The figures of one port

-- how many frames of a load the port holds
abbrev pub held : ℕ → Load → ℕ
held b l = 1 + (b - 1 + l.jitter) / l.gap

-- backlog and depth of the port n from its loads, or none where a figure passes the limit
abbrev pub Figured : (List Load → ℕ) → List HopRow → ℕ → List Load → Option (ℕ × ℕ) → Type 0
Figured worth hs n ls None =
    ¬ Answerable worth ls ⊎ ((y : HopRow) × In y hs × (y.hop.port ≡ n) × (limit < y.latest + worth ls))
Figured worth hs n ls (Some f) =
    Answerable worth ls
    × (f.0 ≡ worth ls) × (f.1 ≡ total (held (worth ls)) ls)
    × ((y : HopRow) → In y hs → y.hop.port ≡ n → y.latest + worth ls ≤ limit)

-- the row of a port after its figures were asked for
abbrev pub settled_row : PortRow → Option (ℕ × ℕ) → PortRow
settled_row x (Some f) = record { port = x.port; backlog = f.0; depth = f.1; progress = WorkedOut; fed = x.fed }
settled_row x None = marked PastLimit x

-- ## All rows

pub record Setting (r : Records) (worth : List Load → ℕ) : Type 0 where
  pub well_formed : WellFormed r
  pub lawful : Lawful worth
  pub carried : NoPort r (OverloadedAt r)

pub record Worked (r : Records) (worth : List Load → ℕ) (ps : List PortRow) (ls : List LinkRow) (hs : List HopRow) : Type 0 where
  pub held : Holds r ps ls hs
  pub after_done : (x : PortRow) → In x ps → Tried x → (h : Hop) → In h r.hops → h.port ≡ x.port.number → (q : ℕ) → h.after ≡ Some q → DoneAt ps q
  pub no_ring : (x : PortRow) → In x ps → Tried x → ¬ InRing r x.port.number
  pub right_ports : (F : Figures) → FiguresOf r worth F → (x : PortRow) → In x ps → x.progress ≡ WorkedOut → RightPort r F x
  pub past_ports : (F : Figures) → FiguresOf r worth F → (x : PortRow) → In x ps → x.progress ≡ PastLimit → Past r F x.port.number
  pub right_hops : (F : Figures) → FiguresOf r worth F → (y : HopRow) → In y hs → RowAt Tried ps y.hop.port → RightHop F y

-- the arrivals at the hop are known, where its port is open
abbrev pub KnownHop : Records → (List Load → ℕ) → List PortRow → HopRow → Type 0
KnownHop r worth ps y =
    RowAt (λ (x : PortRow). x.progress ≡ Open) ps y.hop.port
    → ((F : Figures) → FiguresOf r worth F → RightHop F y) × ((q : ℕ) → y.hop.after ≡ Some q → DoneAt ps q)

pub record Known (r : Records) (worth : List Load → ℕ) (ps : List PortRow) (ls : List LinkRow) (hs : List HopRow) (i : ℕ) : Type 0 where
  pub worked : Worked r worth ps ls hs
  pub known : (y : HopRow) → In y (take i hs) → KnownHop r worth ps y

pub record WaitsFor (r : Records) (ps : List PortRow) (n : ℕ) : Type 0 where
  pub hop : Hop
  pub there : In hop r.hops
  pub at : hop.port ≡ n
  pub before : ℕ
  pub after : hop.after ≡ Some before
  pub not_done : ¬ DoneAt ps before

abbrev pub Waits : Records → List PortRow → Type 0
Waits r ps = (x : PortRow) → In x ps → x.progress ≡ Waiting → WaitsFor r ps x.port.number

pub record Stuck (r : Records) (worth : List Load → ℕ) (ps : List PortRow) (ls : List LinkRow) (hs : List HopRow) : Type 0 where
  pub worked : Worked r worth ps ls hs
  pub waits : Waits r ps
  pub none_open : (x : PortRow) → In x ps → ¬ (x.progress ≡ Open)

abbrev pub left_to_try : PortRow → ℕ
left_to_try x = elim x.progress [ Open ↦ 1 | Waiting ↦ 1 | WorkedOut ↦ 0 | PastLimit ↦ 0 ]

abbrev pub untried : List PortRow → ℕ
untried ps = total left_to_try ps

pub record Advancing (r : Records) (worth : List Load → ℕ) (ps : List PortRow) (ls : List LinkRow) (hs : List HopRow) (i n : ℕ) : Type 0 where
  pub known : Known r worth ps ls hs i
  pub waits : Waits r ps
  pub left : untried ps ≡ n

-- what passing the hops from the place i to before j makes of the tables
abbrev pub Advance : Ports → Links → Hops → Ports → Hops → ℕ → ℕ → Type 0
Advance p l h q k i j =
    (r : Records) (worth : List Load → ℕ) (n : ℕ) → Setting r worth
    → Advancing r worth (rows p) (viewed l) (rows h) i n → Advancing r worth (rows q) (viewed l) (rows k) j n

-- ## Rounds

-- what trying the port at the place i makes of the rows, and whether it was open
abbrev pub Settles : Records → (List Load → ℕ) → List LinkRow → List HopRow → ℕ → List PortRow → List PortRow → Bool → Type 0
Settles r worth ls hs i ps qs false = (qs ≡ ps) × ((x : PortRow) → Some x ≡ slice_get ps i → ¬ (x.progress ≡ Open))
Settles r worth ls hs i ps qs true =
    (x : PortRow) × (i < length ps) × (qs ≡ slice_set ps i x) × ¬ (x.progress ≡ Open)
    × Known r worth qs ls hs (length hs) × (untried qs + 1 ≡ untried ps)

-- what trying the ports before the place i makes of the rows, and whether one was open
pub record SettlesFirst (r : Records) (worth : List Load → ℕ) (ls : List LinkRow) (hs : List HopRow) (i : ℕ) (ps qs : List PortRow) (any : Bool) : Type 0 where
  pub known : Known r worth qs ls hs (length hs)
  pub none_open : (x : PortRow) → In x (take i qs) → ¬ (x.progress ≡ Open)
  pub same_count : length qs ≡ length ps
  pub same : any ≡ false → qs ≡ ps
  pub fewer : any ≡ true → untried qs < untried ps

-- what a round makes of the tables, and whether a port was tried in it
abbrev pub RoundMakes : Records → (List Load → ℕ) → List LinkRow → List PortRow → List HopRow → List PortRow → List HopRow → Bool → Type 0
RoundMakes r worth ls ps hs qs ks true = Worked r worth qs ls ks × (untried qs < untried ps)
RoundMakes r worth ls ps hs qs ks false = Stuck r worth qs ls ks
