-- Promises: what is proved, one statement for each promise, named by what it says.
-- Each is the contract of a public function; docs/PROOFS.md has the map.

use Rattle.std.specs.Prelude.{◌≡◌, ℕ, ◌+◌, ◌^◌, ◌<◌, ◌≤◌, min, true, false, ◌↔◌, List, [], ◌∷◌, ◌++◌, length, Some, None, Ok, decimal}
use Rattle.std.specs.List.{flat_map, AllByRecursion}
use Rattle.definitions.specs.declared.loads.Load.{Load}
use Rattle.definitions.specs.declared.network.Port.{Port}
use Rattle.definitions.specs.declared.network.VirtualLink.{VirtualLink}
use Rattle.definitions.specs.declared.network.Hop.{Hop}
use Rattle.definitions.specs.Lists.{In}
use Rattle.definitions.specs.Loads.{AreLoads}
use Rattle.definitions.specs.Windows.{W, Overloaded, Largest}
use Rattle.definitions.specs.Methods.{Lawful, forward, line}
use Rattle.definitions.specs.Network.{Records, WellFormed, InRing, most_ports, most_links, most_hops}
use Rattle.definitions.specs.Entries.{Places}
use Rattle.definitions.specs.Figures.{Figures, FiguresOf, Settled, OverloadedAt, earliest_at, latest_at, departure, delay, depth}
use Rattle.definitions.specs.Traffic.{Frame, Traffic, Keeps, end, unsent, held_count}
use Rattle.definitions.specs.WorkingOut.{Outcome, settles, ring, NoPort, WorksOut}
use Rattle.definitions.specs.Calls.{Served, State, Call, Answer, opened, Fits, After, Runs, Standing}
use Rattle.definitions.specs.Sample.{sample, sample_text, reordered_text, sample_listing, sample_figures, hop_10_3, hop_20_3, frame_10, frame_20, sample_traffic}
use Rattle.definitions.specs.Text.{line_feed, comma, lines, fields, finished, stray, line_of, number_in, reading, written, listed, Section, Columns, columns_of, section_after, heading_in, is_heading, cell_at, Stage, begun, titled, within, ports}

-- ## Windows and methods

-- a list of loads is overloaded exactly when W(t) − t has no largest value
abbrev pub OverloadIsUnboundedness : Type 0
OverloadIsUnboundedness = (ls : List Load) → AreLoads ls → (Overloaded ls ↔ ¬ ((w : ℕ) × Largest ls w))

-- and then it passes every bound
abbrev pub OverloadPassesEveryBound : Type 0
OverloadPassesEveryBound = (ls : List Load) → AreLoads ls → Overloaded ls → (w : ℕ) → (t : ℕ) × (w + t < W ls t)

-- Forward's worth is the largest of W(t) − t over all whole t
abbrev pub ForwardIsTheLargest : Type 0
ForwardIsTheLargest = (ls : List Load) → AreLoads ls → ¬ Overloaded ls → Largest ls (forward ls)

-- a port without loads has no backlog
abbrev pub NoLoadsNoBacklog : Type 0
NoLoadsNoBacklog = (forward [] ≡ 0) × (line [] ≡ 0)

-- Line's worth bounds every W(t) − t
abbrev pub LineIsLawful : Type 0
LineIsLawful = Lawful line

-- and so does Forward's, which is at most that of any lawful method
abbrev pub ForwardIsTheLeastLawful : Type 0
ForwardIsTheLeastLawful =
    Lawful forward
    × ((worth : List Load → ℕ) → Lawful worth → (ls : List Load) → AreLoads ls → ¬ Overloaded ls → forward ls ≤ worth ls)

-- ## Traffic

-- every frame leaves each of its ports no later after its release than the departure there, nor than the delay of its link
abbrev pub NoFrameLeavesLater : Records → Figures → Type 0
NoFrameLeavesLater r F =
    (T : Traffic) → Keeps r T → (f : Frame) → In f T.frames → (h : Hop) → In h r.hops → h.link ≡ f.link
    → (end r T f h.port ≤ f.release + departure F h) × (end r T f h.port ≤ f.release + delay r F f.link)

-- at every moment a port's unsent time is at most its backlog, and it holds at most as many frames as its depth
abbrev pub NoPortHoldsMore : Records → Figures → Type 0
NoPortHoldsMore r F =
    (T : Traffic) → Keeps r T → (p : Port) → In p r.ports → (m : ℕ)
    → (unsent r T p.number m ≤ F.backlog p.number) × (held_count r T p.number m ≤ depth r F p.number)

abbrev pub NoFrameEverLeavesLater : Type 0
NoFrameEverLeavesLater =
    (r : Records) → WellFormed r → (worth : List Load → ℕ) → Lawful worth → (F : Figures) → Settled r worth F → NoFrameLeavesLater r F

abbrev pub NoPortEverHoldsMore : Type 0
NoPortEverHoldsMore =
    (r : Records) → WellFormed r → (worth : List Load → ℕ) → Lawful worth → (F : Figures) → Settled r worth F → NoPortHoldsMore r F

-- ## Figures

-- two figures that agree on every port and hop of the records
pub record Agree (r : Records) (F G : Figures) : Type 0 where
  pub backlogs : (p : Port) → In p r.ports → F.backlog p.number ≡ G.backlog p.number
  pub earliests : (h : Hop) → In h r.hops → earliest_at F h ≡ earliest_at G h
  pub latests : (h : Hop) → In h r.hops → latest_at F h ≡ latest_at G h

-- without a ring, the figures of a method are exactly one
abbrev pub FiguresAreExactlyOne : Type 0
FiguresAreExactlyOne =
    (r : Records) → WellFormed r → NoPort r (InRing r) → (worth : List Load → ℕ)
    → ((F : Figures) × FiguresOf r worth F) × ((F G : Figures) → FiguresOf r worth F → FiguresOf r worth G → Agree r F G)

-- a ring is told exactly when some port feeds itself
abbrev pub ARingIsToldExactly : Type 0
ARingIsToldExactly =
    (r : Records) → WellFormed r → (worth : List Load → ℕ) (n : ℕ) → length r.hops ≤ n → NoPort r (OverloadedAt r)
    → ((p : ℕ) × WorksOut r worth n (ring p)) ↔ ((p : Port) × In p r.ports × InRing r p.number)

-- otherwise the ports can be ranked so that each hop goes up
abbrev pub WithoutARingPortsAreRanked : Type 0
WithoutARingPortsAreRanked =
    (r : Records) → WellFormed r → NoPort r (InRing r)
    → (rank : ℕ → ℕ) × ((h : Hop) → In h r.hops → (q : ℕ) → h.after ≡ Some q → rank q < rank h.port)

-- a working-out comes to exactly one outcome
abbrev pub AWorkingOutComesToOne : Type 0
AWorkingOutComesToOne =
    (r : Records) → WellFormed r → (worth : List Load → ℕ) (n : ℕ)
    → (o : Outcome) × WorksOut r worth n o × ((u : Outcome) → WorksOut r worth n u → u ≡ o)

-- no backlog, depth or delay of G is larger than that of F
pub record NoLarger (r : Records) (G F : Figures) : Type 0 where
  pub backlogs : (p : Port) → In p r.ports → G.backlog p.number ≤ F.backlog p.number
  pub depths : (p : Port) → In p r.ports → depth r G p.number ≤ depth r F p.number
  pub delays : (l : VirtualLink) → In l r.links → delay r G l.number ≤ delay r F l.number

-- one more working-out by Forward, with no fewer load places, succeeds, and nothing is larger
abbrev pub ForwardSucceedsNoLarger : Records → Figures → ℕ → Type 0
ForwardSucceedsNoLarger r F n =
    (more : ℕ) → n ≤ more → WorksOut r forward more settles × ((G : Figures) → FiguresOf r forward G → NoLarger r G F)

-- where a working-out by a lawful method succeeds, so does one by Forward, and nothing is larger
abbrev pub ForwardIsNeverLarger : Type 0
ForwardIsNeverLarger =
    (r : Records) → WellFormed r → (worth : List Load → ℕ) → Lawful worth → (n : ℕ) → WorksOut r worth n settles
    → (F : Figures) → FiguresOf r worth F → ForwardSucceedsNoLarger r F n

-- ## Runs

-- the tables have the places for the records
pub record Room (pl : Places) (r : Records) : Type 0 where
  pub ports_fit : length r.ports ≤ min pl.ports most_ports
  pub links_fit : length r.links ≤ min pl.links most_links
  pub hops_fit : length r.hops ≤ min pl.hops most_hops

-- the records that any list of calls leaves are well-formed, in ascending order of keys, and within the tables;
-- while figures stand, the working-out that served succeeds on these records
pub record Sound (pl : Places) (t : State) : Type 0 where
  pub same_places : t.places ≡ pl
  pub well_formed : WellFormed t.records
  pub room : Room pl t.records
  pub standing : Standing t

abbrev pub EveryRunIsSound : Type 0
EveryRunIsSound = (pl : Places) (cs : List Call) (as' : List Answer) (t : State) → Runs (opened pl) cs as' t → Sound pl t

-- after any list of calls, the next call has exactly one answer and leaves exactly one state
abbrev pub EveryCallComesToOne : Type 0
EveryCallComesToOne =
    (pl : Places) (s : State) → Sound pl s → (c : Call) → Fits c
    → (a : Answer) × (t : State) × After s c a t × ((b : Answer) (u : State) → After s c b u → (b ≡ a) × (u ≡ t))

-- after any list of calls: while figures stand, no traffic passes a figure, and Forward, worked once more, is never larger
abbrev pub StandingFiguresHold : Type 0
StandingFiguresHold =
    (pl : Places) (cs : List Call) (as' : List Answer) (t : State) → Runs (opened pl) cs as' t
    → (v : Served) → t.served ≡ Some v
    → (F : Figures) → FiguresOf t.records v.method.worth F
    → NoFrameLeavesLater t.records F × NoPortHoldsMore t.records F × ForwardSucceedsNoLarger t.records F v.places

-- ## Text

-- a field reads as a number exactly where it is the writing of that number
abbrev pub NumbersReadAsWritten : Type 0
NumbersReadAsWritten =
    (most : ℕ) → most < 2 ^ 64 → (f : List ℕ) (n : ℕ) → (number_in most f ≡ Some n) ↔ ((f ≡ decimal n) × (n ≤ most))

-- no byte of the list is c
abbrev pub Lacks : ℕ → List ℕ → Type 0
Lacks c bs = AllByRecursion (λ (b : ℕ). ¬ (b ≡ c)) bs

-- the lines of a finished text, each with its line feed, are the text; the fields of a line, with commas between, are the line
abbrev pub PartsMakeTheWhole : Type 0
PartsMakeTheWhole =
    ((text : List ℕ) → finished text ≡ true → (flat_map (λ (l : List ℕ). l ++ (line_feed ∷ [])) (lines text) ≡ text) × AllByRecursion (Lacks line_feed) (lines text))
    × ((l : List ℕ) → (line_of (fields l) ≡ l ++ (line_feed ∷ [])) × AllByRecursion (Lacks comma) (fields l))

-- what is written for a book is read back as the same book
abbrev pub WrittenTextReadsBack : Type 0
WrittenTextReadsBack = (r : Records) → WellFormed r → (pl : Places) → Room pl r → reading pl (written r) ≡ Ok r

-- two texts, line by line, that have the same cells under the same names: columns may stand in another order, and others beside them
pub data Rearranged : Stage → Stage → List (List ℕ) → List (List ℕ) → Type 0 where
  ends : {s t : Stage} → Rearranged s t [] []
  mark : {l : List ℕ} {ls ms : List (List ℕ)} → Rearranged titled titled ls ms → Rearranged begun begun (l ∷ ls) (l ∷ ms)
  first_heading : {c d : Columns} {l m : List ℕ} {ls ms : List (List ℕ)}
      → heading_in ports (fields l) ≡ Some c → heading_in ports (fields m) ≡ Some d
      → Rearranged (within ports c) (within ports d) ls ms → Rearranged titled titled (l ∷ ls) (m ∷ ms)
  next_heading : {s t : Section} {a b c d : Columns} {l m : List ℕ} {ls ms : List (List ℕ)}
      → section_after s ≡ Some t → is_heading l ≡ true → is_heading m ≡ true
      → heading_in t (fields l) ≡ Some c → heading_in t (fields m) ≡ Some d
      → Rearranged (within t c) (within t d) ls ms → Rearranged (within s a) (within s b) (l ∷ ls) (m ∷ ms)
  row : {s : Section} {c d : Columns} {l m : List ℕ} {ls ms : List (List ℕ)}
      → is_heading l ≡ false → is_heading m ≡ false
      → length (fields l) ≡ c.width → length (fields m) ≡ d.width
      → ((k : ℕ) → k < length (columns_of s) → cell_at c (fields l) k ≡ cell_at d (fields m) k)
      → Rearranged (within s c) (within s d) ls ms → Rearranged (within s c) (within s d) (l ∷ ls) (m ∷ ms)

-- such texts read the same
abbrev pub RearrangedTextReadsTheSame : Type 0
RearrangedTextReadsTheSame =
    (pl : Places) (a b : List ℕ) → stray 1 b ≡ None → finished b ≡ true → Rearranged begun begun (lines a) (lines b)
    → (r : Records) → reading pl a ≡ Ok r → reading pl b ≡ Ok r

-- ## The sample network

abbrev pub lister_places : Places
lister_places = record { ports = 256; links = 512; hops = 1024 }

-- its text, its figures by Forward and by Line, and its listing
pub record SampleFigures : Type 0 where
  pub well_formed : WellFormed sample
  pub text_written : written sample ≡ sample_text
  pub text_read : reading lister_places sample_text ≡ Ok sample
  pub reordered_read : reading lister_places reordered_text ≡ Ok sample
  pub by_forward : Settled sample forward (sample_figures 120000)
  pub depths : (depth sample (sample_figures 120000) 1 ≡ 1) × (depth sample (sample_figures 120000) 2 ≡ 1) × (depth sample (sample_figures 120000) 3 ≡ 2)
  pub delays : (delay sample (sample_figures 120000) 10 ≡ 176000) × (delay sample (sample_figures 120000) 20 ≡ 216000)
  pub listing : listed sample (sample_figures 120000) ≡ sample_listing
  pub by_line : Settled sample line (sample_figures 122196)
  pub line_departures : (departure (sample_figures 122196) hop_10_3 ≡ 178196) × (departure (sample_figures 122196) hop_20_3 ≡ 218196)

-- a traffic that keeps its gaps and lengths, in which the unsent time at port 3 reaches its backlog by Forward
pub record SampleTraffic : Type 0 where
  pub keeps : Keeps sample sample_traffic
  pub arrivals : (sample_traffic.arrival frame_20 3 ≡ 96000) × (sample_traffic.arrival frame_10 3 ≡ 96000)
  pub ends : (end sample sample_traffic frame_20 3 ≡ 176000) × (end sample sample_traffic frame_10 3 ≡ 216000)
  pub reached : unsent sample sample_traffic 3 96000 ≡ 120000
