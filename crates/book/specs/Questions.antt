-- Questions: what a book tells of its figures while they stand, and what is promised of the answers.
--
--   first_of test none xs  the first item that passes the test, or `none` where there is no such item
--   port_row rs n          the row of the port of that number, or one of zeros where there is none
--   hop_row rs l p         the row of the link's hop at that port, or one of zeros where there is none
--   shown b                the figures that the rows of the book show
--   row_departure ps r     the departure of the row's hop, with the backlog that the rows ps show for its port
--   told o x               the ground o, if any, or the answer x
--   capped n               n, or the largest number of 64 bits where n is larger
--   the_hop l p            the hop of a link at a port, as far as figures look at it
--   port_question, hop_question, delay_question   the grounds of a question, in the order in which they are tried
--   link_ground b l        the first ground that every question about a link meets
--   told_port, told_hop, told_delay            what the book answers: the first ground met, or what its rows show
--   port_answer, hop_answer, delay_answer      such an answer, as one of the list of calls
--   PortPromise            what holds of the backlog and the depth that are told for a port
--   HopPromise             what holds of the arrivals and the departure that are told for a hop
--   DelayPromise           what holds of the delay that is told for a link
--   WhileStanding b P      P holds of what served, whatever calls led to b, while figures stand
--   PortPromised, HopPromised, DelayPromised   while figures stand, the promise holds of the answer, unless it is a refusal

use Rattle.std.specs.Prelude.{◌≡◌, ℕ, ◌+◌, ◌-◌, ◌^◌, ◌≤◌, min, Bool, cond, not, ◌&&◌, List, [], ◌∷◌, length, take, Some, None, Ok, Err, Option, Result, ◌==◌, nat_eq}
use Rattle.definitions.specs.declared.network.PortKind.TheVariants.{End}
use Rattle.definitions.specs.declared.network.Hop.{Hop}
use Rattle.definitions.specs.declared.refusals.Refusal.{Refusal}
use Rattle.definitions.specs.declared.refusals.Refusal.TheVariants.{LinkUnknown, PortUnknown, NoFigures, NoHopThere, NoHops}
use Rattle.definitions.specs.Lists.{In}
use Rattle.definitions.specs.Methods.{forward}
use Rattle.definitions.specs.Network.{Records}
use Rattle.definitions.specs.Entries.{first_met, has_port, has_link, has_hop}
use Rattle.definitions.specs.Figures.{Figures, FiguresOf, Settled, departure, delay, depth, hops_of}
use Rattle.definitions.specs.Traffic.{Frame, Traffic, Keeps, end, unsent, held_count}
use Rattle.definitions.specs.WorkingOut.{settles, WorksOut}
use Rattle.definitions.specs.Calls.{Served, Call, Answer, refused, backlog_depth, earliest_latest_departure, delay_is}
use Rattle.register.specs.Registers.{rows}
use Rattle.working_out.specs.declared.rows.PortRow.{PortRow}
use Rattle.working_out.specs.declared.rows.HopRow.{HopRow}
use Rattle.working_out.specs.Rows.{bare_port, bare_hop}
use Rattle.book.specs.declared.books.Book.{Book}
use Rattle.book.specs.Books.{records, Made}

-- ## What the rows show

abbrev pub first_of : {X : Type 0} → (X → Bool) → X → List X → X
first_of test none [] = none
first_of test none (x ∷ xs) = cond (test x) x (first_of test none xs)

abbrev pub port_row : List PortRow → ℕ → PortRow
port_row rs n = first_of (λ (r : PortRow). nat_eq r.port.number n) (bare_port record { number = 0; kind = End; rate = 0 }) rs

abbrev pub hop_row : List HopRow → ℕ → ℕ → HopRow
hop_row rs l p = first_of (λ (r : HopRow). (r.hop.link == l) && r.hop.port == p) (bare_hop record { link = 0; port = 0; after = None }) rs

abbrev pub shown : Book → Figures
shown b = record {
  backlog = λ p. (port_row (rows b.ports) p).backlog;
  earliest = λ l p. (hop_row (rows b.hops) l p).earliest;
  latest = λ l p. (hop_row (rows b.hops) l p).latest;
}

abbrev pub row_departure : List PortRow → HopRow → ℕ
row_departure ps r = r.latest + (port_row ps r.hop.port).backlog

-- ## What is told

abbrev pub told : {X : Type 0} → Option Refusal → X → Result X Refusal
told None x = Ok x
told (Some e) x = Err e

-- while figures stand, no sum of them passes 64 bits
abbrev pub capped : ℕ → ℕ
capped n = min n (2 ^ 64 - 1)

abbrev pub the_hop : ℕ → ℕ → Hop
the_hop l p = record { link = l; port = p; after = None }

abbrev pub port_question : Book → ℕ → List (Bool × Refusal)
port_question b p =
    (not b.standing, NoFigures)
    ∷ (not (has_port (records b) p), PortUnknown)
    ∷ []

abbrev pub hop_question : Book → ℕ → ℕ → List (Bool × Refusal)
hop_question b l p =
    (not b.standing, NoFigures)
    ∷ (not (has_link (records b) l), LinkUnknown)
    ∷ (not (has_port (records b) p), PortUnknown)
    ∷ (not (has_hop (records b) l p), NoHopThere)
    ∷ []

abbrev pub delay_question : Book → ℕ → List (Bool × Refusal)
delay_question b l =
    (not b.standing, NoFigures)
    ∷ (not (has_link (records b) l), LinkUnknown)
    ∷ ((length (hops_of (records b) l) == 0), NoHops)
    ∷ []

-- a question about a link meets these two first
abbrev pub link_ground : Book → ℕ → Option Refusal
link_ground b l = first_met (take 2 (delay_question b l))

abbrev pub told_port : Book → ℕ → Result (ℕ × ℕ) Refusal
told_port b p = told (first_met (port_question b p)) ((shown b).backlog p, (port_row (rows b.ports) p).depth)

abbrev pub told_hop : Book → ℕ → ℕ → Result (ℕ × ℕ × ℕ) Refusal
told_hop b l p = told (first_met (hop_question b l p)) ((shown b).earliest l p, (shown b).latest l p, capped (departure (shown b) (the_hop l p)))

abbrev pub told_delay : Book → ℕ → Result ℕ Refusal
told_delay b l = told (first_met (delay_question b l)) (capped (delay (records b) (shown b) l))

abbrev pub port_answer : Result (ℕ × ℕ) Refusal → Answer
port_answer (Ok x) = backlog_depth x.0 x.1
port_answer (Err e) = refused e

abbrev pub hop_answer : Result (ℕ × ℕ × ℕ) Refusal → Answer
hop_answer (Ok x) = earliest_latest_departure x.0 x.1 x.2
hop_answer (Err e) = refused e

abbrev pub delay_answer : Result ℕ Refusal → Answer
delay_answer (Ok x) = delay_is x
delay_answer (Err e) = refused e

-- ## What is promised

-- the backlog x and the depth y of the port p, by the method that served
pub record PortPromise (r : Records) (v : Served) (p x y : ℕ) : Type 0 where
  -- they are the figures of the records by this method, and there are such
  pub figures : (F : Figures) → FiguresOf r v.method.worth F → (x ≡ F.backlog p) × (y ≡ depth r F p)
  pub exist : (F : Figures) × Settled r v.method.worth F
  -- at no moment of any traffic that keeps its gaps and lengths does the port hold more
  pub unsent_most : (T : Traffic) → Keeps r T → (m : ℕ) → unsent r T p m ≤ x
  pub held_most : (T : Traffic) → Keeps r T → (m : ℕ) → held_count r T p m ≤ y
  -- one more working-out by Forward, with no fewer load places, succeeds, and tells no more
  pub by_forward : (more : ℕ) → v.places ≤ more
      → WorksOut r forward more settles × ((G : Figures) → FiguresOf r forward G → (G.backlog p ≤ x) × (depth r G p ≤ y))

-- the earliest arrival x, the latest arrival y and the departure z of the link's hop at the port p
pub record HopPromise (r : Records) (v : Served) (l p x y z : ℕ) : Type 0 where
  pub figures : (F : Figures) → FiguresOf r v.method.worth F
      → (x ≡ F.earliest l p) × (y ≡ F.latest l p) × (z ≡ departure F (the_hop l p))
  pub exist : (F : Figures) × Settled r v.method.worth F
  -- in no such traffic does a frame of the link leave the port later after its release
  pub no_later : (T : Traffic) → Keeps r T → (f : Frame) → In f T.frames → f.link ≡ l → end r T f p ≤ f.release + z
  pub by_forward : (more : ℕ) → v.places ≤ more
      → WorksOut r forward more settles × ((G : Figures) → FiguresOf r forward G → departure G (the_hop l p) ≤ z)

-- the delay x of the link
pub record DelayPromise (r : Records) (v : Served) (l x : ℕ) : Type 0 where
  pub figures : (F : Figures) → FiguresOf r v.method.worth F → x ≡ delay r F l
  pub exist : (F : Figures) × Settled r v.method.worth F
  -- in no such traffic does a frame of the link leave any of its ports later after its release
  pub no_later : (T : Traffic) → Keeps r T → (f : Frame) → In f T.frames → f.link ≡ l
      → (h : Hop) → In h r.hops → h.link ≡ l → end r T f h.port ≤ f.release + x
  pub by_forward : (more : ℕ) → v.places ≤ more
      → WorksOut r forward more settles × ((G : Figures) → FiguresOf r forward G → delay r G l ≤ x)

abbrev pub WhileStanding : Book → (Served → Type 0) → Type 0
WhileStanding b P = (cs : List Call) (as' : List Answer) (m : Made cs as' b) (v : Served) → m.state.served ≡ Some v → P v

abbrev pub PortPromised : Book → ℕ → Result (ℕ × ℕ) Refusal → Type 0
PortPromised b p r = WhileStanding b (λ v. (x y : ℕ) → r ≡ Ok (x, y) → PortPromise (records b) v p x y)

abbrev pub HopPromised : Book → ℕ → ℕ → Result (ℕ × ℕ × ℕ) Refusal → Type 0
HopPromised b l p r = WhileStanding b (λ v. (x y z : ℕ) → r ≡ Ok (x, y, z) → HopPromise (records b) v l p x y z)

abbrev pub DelayPromised : Book → ℕ → Result ℕ Refusal → Type 0
DelayPromised b l r = WhileStanding b (λ v. (x : ℕ) → r ≡ Ok x → DelayPromise (records b) v l x)
