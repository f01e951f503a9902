-- Books: what a book holds, what each of its calls answers and leaves, and which lists of calls led to it.
--
--   records b            the records of the book
--   places b             how many places its tables have
--   unfit r h            the first ground that the hop h meets, of all but a full table
--   Same b d             the book d is as b was: its rows, its places, and whether figures stand
--   Doing g after b d r  with the ground g, if any, a call on b answers r and leaves d; without one it leaves the records `after`
--   Enters e b d r       what the entry e of a record answers on b, and what it leaves in d
--   Shows b F            the rows of the book show the figures F
--   Made cs as b         the calls cs, which answered as, led to the book b
--   WorksBook            what a working-out on the book b answers, and what it leaves in d
--   answer_of r          what a call of the book answers, as an answer of the list of calls
--   Adds c a b d         to whatever calls led to b, the call c with the answer a is added at d

use Rattle.std.specs.Prelude.{◌≡◌, ℕ, false, List, [], ◌∷◌, ◌++◌, map, take, is_some, is_ok, Some, None, Ok, Err, Option, Result}
use Rattle.std.specs.List.{AllByRecursion}
use Rattle.definitions.specs.declared.network.Hop.{Hop}
use Rattle.definitions.specs.declared.refusals.Refusal.{Refusal}
use Rattle.definitions.specs.declared.loads.Load.{Load}
use Rattle.definitions.specs.Network.{Records, WellFormed}
use Rattle.definitions.specs.Entries.{Places, Entry, entry_ground, entered, first_met, hop_grounds}
use Rattle.definitions.specs.Figures.{Figures, Settled, depth, earliest_at, latest_at}
use Rattle.definitions.specs.Calls.{Served, State, Call, Answer, done, refused, opened, Runs}
use Rattle.register.specs.Registers.{rows, room}
use Rattle.working_out.specs.declared.rows.PortRow.{PortRow}
use Rattle.working_out.specs.declared.rows.LinkRow.{LinkRow}
use Rattle.working_out.specs.declared.rows.HopRow.{HopRow}
use Rattle.working_out.specs.Works.{Works}
use Rattle.book.specs.declared.books.Book.{Book}

abbrev pub records : Book → Records
records b = record {
  ports = map (λ (r : PortRow). r.port) (rows b.ports);
  links = map (λ (r : LinkRow). r.link) (rows b.links);
  hops = map (λ (r : HopRow). r.hop) (rows b.hops);
}

abbrev pub places : Book → Places
places b = record { ports = room b.ports; links = room b.links; hops = room b.hops }

-- the grounds of a hop but the last, that the table is full, do not look at places
abbrev pub unfit : Records → Hop → Option Refusal
unfit r h = first_met (take 6 (hop_grounds (record { ports = 0; links = 0; hops = 0 }) r h))

pub record Same (b d : Book) : Type 0 where
  pub ports : rows d.ports ≡ rows b.ports
  pub links : rows d.links ≡ rows b.links
  pub hops : rows d.hops ≡ rows b.hops
  pub standing : d.standing ≡ b.standing
  pub tables : places d ≡ places b

-- a call without a ground withdraws the figures; a refusal leaves the book as it was
abbrev pub Doing : Option Refusal → Records → Book → Book → Result (Unit {0}) Refusal → Type 0
Doing None after b d r = (r ≡ Ok tt) × (records d ≡ after) × (d.standing ≡ false) × (places d ≡ places b)
Doing (Some e) after b d r = (r ≡ Err e) × Same b d

abbrev pub Enters : Entry → Book → Book → Result (Unit {0}) Refusal → Type 0
Enters e b = Doing (entry_ground (places b) (records b) e) (entered (records b) e) b

pub record Shows (b : Book) (F : Figures) : Type 0 where
  pub ports : AllByRecursion (λ (r : PortRow). (r.backlog ≡ F.backlog r.port.number) × (r.depth ≡ depth (records b) F r.port.number)) (rows b.ports)
  pub hops : AllByRecursion (λ (r : HopRow). (r.earliest ≡ earliest_at F r.hop) × (r.latest ≡ latest_at F r.hop)) (rows b.hops)

pub record Made (cs : List Call) (as' : List Answer) (b : Book) : Type 0 where
  pub state : State
  pub runs : Runs (opened (places b)) cs as' state
  pub holds : records b ≡ state.records
  pub stands : b.standing ≡ is_some state.served
  pub shows : (v : Served) → state.served ≡ Some v → (F : Figures) × Settled (records b) v.method.worth F × Shows b F

-- a working-out leaves the records and the places as they are; figures stand exactly where it succeeds.
-- Every book that calls led to has well-formed records
pub record WorksBook (worth : List Load → ℕ) (n : ℕ) (b d : Book) (a : Result (Unit {0}) Refusal) : Type 0 where
  pub tables : places d ≡ places b
  pub links : rows d.links ≡ rows b.links
  pub stands : d.standing ≡ is_ok a
  pub works : WellFormed (records b) → Works (records b) worth n (rows d.ports) (rows b.links) (rows d.hops) a

-- what a call of the book answers, as an answer of the list of calls
abbrev pub answer_of : Result (Unit {0}) Refusal → Answer
answer_of (Ok u) = done
answer_of (Err e) = refused e

abbrev pub Adds : Call → Answer → Book → Book → Type 0
Adds c a b d = (cs : List Call) (as' : List Answer) → Made cs as' b → Made (cs ++ (c ∷ [])) (as' ++ (a ∷ [])) d
