-- Calls: what each call of a book answers and leaves, and what lists of calls lead to.
--
--   Method            a lawful method, by its worth
--   State             what a book comes to: its records, the places of its tables, and what served while figures stand
--   Served            the method of the last successful working-out, and the places of its load table
--   opened pl         an empty book over tables of such places
--   Call, Answer      every call with its arguments, and every answer
--   Fits c            the arguments are of their types: what a caller can pass
--   After s c a t     in the state s the call c answers a and leaves the state t
--   Runs s cs as t    from s the calls cs, one after another, answer as and leave t
--   slice_get xs i    the item at the place i, counted from 0; none past the last (of the standard library)
--   Standing s        while figures stand in s, the working-out that served succeeds on its records

use Rattle.std.specs.Prelude.{◌≡◌, ℕ, ◌≤◌, Bool, true, false, cond, not, ◌&&◌, List, [], ◌∷◌, length, Some, None, Ok, Err, Option, Result, ◌==◌, nat_le}
use Rattle.std.specs.List.{slice_get}
use Rattle.definitions.specs.declared.loads.Load.{Load}
use Rattle.definitions.specs.declared.network.Port.{Port}
use Rattle.definitions.specs.declared.network.VirtualLink.{VirtualLink}
use Rattle.definitions.specs.declared.network.Hop.{Hop}
use Rattle.definitions.specs.declared.refusals.Refusal.{Refusal}
use Rattle.definitions.specs.declared.refusals.Refusal.TheVariants.{LinkUnknown, PortUnknown, BookNotEmpty, OutputShort, NoFigures, NoHopThere, NoHops}
use Rattle.definitions.specs.Methods.{Lawful}
use Rattle.definitions.specs.Network.{Records}
use Rattle.definitions.specs.Entries.{Places, Entry, port_entry, link_entry, hop_entry, entry_ground, removal_ground, entered, removed, no_records, first_met, has_port, has_link, has_hop}
use Rattle.definitions.specs.Figures.{Figures, Settled, depth, delay, departure, hops_of}
use Rattle.definitions.specs.WorkingOut.{Outcome, settles, short, overloaded, ring, past, refusal_of, WorksOut}
use Rattle.definitions.specs.Text.{reading, written, listed}

pub record Method : Type 0 where
  pub worth : List Load → ℕ
  pub lawful : Lawful worth

pub record Served : Type 0 where
  pub method : Method
  pub places : ℕ

pub record State : Type 0 where
  pub records : Records
  pub places : Places
  pub served : Option Served

abbrev pub opened : Places → State
opened pl = record { records = no_records; places = pl; served = None }

pub data Call : Type 0 where
  enter : Entry → Call
  remove_link : ℕ → Call
  clear : Call
  read : List ℕ → Call
  -- a method, and how many places its load table has
  work_out : Method → ℕ → Call
  port_figures : ℕ → Call
  hop_figures : ℕ → ℕ → Call
  delay_of : ℕ → Call
  -- how many bytes the output has
  write : ℕ → Call
  list : ℕ → Call
  count_ports : Call
  count_links : Call
  count_hops : Call
  port_at : ℕ → Call
  link_at : ℕ → Call
  hop_at : ℕ → Call

pub data Answer : Type 0 where
  done : Answer
  refused : Refusal → Answer
  backlog_depth : ℕ → ℕ → Answer
  earliest_latest_departure : ℕ → ℕ → ℕ → Answer
  delay_is : ℕ → Answer
  bytes : List ℕ → Answer
  count : ℕ → Answer
  port_is : Option Port → Answer
  link_is : Option VirtualLink → Answer
  hop_is : Option Hop → Answer

abbrev pub Fits : Call → Type 0
Fits (enter (port_entry p)) = p.number ≤ 255
Fits (enter (link_entry l)) = l.number ≤ 65535
Fits (enter (hop_entry h)) = Unit {0}
Fits (remove_link l) = Unit {0}
Fits clear = Unit {0}
Fits (read text) = Unit {0}
Fits (work_out m n) = Unit {0}
Fits (port_figures p) = Unit {0}
Fits (hop_figures l p) = Unit {0}
Fits (delay_of l) = Unit {0}
Fits (write n) = Unit {0}
Fits (list n) = Unit {0}
Fits count_ports = Unit {0}
Fits count_links = Unit {0}
Fits count_hops = Unit {0}
Fits (port_at i) = Unit {0}
Fits (link_at i) = Unit {0}
Fits (hop_at i) = Unit {0}

-- ## What calls leave

-- other records, and no figures
abbrev pub changed : State → Records → State
changed s r = record { records = r; places = s.places; served = None }

abbrev pub worked : State → Method → ℕ → Outcome → State
worked s m n settles = record { records = s.records; places = s.places; served = Some record { method = m; places = n } }
worked s m n short = changed s s.records
worked s m n (overloaded p) = changed s s.records
worked s m n (ring p) = changed s s.records
worked s m n (past p) = changed s s.records

-- ## What calls answer

abbrev pub answered : Option Refusal → Answer
answered None = done
answered (Some e) = refused e

abbrev pub is_empty : Records → Bool
is_empty r = length r.ports == 0 && (length r.links == 0 && length r.hops == 0)

-- the text, where the output has the room
abbrev pub put : ℕ → List ℕ → Answer
put room text = cond (nat_le (length text) room) (bytes text) (refused OutputShort)

-- a or, where one is met, the first ground
abbrev pub or_refused : Option Refusal → Answer → Answer
or_refused None a = a
or_refused (Some e) a = refused e

-- what is told of the figures that stand: none stand, or the answer is drawn from settled figures
abbrev pub Told : State → (Figures → Answer) → Answer → Type 0
Told s tell a = elim s.served [
  | None ↦ a ≡ refused NoFigures
  | Some v ↦ (F : Figures) × Settled s.records v.method.worth F × (a ≡ tell F)
]

abbrev pub tell_port : Records → ℕ → Figures → Answer
tell_port r p F = or_refused
    (first_met ((not (has_port r p), PortUnknown) ∷ []))
    (backlog_depth (F.backlog p) (depth r F p))

abbrev pub tell_hop : Records → ℕ → ℕ → Figures → Answer
tell_hop r l p F = or_refused
    (first_met ((not (has_link r l), LinkUnknown) ∷ (not (has_port r p), PortUnknown) ∷ (not (has_hop r l p), NoHopThere) ∷ []))
    (earliest_latest_departure (F.earliest l p) (F.latest l p) (departure F record { link = l; port = p; after = None }))

abbrev pub tell_delay : Records → ℕ → Figures → Answer
tell_delay r l F = or_refused
    (first_met ((not (has_link r l), LinkUnknown) ∷ ((length (hops_of r l) == 0), NoHops) ∷ []))
    (delay_is (delay r F l))

-- ## One call

-- a call that does what it says, or refuses and leaves the state as it was
abbrev pub DoesOrRefuses : Option Refusal → State → State → Answer → State → Type 0
DoesOrRefuses None s d a t = (a ≡ done) × (t ≡ d)
DoesOrRefuses (Some e) s d a t = (a ≡ refused e) × (t ≡ s)

-- from 16 on, a refusal leaves an empty book
abbrev pub Reads : Result Records Refusal → State → Answer → State → Type 0
Reads (Ok r) s a t = (a ≡ done) × (t ≡ changed s r)
Reads (Err e) s a t = (a ≡ refused e) × (t ≡ changed s no_records)

abbrev pub Does : State → Call → Answer → State → Type 0
Does s (enter e) a t = DoesOrRefuses (entry_ground s.places s.records e) s (changed s (entered s.records e)) a t
Does s (remove_link l) a t = DoesOrRefuses (removal_ground s.records l) s (changed s (removed s.records l)) a t
Does s clear a t = (a ≡ done) × (t ≡ changed s no_records)
Does s (read text) a t = elim (is_empty s.records) [
  | true ↦ Reads (reading s.places text) s a t
  | false ↦ (a ≡ refused BookNotEmpty) × (t ≡ s)
]
Does s (work_out m n) a t =
    (o : Outcome) × WorksOut s.records m.worth n o × (a ≡ answered (refusal_of o)) × (t ≡ worked s m n o)
Does s (port_figures p) a t = Told s (tell_port s.records p) a × (t ≡ s)
Does s (hop_figures l p) a t = Told s (tell_hop s.records l p) a × (t ≡ s)
Does s (delay_of l) a t = Told s (tell_delay s.records l) a × (t ≡ s)
Does s (write n) a t = (a ≡ put n (written s.records)) × (t ≡ s)
Does s (list n) a t = Told s (λ F. put n (listed s.records F)) a × (t ≡ s)
Does s count_ports a t = (a ≡ count (length s.records.ports)) × (t ≡ s)
Does s count_links a t = (a ≡ count (length s.records.links)) × (t ≡ s)
Does s count_hops a t = (a ≡ count (length s.records.hops)) × (t ≡ s)
Does s (port_at i) a t = (a ≡ port_is (slice_get s.records.ports i)) × (t ≡ s)
Does s (link_at i) a t = (a ≡ link_is (slice_get s.records.links i)) × (t ≡ s)
Does s (hop_at i) a t = (a ≡ hop_is (slice_get s.records.hops i)) × (t ≡ s)

pub record After (s : State) (c : Call) (a : Answer) (t : State) : Type 0 where
  pub fits : Fits c
  pub does : Does s c a t

-- ## Lists of calls

abbrev pub Runs : State → List Call → List Answer → State → Type 0
Runs s [] [] t = t ≡ s
Runs s [] (a ∷ as') t = ⊥
Runs s (c ∷ cs) [] t = ⊥
Runs s (c ∷ cs) (a ∷ as') t = (m : State) × After s c a m × Runs m cs as' t

abbrev pub Standing : State → Type 0
Standing s = (v : Served) → s.served ≡ Some v → WorksOut s.records v.method.worth v.places settles
