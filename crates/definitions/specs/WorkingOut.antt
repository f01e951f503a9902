-- WorkingOut: what a working-out of figures comes to, said from overload, rings and figures.
--
--   Outcome              it settles, or the ground that it meets, with the port told
--   Lowest r P p         p is the lowest of the records' ports of which P holds
--   FirstPast r F p      a figure of p exceeds the limit, and no other such port feeds p
--   WorksOut             a working-out of the records by this worth, with so many load places, comes to this

use Rattle.std.specs.Prelude.{◌≡◌, ℕ, ◌<◌, ◌≤◌, List, length, Some, None, Option}
use Rattle.definitions.specs.declared.loads.Load.{Load}
use Rattle.definitions.specs.declared.network.Port.{Port}
use Rattle.definitions.specs.declared.refusals.Refusal.{Refusal}
use Rattle.definitions.specs.declared.refusals.Refusal.TheVariants.{LoadTableShort, PortOverloaded, PortInRing, FigurePastLimit}
use Rattle.definitions.specs.Lists.{In}
use Rattle.definitions.specs.Network.{Records, Feeds, InRing}
use Rattle.definitions.specs.Figures.{Figures, FiguresOf, OverloadedAt, Past, Settled}

pub data Outcome : Type 0 where
  settles : Outcome
  short : Outcome
  overloaded : ℕ → Outcome
  ring : ℕ → Outcome
  past : ℕ → Outcome

abbrev pub refusal_of : Outcome → Option Refusal
refusal_of settles = None
refusal_of short = Some LoadTableShort
refusal_of (overloaded p) = Some (PortOverloaded p)
refusal_of (ring p) = Some (PortInRing p)
refusal_of (past p) = Some (FigurePastLimit p)

abbrev pub PortOf : Records → ℕ → Type 0
PortOf r n = (p : Port) × In p r.ports × (p.number ≡ n)

abbrev pub NoPort : Records → (ℕ → Type 0) → Type 0
NoPort r P = (p : Port) → In p r.ports → ¬ P p.number

pub record Lowest (r : Records) (P : ℕ → Type 0) (p : ℕ) : Type 0 where
  pub there : PortOf r p
  pub holds : P p
  pub least : (q : Port) → In q r.ports → P q.number → p ≤ q.number

pub record FirstPast (r : Records) (F : Figures) (p : ℕ) : Type 0 where
  pub past_limit : Past r F p
  pub unfed : (q : Port) → In q r.ports → Past r F q.number → ¬ Feeds r q.number p

-- the grounds in the order in which they are tried: each holds only where those before do not
abbrev pub WorksOut : Records → (List Load → ℕ) → ℕ → Outcome → Type 0
WorksOut r worth places short = places < length r.hops
WorksOut r worth places (overloaded p) =
    (length r.hops ≤ places) × Lowest r (OverloadedAt r) p
WorksOut r worth places (ring p) =
    (length r.hops ≤ places) × NoPort r (OverloadedAt r) × Lowest r (InRing r) p
WorksOut r worth places (past p) =
    (length r.hops ≤ places) × NoPort r (OverloadedAt r) × NoPort r (InRing r)
    × ((F : Figures) × FiguresOf r worth F × Lowest r (FirstPast r F) p)
WorksOut r worth places settles =
    (length r.hops ≤ places) × ((F : Figures) × Settled r worth F)
