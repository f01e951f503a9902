-- Smaller: where a lawful method settles, Forward settles too, with no larger figures.
use Rattle.std.proofs.Common.{◌≡◌, ℕ, ◌+◌, ◌-◌, ◌/◌, ◌≤◌, eqb, List, [], ◌∷◌, map, refl, inl, inr, arith}
use native.Mathlib.Decide.{dec_le}
use Rattle.definitions.specs.declared.loads.Load.{Load}
use Rattle.definitions.specs.declared.network.Port.{Port}
use Rattle.definitions.specs.declared.network.Hop.{Hop}
use Rattle.definitions.specs.Lists.{In, total}
use Rattle.definitions.specs.Loads.{AreLoads}
use Rattle.definitions.specs.Windows.{Overloaded}
use Rattle.definitions.specs.Methods.{Lawful, limit, forward}
use Rattle.definitions.specs.Network.{Records, WellFormed}
use Rattle.definitions.specs.Figures.{Figures, FiguresOf, earliest_at, latest_at, load_of, hops_at, hops_of, loads, departure, Past, Settled}
use Rattle.definitions.specs.Promises.{NoLarger, ForwardIsNeverLarger}
use Rattle.theory.proofs.Quotients.{div_mono}
use Rattle.theory.proofs.Windows.{load_pos, Calmer, WCalmer, demand_calmer}
use Rattle.theory.proofs.Largest.{forward_is_the_largest}
use Rattle.theory.proofs.Members.{kept_in, largest_mono}
use Rattle.theory.proofs.PortLoads.{loads_within, demand_still}
use Rattle.theory.proofs.Keys.{hop_port}
use Rattle.theory.proofs.Unique.{RelatedAt, in_hops_at, related}
use Rattle.theory.proofs.Exist.{figures_are_exactly_one}
use Rattle.theory.proofs.Outcomes.{settled_agrees}

-- ## Loads of a port

-- no hop of a port is reached past the limit where no figure of the port exceeds it
pub latest_within : (r : Records) (F : Figures) (p : ℕ) → ¬ Past r F p → (h : Hop) → In h r.hops → h.port ≡ p → latest_at F h ≤ limit
latest_within r F p within h i at =
    elim (dec_le (latest_at F h) limit) [
      | yes le ↦ le
      | no over ↦ absurd (within (inr (h, i, at, omega arith)))
    ]

-- lists of one length are calmer item by item
calmer_map : (f g : Hop → Load) (hs : List Hop)
    → ((h : Hop) → In h hs → ((f h).occupancy ≡ (g h).occupancy) × ((f h).gap ≡ (g h).gap) × ((f h).jitter ≤ (g h).jitter))
    → Calmer (map f hs) (map g hs)
calmer_map f g [] k = tt
calmer_map f g (h ∷ hs) k =
    let (o, t, j) = k h (inl refl) in
    (o, t, j, calmer_map f g hs (λ x i. k x (inr i)))

-- figures with no larger jitters at the hops of a port give it a calmer list
pub loads_calmer : (r : Records) (G F : Figures) (p : ℕ)
    → ((h : Hop) → In h r.hops → h.port ≡ p → latest_at G h - earliest_at G h ≤ latest_at F h - earliest_at F h)
    → Calmer (loads r G p) (loads r F p)
loads_calmer r G F p k =
    calmer_map (load_of r G) (load_of r F) (hops_at r p)
    (λ h i. let (j, at) = in_hops_at r p h i in (refl, refl, k h j at))

-- ## Forward against a lawful method

-- Forward's worth of a calmer list is at most a lawful worth
pub forward_calmer : (worth : List Load → ℕ) → Lawful worth → (ls ms : List Load) → AreLoads ls → AreLoads ms → Calmer ls ms
    → ¬ Overloaded ms → forward ls ≤ worth ms
forward_calmer worth law ls ms k m c fits =
    let same = demand_calmer ls ms c in
    let less : ¬ Overloaded ls = omega arith in
    let (t, e) = (forward_is_the_largest ls k less).reached in
    omega (arith, WCalmer ls ms k c t, law ms m fits t)

-- a calmer list with a smaller backlog holds no more frames
pub depth_calmer : (b c : ℕ) → b ≤ c → (ls ms : List Load) → AreLoads ls → Calmer ls ms
    → total (λ (l : Load). 1 + (b - 1 + l.jitter) / l.gap) ls ≤ total (λ (l : Load). 1 + (c - 1 + l.jitter) / l.gap) ms
depth_calmer b c le [] [] k s = omega arith
depth_calmer b c le [] (m ∷ ms) k s = absurd s
depth_calmer b c le (l ∷ ls) [] k s = absurd s
depth_calmer b c le (l ∷ ls) (m ∷ ms) k s =
    let q = div_mono (b - 1 + l.jitter) (c - 1 + m.jitter) l.gap (load_pos l k.0) (omega arith) in
    rw (← s.1) (omega (arith, q, depth_calmer b c le ls ms k.1 s.3))

module _ (r : Records) (wf : WellFormed r) (worth : List Load → ℕ) (law : Lawful worth)
    (F : Figures) (s : Settled r worth F) (G : Figures) (g : FiguresOf r forward G) where
  -- arrivals at the hops of a port that are no later give a calmer list, and both are loads
  calmer_at : (p : Port) → In p r.ports
      → ((h : Hop) → In h r.hops → h.port ≡ p.number → (earliest_at G h ≡ earliest_at F h) × (latest_at G h ≤ latest_at F h))
      → AreLoads (loads r G p.number) × AreLoads (loads r F p.number) × Calmer (loads r G p.number) (loads r F p.number)
  calmer_at p i here =
      let reached = latest_within r F p.number (s.within p i) in (
        loads_within r wf G p.number (λ h j at. let (e, l) = here h j at in omega (arith, reached h j at)),
        loads_within r wf F p.number (λ h j at. omega (arith, reached h j at)),
        loads_calmer r G F p.number (λ h j at. let (e, l) = here h j at in omega arith),
      )

  -- along feeding, no figure of Forward's is larger
  pub smaller_at : (p : ℕ) → RelatedAt (λ (m n : ℕ). m ≤ n) r G F p
  smaller_at =
      related (λ (m n : ℕ). m ≤ n) (omega arith) (λ m n k l d e. omega arith) r wf s.no_ring forward worth G F g s.figures
      (λ p i here.
      let (k, m, c) = calmer_at p i here in
      let fits = s.carried p i in
      let less : ¬ Overloaded (loads r F p.number) = omega (arith, demand_still r F (hops_at r p.number)) in
      omega (arith, g.backlogs p i, s.figures.backlogs p i, forward_calmer worth law (loads r G p.number) (loads r F p.number) k m c less))

  -- nor a departure
  pub departure_smaller : (h : Hop) → In h r.hops → departure G h ≤ departure F h
  departure_smaller h i =
      let at = smaller_at h.port in
      let (e, l) = at.arrivals h i refl in
      omega (arith, at.backlogs (hop_port r wf h i))

  -- so that nothing passes the limit
  past_smaller : (p : Port) → In p r.ports → Past r G p.number → Past r F p.number
  past_smaller p i (inl over) = inl (omega (arith, (smaller_at p.number).backlogs (p, i, refl)))
  past_smaller p i (inr m) = inr (m.0, m.1, m.2, omega (arith, m.3, departure_smaller m.0 m.1))

  -- Forward settles
  pub forward_settles : Settled r forward G
  forward_settles = record {
    carried = s.carried;
    no_ring = s.no_ring;
    figures = g;
    within = λ p i over. s.within p i (past_smaller p i over);
  }

  -- with no larger backlog, depth or delay
  pub no_larger : NoLarger r G F
  no_larger = record {
    backlogs = λ p i. (smaller_at p.number).backlogs (p, i, refl);
    depths = λ p i.
        let at = smaller_at p.number in
        let (k, m, c) = calmer_at p i at.arrivals in
        depth_calmer (G.backlog p.number) (F.backlog p.number) (at.backlogs (p, i, refl))
        (loads r G p.number) (loads r F p.number) k c;
    delays = λ l i.
        largest_mono (departure G) (departure F) (hops_of r l.number)
        (λ h j. departure_smaller h (kept_in (λ (x : Hop). eqb x.link l.number) r.hops h j).0);
  }

-- where a lawful method settles, so does Forward, and nothing is larger
pub forward_is_never_larger : ForwardIsNeverLarger
forward_is_never_larger r wf worth law n w F f more le =
    let s = settled_agrees r wf worth w.1.0 F w.1.1 f in
    let (G, g) = (figures_are_exactly_one r wf s.no_ring forward).0 in
    ((omega (arith, w.0), (G, forward_settles r wf worth law F s G g)), no_larger r wf worth law F s)
