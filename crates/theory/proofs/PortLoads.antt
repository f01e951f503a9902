-- PortLoads: the list of each port of settled figures is a list of loads, and its worth bounds what it brings.
use Rattle.std.proofs.Common.{◌≡◌, ℕ, ◌+◌, ◌*◌, ◌<◌, ◌≤◌, eqb, ◌⊎◌, List, [], ◌∷◌, map, None, sym, refl, ap, inl, inr, mul-le-mul_right, arith}
use native.Mathlib.Decide.{dec_le}
use Rattle.std.proofs.lemmas.Bool.{cases_Bool, eqb-true}
use Rattle.std.proofs.ByRecursion.{All-map}
use Rattle.definitions.specs.declared.loads.Load.{Load}
use Rattle.definitions.specs.declared.network.Port.{Port}
use Rattle.definitions.specs.declared.network.VirtualLink.{VirtualLink}
use Rattle.definitions.specs.declared.network.Hop.{Hop}
use Rattle.definitions.specs.Lists.{In}
use Rattle.definitions.specs.Loads.{IsGap, IsLoad, AreLoads}
use Rattle.definitions.specs.Windows.{W, demand, Overloaded}
use Rattle.definitions.specs.Methods.{Lawful, limit}
use Rattle.definitions.specs.Network.{Records, WellFormed, LinkKept, Precedes, Step, first, next, bags, latency, byte_time, occupancy, gap_of, find_port, find_link}
use Rattle.definitions.specs.Figures.{Figures, Settled, load_of, loads, hops_at, latest_at, departure, still}
use Rattle.theory.proofs.Members.{all_in, kept_in, in_map}
use Rattle.theory.proofs.Lookups.{find_link_known}

-- a gap in ms is a gap in ns
pub gap_in : (g : ℕ) → In g bags → IsGap (g * 1000000)
gap_in g i = in_map (λ n. n * 1000000) bags g i

-- a byte takes one of two times
pub byte_time_known : (p : Port) → (byte_time p ≡ 80) ⊎ (byte_time p ≡ 800)
byte_time_known p =
    elim (cases_Bool (eqb p.rate 100)) [
      | inl t ↦ rw t (inl refl)
      | inr t ↦ rw t (inr refl)
    ]

-- what a frame of a lawful length takes lies in the range of occupancies
pub occupancy_range : (p : Port) (n : ℕ) → 64 ≤ n → n ≤ 1518 → (1 ≤ occupancy p n) × (occupancy p n ≤ 2000000)
occupancy_range p n least most' =
    elim (byte_time_known p) [
      | inl e ↦ let s = ap (λ b. n * b) e in (omega arith, omega arith)
      | inr e ↦ let s = ap (λ b. n * b) e in (omega arith, omega arith)
    ]

-- a longer frame takes no less
pub occupancy_mono : (p : Port) (m n : ℕ) → m ≤ n → occupancy p m ≤ occupancy p n
occupancy_mono p m n le = mul-le-mul_right (byte_time p) le

-- a hop is the first of its link, or comes after another
pub comes_after : {r : Records} {h : Hop} {n : ℕ} → Step r h n → (h.after ≡ None) ⊎ ((k : Hop) × Precedes r k h)
comes_after (first e) = inl e
comes_after (next {k = k} p s) = inr (k, p)

-- whether a list is overloaded does not depend on figures
pub demand_still : (r : Records) (F : Figures) (hs : List Hop) → demand (map (load_of r F) hs) ≡ demand (map (load_of r still) hs)
demand_still r F [] = refl
demand_still r F (h ∷ hs) = omega (arith, demand_still r F hs)

-- what is found under a known number is a link that keeps the rules
pub link_found : (r : Records) → WellFormed r → (n : ℕ) → (l : VirtualLink) → In l r.links → l.number ≡ n → LinkKept (find_link r.links n)
link_found r wf n l i e = wf.links_kept (find_link r.links n) (find_link_known r.links n l i e).0

-- the link of a hop keeps the rules
pub hop_link_kept : (r : Records) → WellFormed r → (h : Hop) → In h r.hops → LinkKept (find_link r.links h.link)
hop_link_kept r wf h i =
    let (l, j, e) = (wf.hops_kept h i).link_known in
    link_found r wf h.link l j e

-- its gap is not 0
pub hop_gap_pos : (r : Records) → WellFormed r → (h : Hop) → In h r.hops → 0 < gap_of (find_link r.links h.link)
hop_gap_pos r wf h i =
    let known = (hop_link_kept r wf h i).gap_known in
    omega arith

-- a hop that is reached within the limit and a latency brings a load
pub load_within : (r : Records) → WellFormed r → (F : Figures) (h : Hop) → In h r.hops → latest_at F h ≤ limit + latency → IsLoad (load_of r F h)
load_within r wf F h i reached =
    let l = find_link r.links h.link in
    let k = hop_link_kept r wf h i in
    let (least, most') = occupancy_range (find_port r.ports h.port) l.longest (omega arith) k.lengths.longest_most in
    record {
      gap_known = gap_in l.gap k.gap_known;
      in_range = record { occupied = least; occupancy_most = most'; jitter_most = omega arith };
    }

-- so that the list of a port is one of loads where all its hops are
pub loads_within : (r : Records) → WellFormed r → (F : Figures) (p : ℕ)
    → ((h : Hop) → In h r.hops → h.port ≡ p → latest_at F h ≤ limit + latency) → AreLoads (loads r F p)
loads_within r wf F p reached =
    All-map IsLoad (load_of r F) (hops_at r p) (all_in (λ h. IsLoad (load_of r F h)) (hops_at r p)
    (λ h i. let (j, t) = kept_in (λ (h : Hop). eqb h.port p) r.hops h i in load_within r wf F h j (reached h j (eqb-true h.port p t))))

module _ (r : Records) (wf : WellFormed r) (worth : List Load → ℕ) (F : Figures) (s : Settled r worth F) where
  -- no departure passes the limit
  pub departure_most : (h : Hop) → In h r.hops → departure F h ≤ limit
  departure_most h i =
      let (p, j, e, fits) = (wf.hops_kept h i).port_known in
      elim (dec_le (departure F h) limit) [
        | yes le ↦ le
        | no over ↦ absurd (s.within p j (inr (h, i, sym e, omega arith)))
      ]

  -- so that no latest arrival passes it by more than a latency
  pub latest_most : (h : Hop) → In h r.hops → latest_at F h ≤ limit + latency
  latest_most h i =
      elim (comes_after (wf.hops_kept h i).stepped.1) [
        | inl none ↦ omega (arith, s.figures.first_latest h i none)
        | inr (k, b) ↦
            let e = ap (λ l. F.latest l k.port) b.same_link in
            omega (arith, s.figures.next_latest h i k.port b.before, departure_most k b.there)
      ]

  -- so that each port has a list of loads
  pub are_loads : (p : ℕ) → AreLoads (loads r F p)
  are_loads p = loads_within r wf F p (λ h i at. latest_most h i)

  -- which is not overloaded
  pub not_overloaded : (p : Port) → In p r.ports → ¬ Overloaded (loads r F p.number)
  not_overloaded p i o = s.carried p i (omega (arith, demand_still r F (hops_at r p.number)))

  -- so that the backlog bounds what the list brings in a window
  pub backlog_bounds : Lawful worth → (p : Port) → In p r.ports → (t : ℕ) → W (loads r F p.number) t ≤ F.backlog p.number + t
  backlog_bounds law p i t =
      omega (arith, s.figures.backlogs p i, law (loads r F p.number) (are_loads p.number) (not_overloaded p i) t)
