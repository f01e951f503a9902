-- Unique: figures of the same records are compared port by port along feeding; those of one worth agree.
--
--   RelatedAt R r F G p   at the hops of p the earliest arrivals are the same and the latest related by R, and so are the backlogs of p
use Rattle.std.proofs.Common.{◌≡◌, ℕ, ◌+◌, eqb, List, Some, None, Option, sym, refl, ap, ◌∙◌, subst, subst₂}
use Rattle.std.proofs.lemmas.Bool.{eqb-true}
use Rattle.definitions.specs.declared.loads.Load.{Load}
use Rattle.definitions.specs.declared.network.Port.{Port}
use Rattle.definitions.specs.declared.network.Hop.{Hop}
use Rattle.definitions.specs.Lists.{In}
use Rattle.definitions.specs.Network.{Records, WellFormed, Feeds, direct, InRing, latency, occupancy, find_port, find_link}
use Rattle.definitions.specs.Figures.{Figures, FiguresOf, earliest_at, latest_at, load_of, hops_at, loads}
use Rattle.definitions.specs.WorkingOut.{PortOf, NoPort}
use Rattle.definitions.specs.Promises.{Agree}
use Rattle.theory.proofs.Members.{kept_in}
use Rattle.theory.proofs.Keys.{map_same, before_hop, after_port}
use Rattle.theory.proofs.Order.{by_feeding}

-- a hop of the list of a port is one of the records, and at the port
pub in_hops_at : (r : Records) (p : ℕ) (h : Hop) → In h (hops_at r p) → In h r.hops × (h.port ≡ p)
in_hops_at r p h i =
    let (j, t) = kept_in (λ (k : Hop). eqb k.port p) r.hops h i in
    (j, eqb-true h.port p t)

-- figures that have the same arrivals at the hops of a port give it the same loads
pub loads_same : (r : Records) (F G : Figures) (p : ℕ)
    → ((h : Hop) → In h r.hops → h.port ≡ p → (earliest_at F h ≡ earliest_at G h) × (latest_at F h ≡ latest_at G h))
    → loads r F p ≡ loads r G p
loads_same r F G p same = map_same (load_of r F) (load_of r G) (hops_at r p) each
  where
    each : (h : Hop) → In h (hops_at r p) → load_of r F h ≡ load_of r G h
    each h i =
        let (j, at) = in_hops_at r p h i in
        let (e, l) = same h j at in
        rw (e, l)

pub record RelatedAt (R : ℕ → ℕ → Type 0) (r : Records) (F G : Figures) (p : ℕ) : Type 0 where
  pub arrivals : (h : Hop) → In h r.hops → h.port ≡ p → (earliest_at F h ≡ earliest_at G h) × R (latest_at F h) (latest_at G h)
  pub backlogs : PortOf r p → R (F.backlog p) (G.backlog p)

-- related figures at the port that a hop comes after
pub related_before : (R : ℕ → ℕ → Type 0) (r : Records) → WellFormed r → (F G : Figures) (h : Hop) → In h r.hops
    → (q : ℕ) → h.after ≡ Some q → RelatedAt R r F G q
    → (F.earliest h.link q ≡ G.earliest h.link q) × R (F.latest h.link q) (G.latest h.link q) × R (F.backlog q) (G.backlog q)
related_before R r wf F G h i q a s =
    let (k, j, e, f) = before_hop r wf h i q a in
    let (x, y) = subst₂ (λ (l p : ℕ). (F.earliest l p ≡ G.earliest l p) × R (F.latest l p) (G.latest l p)) e f (s.arrivals k j f) in
    (x, y, s.backlogs (after_port r wf h i q a))

-- figures are related at every port where sums keep the relation, and where it comes from the arrivals to the backlog
pub related : (R : ℕ → ℕ → Type 0) → R 0 0
    → ((a b c d : ℕ) → R a b → R c d → R (a + c + latency) (b + d + latency))
    → (r : Records) → WellFormed r → NoPort r (InRing r)
    → (v w : List Load → ℕ) (F G : Figures) → FiguresOf r v F → FiguresOf r w G
    → ((p : Port) → In p r.ports
    → ((h : Hop) → In h r.hops → h.port ≡ p.number → (earliest_at F h ≡ earliest_at G h) × R (latest_at F h) (latest_at G h))
    → R (F.backlog p.number) (G.backlog p.number))
    → (p : ℕ) → RelatedAt R r F G p
related R none sums r wf free v w F G a b up = by_feeding r wf free (RelatedAt R r F G) step
  where
    arrives : (h : Hop) → In h r.hops → (o : Option ℕ) → h.after ≡ o
        → ((q : ℕ) → Feeds r q h.port → RelatedAt R r F G q)
        → (earliest_at F h ≡ earliest_at G h) × R (latest_at F h) (latest_at G h)
    arrives h i None e before = (
      a.first_earliest h i e ∙ sym (b.first_earliest h i e),
      subst₂ R (sym (a.first_latest h i e)) (sym (b.first_latest h i e)) none,
    )
    arrives h i (Some q) e before =
        let s = before q (direct (record { hop = h; there = i; at = refl; after = e })) in
        let (x, y, z) = related_before R r wf F G h i q e s in (
          a.next_earliest h i q e
              ∙ ap (λ n. n + occupancy (find_port r.ports q) (find_link r.links h.link).shortest + latency) x
              ∙ sym (b.next_earliest h i q e),
          subst₂ R (sym (a.next_latest h i q e)) (sym (b.next_latest h i q e))
              (sums (F.latest h.link q) (G.latest h.link q) (F.backlog q) (G.backlog q) y z),
        )

    step : (p : ℕ) → ((q : ℕ) → Feeds r q p → RelatedAt R r F G q) → RelatedAt R r F G p
    step p before =
        let here = λ (h : Hop) (i : In h r.hops) (at : h.port ≡ p).
        arrives h i h.after refl (λ q f. before q (subst (Feeds r q) at f)) in
        record {
          arrivals = here;
          backlogs = λ known.
              let (x, j, e) = known in
              subst (λ n. R (F.backlog n) (G.backlog n)) e (up x j (λ h i at. here h i (at ∙ e)));
        }

-- figures of one worth agree
pub figures_agree : (r : Records) → WellFormed r → NoPort r (InRing r) → (worth : List Load → ℕ)
    → (F G : Figures) → FiguresOf r worth F → FiguresOf r worth G → Agree r F G
figures_agree r wf free worth F G a b =
    let same = related (λ (m n : ℕ). m ≡ n) refl (λ m n k l d e. rw (d, e)) r wf free worth worth F G a b
    (λ p i here. a.backlogs p i ∙ ap worth (loads_same r F G p.number here) ∙ sym (b.backlogs p i)) in
    record {
      backlogs = λ p i. (same p.number).backlogs (p, i, refl);
      earliests = λ h i. ((same h.port).arrivals h i refl).0;
      latests = λ h i. ((same h.port).arrivals h i refl).1;
    }
