-- Exist: figures are worked out in rounds from zero; after as many rounds as the largest rank they stay as they are.
--
--   early, late       what the equations give for the arrivals of a link's hop that comes after a port, or after none
--   round r worth F   all figures worked out once from F
--   rounds r worth n  n rounds from zero
use Rattle.std.proofs.Common.{◌≡◌, ℕ, zero, suc, ◌+◌, ◌<◌, List, Some, None, Option, sym, refl, ap, ◌∙◌, subst, arith}
use Rattle.definitions.specs.declared.loads.Load.{Load}
use Rattle.definitions.specs.declared.network.Port.{Port}
use Rattle.definitions.specs.declared.network.Hop.{Hop}
use Rattle.definitions.specs.Lists.{In, largest}
use Rattle.definitions.specs.Network.{Records, WellFormed, Feeds, direct, InRing, latency, occupancy, find_port, find_link}
use Rattle.definitions.specs.Figures.{Figures, FiguresOf, earliest_at, latest_at, loads, still}
use Rattle.definitions.specs.WorkingOut.{PortOf, NoPort}
use Rattle.definitions.specs.Promises.{FiguresAreExactlyOne}
use Rattle.theory.proofs.Keys.{after_of, after_of_in, after_port}
use Rattle.theory.proofs.Members.{in_largest}
use Rattle.theory.proofs.Order.{rank, rank_up}
use Rattle.theory.proofs.Unique.{RelatedAt, related_before, loads_same, figures_agree}

abbrev pub early : Records → Figures → ℕ → Option ℕ → ℕ
early r F l None = 0
early r F l (Some q) = F.earliest l q + occupancy (find_port r.ports q) (find_link r.links l).shortest + latency

abbrev pub late : Figures → ℕ → Option ℕ → ℕ
late F l None = 0
late F l (Some q) = F.latest l q + F.backlog q + latency

-- the arrivals alone
abbrev pub arrived : Records → Figures → Figures
arrived r F = record {
  backlog = F.backlog;
  earliest = λ l p. early r F l (after_of r.hops l p);
  latest = λ l p. late F l (after_of r.hops l p);
}

abbrev pub round : Records → (List Load → ℕ) → Figures → Figures
round r worth F = record {
  backlog = λ p. worth (loads r (arrived r F) p);
  earliest = λ l p. early r F l (after_of r.hops l p);
  latest = λ l p. late F l (after_of r.hops l p);
}

abbrev pub rounds : Records → (List Load → ℕ) → ℕ → Figures
rounds r worth zero = still
rounds r worth (suc n) = round r worth (rounds r worth n)

-- two figures that are the same at a port
abbrev Same : Records → Figures → Figures → ℕ → Type 0
Same r F G p = RelatedAt (λ (m n : ℕ). m ≡ n) r F G p

module _ (r : Records) (wf : WellFormed r) where
  -- what a round finds for the earliest arrival at a hop
  early_is : (F : Figures) (h : Hop) → In h r.hops → early r F h.link (after_of r.hops h.link h.port) ≡ early r F h.link h.after
  early_is F h i = ap (early r F h.link) (after_of_in r.hops wf.hops_ascend h i)

  -- and for the latest
  late_is : (F : Figures) (h : Hop) → In h r.hops → late F h.link (after_of r.hops h.link h.port) ≡ late F h.link h.after
  late_is F h i = ap (late F h.link) (after_of_in r.hops wf.hops_ascend h i)

  -- arrivals come out the same where the figures are the same at the port before
  arrives_same : (F G : Figures) (h : Hop) → In h r.hops → (o : Option ℕ) → h.after ≡ o
      → ((q : ℕ) → Feeds r q h.port → Same r F G q)
      → (early r F h.link o ≡ early r G h.link o) × (late F h.link o ≡ late G h.link o)
  arrives_same F G h i None e before = (refl, refl)
  arrives_same F G h i (Some q) e before =
      let s = before q (direct (record { hop = h; there = i; at = refl; after = e })) in
      let (x, y, z) = related_before (λ (m n : ℕ). m ≡ n) r wf F G h i q e s in
      (ap (λ n. n + occupancy (find_port r.ports q) (find_link r.links h.link).shortest + latency) x, rw (y, z))

  -- so that a round finds the same arrivals at the hops of a port where the figures are the same at all ports that feed it
  round_arrives : (F G : Figures) (p : ℕ) → ((q : ℕ) → Feeds r q p → Same r F G q) → (h : Hop) → In h r.hops → h.port ≡ p
      → (earliest_at (arrived r F) h ≡ earliest_at (arrived r G) h) × (latest_at (arrived r F) h ≡ latest_at (arrived r G) h)
  round_arrives F G p before h i at =
      let (x, y) = arrives_same F G h i h.after refl (λ q f. before q (subst (Feeds r q) at f)) in
      (early_is F h i ∙ x ∙ sym (early_is G h i), late_is F h i ∙ y ∙ sym (late_is G h i))

  -- and the same backlog
  round_same : (worth : List Load → ℕ) (F G : Figures) (p : ℕ) → ((q : ℕ) → Feeds r q p → Same r F G q)
      → Same r (round r worth F) (round r worth G) p
  round_same worth F G p before = record {
    arrivals = round_arrives F G p before;
    backlogs = λ known. ap worth (loads_same r (arrived r F) (arrived r G) p (round_arrives F G p before));
  }

  module _ (free : NoPort r (InRing r)) (worth : List Load → ℕ) where
    -- after more rounds than its rank a port's figures stay as they are
    stays : (n p : ℕ) → rank r p < n → Same r (rounds r worth (suc n)) (rounds r worth n) p
    stays zero p lt = absurd (omega arith)
    stays (suc n) p lt =
        round_same worth (rounds r worth (suc n)) (rounds r worth n) p
        (λ q f. stays n q (omega (arith, rank_up r wf free q p f)))

    -- more rounds than any rank
    enough : ℕ
    enough = suc (largest (λ (p : Port). rank r p.number) r.ports)

    -- the figures of a port of the records have then come to stay
    stay : (p : ℕ) → PortOf r p → Same r (rounds r worth (suc enough)) (rounds r worth enough) p
    unfolding enough
    stay p known =
        let (x, i, e) = known in
        stays enough p (omega (arith, in_largest (λ (y : Port). rank r y.number) r.ports x i, ap (rank r) e))

    -- and keep the equations
    pub figures_exist : (F : Figures) × FiguresOf r worth F
    figures_exist =
        let F = rounds r worth enough in
        let G = rounds r worth (suc enough) in (
          G,
          record {
            first_earliest = λ h i a. early_is F h i ∙ ap (early r F h.link) a;
            first_latest = λ h i a. late_is F h i ∙ ap (late F h.link) a;
            next_earliest = λ h i q a.
                let (x, y, z) = related_before (λ (m n : ℕ). m ≡ n) r wf G F h i q a (stay q (after_port r wf h i q a)) in
                early_is F h i ∙ ap (early r F h.link) a
                ∙ ap (λ n. n + occupancy (find_port r.ports q) (find_link r.links h.link).shortest + latency) (sym x);
            next_latest = λ h i q a.
                let (x, y, z) = related_before (λ (m n : ℕ). m ≡ n) r wf G F h i q a (stay q (after_port r wf h i q a)) in
                late_is F h i ∙ ap (late F h.link) a ∙ rw (y, z);
            backlogs = λ p i. refl;
          },
        )

-- without a ring, the figures of a method are exactly one
pub figures_are_exactly_one : FiguresAreExactlyOne
figures_are_exactly_one r wf free worth = (figures_exist r wf free worth, figures_agree r wf free worth)
