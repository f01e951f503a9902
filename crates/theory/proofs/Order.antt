-- Order: without a ring the ports are ranked by how many feed them, and claims about ports are shown along the rank.
use Rattle.std.proofs.Common.{ℕ, zero, suc, ◌<◌, ◌≤◌, sym, refl, subst, arith}
use Rattle.definitions.specs.declared.network.Port.{Port}
use Rattle.definitions.specs.Lists.{total}
use Rattle.definitions.specs.Network.{Records, WellFormed, Feeds, direct, through, InRing}
use Rattle.definitions.specs.WorkingOut.{NoPort}
use Rattle.definitions.specs.Promises.{WithoutARingPortsAreRanked}
use Rattle.theory.proofs.Members.{total_less}
use Rattle.theory.proofs.Keys.{feeder_known}
use Rattle.theory.proofs.Rings.{dec_feeds}

-- ## The rank

-- a decided claim counts one where it holds
abbrev pub counted : {X : Type 0} → Dec X → ℕ
counted (yes x) = 1
counted (no f) = 0

-- a claim that follows from another counts no less
counted_mono : {X Y : Type 0} → (X → Y) → (d : Dec X) (e : Dec Y) → counted d ≤ counted e
counted_mono f (yes x) (yes y) = omega arith
counted_mono f (yes x) (no g) = absurd (g (f x))
counted_mono f (no h) e = omega arith

-- a claim that holds counts more than one that does not
counted_less : {X Y : Type 0} → ¬ X → Y → (d : Dec X) (e : Dec Y) → counted d < counted e
counted_less n y (yes x) e = absurd (n x)
counted_less n y (no h) (yes z) = omega arith
counted_less n y (no h) (no g) = absurd (g y)

-- how many ports of the records feed the port
unfoldable pub rank : Records → ℕ → ℕ
rank r p = total (λ (x : Port). counted (dec_feeds r x.number p)) r.ports

-- without a ring, feeding goes up the rank: what feeds q feeds p, and q, which does not feed itself, feeds p
pub rank_up : (r : Records) → WellFormed r → NoPort r (InRing r) → (q p : ℕ) → Feeds r q p → rank r q < rank r p
unfolding rank
rank_up r wf free q p f =
    let (x, i, e) = feeder_known r wf f in
    total_less
    (λ (y : Port). counted (dec_feeds r y.number q))
    (λ (y : Port). counted (dec_feeds r y.number p))
    r.ports
    (λ y j. counted_mono (λ g. through g f) (dec_feeds r y.number q) (dec_feeds r y.number p))
    x i
    (counted_less
    (λ g. free x i (subst (Feeds r x.number) (sym e) g))
    (subst (λ n. Feeds r n p) (sym e) f)
    (dec_feeds r x.number q) (dec_feeds r x.number p))

-- without a ring, the ports can be ranked so that each hop goes up
pub without_a_ring_ports_are_ranked : WithoutARingPortsAreRanked
without_a_ring_ports_are_ranked r wf free =
    (rank r, λ h i q a. rank_up r wf free q h.port (direct (record { hop = h; there = i; at = refl; after = a })))

-- ## Induction along feeding

-- the claim of all ports below a rank
by_rank : (r : Records) → WellFormed r → NoPort r (InRing r) → (P : ℕ → Type 0)
    → ((p : ℕ) → ((q : ℕ) → Feeds r q p → P q) → P p) → (n p : ℕ) → rank r p < n → P p
by_rank r wf free P step zero p lt = absurd (omega arith)
by_rank r wf free P step (suc n) p lt =
    step p (λ q f. by_rank r wf free P step n q (omega (arith, rank_up r wf free q p f)))

-- without a ring, a claim that holds of a port where it holds of all that feed it holds of every port
pub by_feeding : (r : Records) → WellFormed r → NoPort r (InRing r) → (P : ℕ → Type 0)
    → ((p : ℕ) → ((q : ℕ) → Feeds r q p → P q) → P p) → (p : ℕ) → P p
by_feeding r wf free P step p = by_rank r wf free P step (suc (rank r p)) p (omega arith)
