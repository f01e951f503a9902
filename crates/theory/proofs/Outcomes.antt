-- Outcomes: a working-out comes to exactly one outcome.
use Rattle.std.proofs.Common.{◌≡◌, ℕ, ◌<◌, ◌≤◌, List, length, sym, refl, ap, subst, inl, inr, arith}
use native.Mathlib.Decide.{ℕ_discrete, map_dec, dec_le, dec_lt}
use Rattle.definitions.specs.declared.loads.Load.{Load}
use Rattle.definitions.specs.declared.network.Port.{Port}
use Rattle.definitions.specs.declared.network.Hop.{Hop}
use Rattle.definitions.specs.Lists.{In}
use Rattle.definitions.specs.Windows.{horizon, demand}
use Rattle.definitions.specs.Methods.{limit}
use Rattle.definitions.specs.Network.{Records, WellFormed, Feeds, InRing}
use Rattle.definitions.specs.Figures.{Figures, FiguresOf, departure, loads, still, OverloadedAt, Past, Settled}
use Rattle.definitions.specs.WorkingOut.{Outcome, settles, short, overloaded, ring, past, PortOf, NoPort, Lowest, FirstPast, WorksOut}
use Rattle.definitions.specs.Promises.{Agree, AWorkingOutComesToOne}
use Rattle.theory.proofs.Keys.{hop_port}
use Rattle.theory.proofs.Rings.{dec_or, dec_and, dec_some, dec_none, dec_feeds, lowest_or_none}
use Rattle.theory.proofs.Order.{by_feeding}
use Rattle.theory.proofs.Unique.{figures_agree}
use Rattle.theory.proofs.Exist.{figures_are_exactly_one}

-- ## Figures that agree

-- agreement goes both ways
pub agree_sym : (r : Records) (F G : Figures) → Agree r F G → Agree r G F
agree_sym r F G s = record {
  backlogs = λ p i. sym (s.backlogs p i);
  earliests = λ h i. sym (s.earliests h i);
  latests = λ h i. sym (s.latests h i);
}

-- they have the same backlog at each port
pub backlog_agrees : (r : Records) (F G : Figures) → Agree r F G → (p : ℕ) → PortOf r p → F.backlog p ≡ G.backlog p
backlog_agrees r F G s p known =
    let (x, i, e) = known in
    subst (λ n. F.backlog n ≡ G.backlog n) e (s.backlogs x i)

-- and the same departure at each hop
pub departure_agrees : (r : Records) → WellFormed r → (F G : Figures) → Agree r F G → (h : Hop) → In h r.hops → departure F h ≡ departure G h
departure_agrees r wf F G s h i = rw (s.latests h i, backlog_agrees r F G s h.port (hop_port r wf h i))

-- so that the same ports pass the limit
pub past_agrees : (r : Records) → WellFormed r → (F G : Figures) → Agree r F G → (p : ℕ) → PortOf r p → Past r F p → Past r G p
past_agrees r wf F G s p known (inl over) = inl (omega (arith, backlog_agrees r F G s p known))
past_agrees r wf F G s p known (inr m) =
    inr (m.0, m.1, m.2, subst (λ n. limit < n) (departure_agrees r wf F G s m.0 m.1) m.3)

-- and the same ports are first past it
pub first_past_agrees : (r : Records) → WellFormed r → (F G : Figures) → Agree r F G → (p : ℕ) → PortOf r p → FirstPast r F p → FirstPast r G p
first_past_agrees r wf F G s p known f = record {
  past_limit = past_agrees r wf F G s p known f.past_limit;
  unfed = λ q i over. f.unfed q i (past_agrees r wf G F (agree_sym r F G s) q.number (q, i, refl) over);
}

-- all figures of a worth are settled where some are
pub settled_agrees : (r : Records) → WellFormed r → (worth : List Load → ℕ) (F G : Figures)
    → Settled r worth F → FiguresOf r worth G → Settled r worth G
settled_agrees r wf worth F G s g =
    let same = figures_agree r wf s.no_ring worth G F g s.figures in
    record {
      carried = s.carried;
      no_ring = s.no_ring;
      figures = g;
      within = λ p i over. s.within p i (past_agrees r wf G F same p.number (p, i, refl) over);
    }

-- ## Decisions

-- whether a port is overloaded is decided
pub dec_overloaded : (r : Records) (p : ℕ) → Dec (OverloadedAt r p)
dec_overloaded r p = dec_lt horizon (demand (loads r still p))

-- whether a figure of a port passes the limit is decided
pub dec_past : (r : Records) (F : Figures) (p : ℕ) → Dec (Past r F p)
dec_past r F p =
    dec_or (dec_lt limit (F.backlog p))
    (map_dec (λ m. (m.0, m.1, m.2.0, m.2.1)) (λ m. (m.0, m.1, (m.2, m.3)))
    (dec_some (λ (h : Hop). (h.port ≡ p) × (limit < departure F h))
    (λ h. dec_and (ℕ_discrete h.port p) (dec_lt limit (departure F h))) r.hops))

-- whether it is the first such port is decided
pub dec_first_past : (r : Records) (F : Figures) (p : ℕ) → Dec (FirstPast r F p)
dec_first_past r F p =
    map_dec
    (λ m. record { past_limit = m.0; unfed = λ q i over f. m.1 q i (over, f) })
    (λ f. (f.past_limit, λ q i m. f.unfed q i m.0 m.1))
    (dec_and (dec_past r F p)
    (dec_none (λ (q : Port). Past r F q.number × Feeds r q.number p)
    (λ q. dec_and (dec_past r F q.number) (dec_feeds r q.number p)) r.ports))

-- without a ring, where there is no first port past the limit there is none
pub none_past : (r : Records) → WellFormed r → NoPort r (InRing r) → (F : Figures) → NoPort r (FirstPast r F) → NoPort r (Past r F)
none_past r wf free F none p i =
    by_feeding r wf free (λ n. (x : Port) → In x r.ports → x.number ≡ n → ¬ Past r F n)
    (λ n before x j e over.
    none x j (subst (FirstPast r F) (sym e) (record {
      past_limit = over;
      unfed = λ q k past f. before q.number f q k refl past;
    })))
    p.number p i refl

-- ## One outcome

-- claims that hold of the same ports have the same lowest port
pub lowest_one : (r : Records) (P Q : ℕ → Type 0) → ((x : ℕ) → PortOf r x → P x → Q x) → ((x : ℕ) → PortOf r x → Q x → P x)
    → (p q : ℕ) → Lowest r P p → Lowest r Q q → p ≡ q
lowest_one r P Q to from p q a b =
    let (x, i, e) = a.there in
    let (y, j, f) = b.there in
    let under = b.least x i (subst Q (sym e) (to p a.there a.holds)) in
    let over = a.least y j (subst P (sym f) (from q b.there b.holds)) in
    omega arith

-- a claim of no port has no lowest port
pub no_lowest : (r : Records) (P : ℕ → Type 0) (p : ℕ) → NoPort r P → Lowest r P p → ⊥
no_lowest r P p none a =
    let (x, i, e) = a.there in
    none x i (subst P (sym e) a.holds)

module _ (r : Records) (wf : WellFormed r) (worth : List Load → ℕ) (n : ℕ) where
  -- with too few places there is no other outcome
  only_short : n < length r.hops → (u : Outcome) → WorksOut r worth n u → u ≡ short
  only_short few settles w = absurd (omega (arith, w.0))
  only_short few short w = refl
  only_short few (overloaded q) w = absurd (omega (arith, w.0))
  only_short few (ring q) w = absurd (omega (arith, w.0))
  only_short few (past q) w = absurd (omega (arith, w.0))

  module _ (room : length r.hops ≤ n) where
    -- nor with an overload
    only_overloaded : (p : ℕ) → Lowest r (OverloadedAt r) p → (u : Outcome) → WorksOut r worth n u → u ≡ overloaded p
    only_overloaded p low settles w = absurd (no_lowest r (OverloadedAt r) p w.1.1.carried low)
    only_overloaded p low short w = absurd (omega arith)
    only_overloaded p low (overloaded q) w =
        ap overloaded (lowest_one r (OverloadedAt r) (OverloadedAt r) (λ x k o. o) (λ x k o. o) q p w.1 low)
    only_overloaded p low (ring q) w = absurd (no_lowest r (OverloadedAt r) p w.1 low)
    only_overloaded p low (past q) w = absurd (no_lowest r (OverloadedAt r) p w.1 low)

    module _ (carried : NoPort r (OverloadedAt r)) where
      -- nor with a ring
      only_ring : (p : ℕ) → Lowest r (InRing r) p → (u : Outcome) → WorksOut r worth n u → u ≡ ring p
      only_ring p low settles w = absurd (no_lowest r (InRing r) p w.1.1.no_ring low)
      only_ring p low short w = absurd (omega arith)
      only_ring p low (overloaded q) w = absurd (no_lowest r (OverloadedAt r) q carried w.1)
      only_ring p low (ring q) w =
          ap ring (lowest_one r (InRing r) (InRing r) (λ x k o. o) (λ x k o. o) q p w.2 low)
      only_ring p low (past q) w = absurd (no_lowest r (InRing r) p w.2 low)

      module _ (free : NoPort r (InRing r)) (F : Figures) (figures : FiguresOf r worth F) where
        -- nor with a figure past the limit
        only_past : (p : ℕ) → Lowest r (FirstPast r F) p → (u : Outcome) → WorksOut r worth n u → u ≡ past p
        only_past p low settles w =
            let s = settled_agrees r wf worth w.1.0 F w.1.1 figures in
            absurd (no_lowest r (FirstPast r F) p (λ x i f. s.within x i f.past_limit) low)
        only_past p low short w = absurd (omega arith)
        only_past p low (overloaded q) w = absurd (no_lowest r (OverloadedAt r) q carried w.1)
        only_past p low (ring q) w = absurd (no_lowest r (InRing r) q free w.2)
        only_past p low (past q) w =
            let G = w.3.0 in
            let same = figures_agree r wf free worth G F w.3.1 figures in
            ap past (lowest_one r (FirstPast r G) (FirstPast r F)
            (first_past_agrees r wf G F same) (first_past_agrees r wf F G (agree_sym r G F same)) q p w.3.2 low)

        -- nor with none of these
        only_settles : NoPort r (FirstPast r F) → (u : Outcome) → WorksOut r worth n u → u ≡ settles
        only_settles none settles w = refl
        only_settles none short w = absurd (omega arith)
        only_settles none (overloaded q) w = absurd (no_lowest r (OverloadedAt r) q carried w.1)
        only_settles none (ring q) w = absurd (no_lowest r (InRing r) q free w.2)
        only_settles none (past q) w =
            let G = w.3.0 in
            let same = figures_agree r wf free worth G F w.3.1 figures in
            absurd (no_lowest r (FirstPast r G) q
            (λ x i f. none x i (first_past_agrees r wf G F same x.number (x, i, refl) f)) w.3.2)

-- the grounds are tried in their order
pub a_working_out_comes_to_one : AWorkingOutComesToOne
a_working_out_comes_to_one r wf worth n =
    elim (dec_le (length r.hops) n) [
      | no few ↦ (short, omega arith, only_short r wf worth n (omega arith))
      | yes room ↦ elim (lowest_or_none r (OverloadedAt r) (dec_overloaded r)) [
        | inr m ↦ (overloaded m.0, (room, m.1), only_overloaded r wf worth n room m.0 m.1)
        | inl carried ↦ elim (lowest_or_none r (InRing r) (λ p. dec_feeds r p p)) [
          | inr m ↦ (ring m.0, (room, carried, m.1), only_ring r wf worth n room carried m.0 m.1)
          | inl free ↦
              let (F, figures) = (figures_are_exactly_one r wf free worth).0 in
              elim (lowest_or_none r (FirstPast r F) (dec_first_past r F)) [
                | inr m ↦ (past m.0, (room, carried, free, (F, figures, m.1)), only_past r wf worth n room carried free F figures m.0 m.1)
                | inl none ↦ (
                  settles,
                  (room, (F, record { carried = carried; no_ring = free; figures = figures; within = none_past r wf free F none })),
                  only_settles r wf worth n room carried free F figures none,
                )
              ]
        ]
      ]
    ]
