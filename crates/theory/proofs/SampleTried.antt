-- The sample network, tried on the definitions.
use Rattle.std.proofs.Common.{◌≡◌, ℕ, suc, ◌+◌, ◌<◌, ◌≤◌, List, Some, None, sym, refl, subst, inl, inr, arith}
use Rattle.std.specs.Fmt.{digits}
use Rattle.definitions.specs.declared.loads.Load.{Load}
use Rattle.definitions.specs.declared.network.Port.{Port}
use Rattle.definitions.specs.declared.network.Hop.{Hop}
use Rattle.definitions.specs.Lists.{In}
use Rattle.theory.proofs.Variants.{no_some, no_none}
use Rattle.definitions.specs.Loads.{IsLoad, AreLoads}
use Rattle.definitions.specs.Windows.{W, horizon}
use Rattle.definitions.specs.Methods.{most, forward, line}
use Rattle.definitions.specs.Network.{latency, occupancy, find_port, find_link, PortKept, LinkKept, HopKept, first, next, WellFormed, Feeds, direct, through}
use Rattle.definitions.specs.Figures.{earliest_at, latest_at, loads, OverloadedAt, departure, Settled}
use Rattle.definitions.specs.Sample.{sample, port_1, port_2, port_3, link_10, link_20, hop_10_1, hop_10_3, hop_20_2, hop_20_3, sample_figures}
use Rattle.definitions.specs.Promises.{SampleFigures}
use Rattle.theory.proofs.Dates.{Before, WFlat, most_flat, most_suc', forward_at_idle}

-- ## A busy period of one date

-- where the work of date 0 is done before the next date, it is the largest backlog
pub forward_first : (ls : List Load) → AreLoads ls → (w : ℕ) → W ls 0 ≡ w → w < horizon → Before ls 0 (suc w) → forward ls ≡ w
unfolding most
forward_first ls k w e lt b =
    let flat = WFlat ls k 0 (suc w) b in
    omega (arith, forward_at_idle ls k w lt (omega (arith, flat w (omega arith) (omega arith), e)), most_flat ls 0 (suc w) (omega arith) flat, most_suc' ls 0, e)

-- ## Rules

pub each_port : (P : Port → Type 0) → P port_1 → P port_2 → P port_3 → (p : Port) → In p sample.ports → P p
each_port P a b c p (inl e) = subst P (sym e) a
each_port P a b c p (inr (inl e)) = subst P (sym e) b
each_port P a b c p (inr (inr (inl e))) = subst P (sym e) c
each_port P a b c p (inr (inr (inr i))) = absurd i

pub each_hop : (P : Hop → Type 0) → P hop_10_1 → P hop_10_3 → P hop_20_2 → P hop_20_3 → (h : Hop) → In h sample.hops → P h
each_hop P a b c d h (inl e) = subst P (sym e) a
each_hop P a b c d h (inr (inl e)) = subst P (sym e) b
each_hop P a b c d h (inr (inr (inl e))) = subst P (sym e) c
each_hop P a b c d h (inr (inr (inr (inl e)))) = subst P (sym e) d
each_hop P a b c d h (inr (inr (inr (inr i)))) = absurd i

sample_well_formed : WellFormed sample
sample_well_formed = record {
  ports_ascend = refl;
  links_ascend = refl;
  hops_ascend = refl;
  ports_kept = each_port PortKept
      (record { number_most = omega arith; rate_known = inr refl })
      (record { number_most = omega arith; rate_known = inr refl })
      (record { number_most = omega arith; rate_known = inr refl });
  links_kept = λ l i. elim i [
    | inl e ↦ subst LinkKept (sym e) record { number_most = omega arith; gap_known = inr (inl refl); lengths = record { shortest_least = omega arith; in_order = omega arith; longest_most = omega arith } }
    | inr (inl e) ↦ subst LinkKept (sym e) record { number_most = omega arith; gap_known = inr (inr (inl refl)); lengths = record { shortest_least = omega arith; in_order = omega arith; longest_most = omega arith } }
    | inr (inr j) ↦ absurd j
  ];
  hops_kept = each_hop (HopKept sample)
      (record {
        link_known = (link_10, inl refl, refl);
        port_known = (port_1, inl refl, refl, refl);
        stepped = (0, first refl);
        one_first = each_hop (λ k. k.link ≡ 10 → k.after ≡ None → None ≡ None → k ≡ hop_10_1) (λ a b c. refl) (λ a b c. no_some b) (λ a b c. absurd (omega arith)) (λ a b c. no_some b);
      })
      (record {
        link_known = (link_10, inl refl, refl);
        port_known = (port_3, inr (inr (inl refl)), refl, refl);
        stepped = (1, next {k = hop_10_1} (record { there = inl refl; same_link = refl; before = refl }) (first refl));
        one_first = λ k i l a b. no_some b;
      })
      (record {
        link_known = (link_20, inr (inl refl), refl);
        port_known = (port_2, inr (inl refl), refl, refl);
        stepped = (0, first refl);
        one_first = each_hop (λ k. k.link ≡ 20 → k.after ≡ None → None ≡ None → k ≡ hop_20_2) (λ a b c. absurd (omega arith)) (λ a b c. no_some b) (λ a b c. refl) (λ a b c. no_some b);
      })
      (record {
        link_known = (link_20, inr (inl refl), refl);
        port_known = (port_3, inr (inr (inl refl)), refl, refl);
        stepped = (1, next {k = hop_20_2} (record { there = inr (inr (inl refl)); same_link = refl; before = refl }) (first refl));
        one_first = λ k i l a b. no_some b;
      });
}

-- every hop goes to a port of a higher number
goes_up : (q p : ℕ) → Feeds sample q p → q < p
goes_up q p (direct n) = each_hop (λ h. h.port ≡ p → h.after ≡ Some q → q < p)
    (λ a b. let z : ◌≡◌ {A = ℕ} 0 1 = cc in absurd (omega arith))
    (λ a b. let e : 1 ≡ q = cc in omega arith)
    (λ a b. let z : ◌≡◌ {A = ℕ} 0 1 = cc in absurd (omega arith))
    (λ a b. let e : 2 ≡ q = cc in omega arith)
    n.hop n.there n.at n.after
goes_up q p (through {m = m} a b) = omega (arith, goes_up q m a, goes_up m p b)

-- ## Figures

module _ (third : ℕ) where
  -- the load of link 10 and of link 20, by its jitter
  load_10 : (j : ℕ) → j ≤ 10000016000 → IsLoad record { occupancy = 40000; gap = 2000000; jitter = j }
  load_10 j h = record { gap_known = inr (inl refl); in_range = record { occupied = omega arith; occupancy_most = omega arith; jitter_most = h } }

  load_20 : (j : ℕ) → j ≤ 10000016000 → IsLoad record { occupancy = 80000; gap = 4000000; jitter = j }
  load_20 j h = record { gap_known = inr (inr (inl refl)); in_range = record { occupied = omega arith; occupancy_most = omega arith; jitter_most = h } }

  carried_port : (p : Port) → In p sample.ports → ¬ OverloadedAt sample p.number
  unfolding horizon
  carried_port = each_port (λ p. ¬ OverloadedAt sample p.number) (λ h. omega arith) (λ h. omega arith) (λ h. omega arith)

  settled_by : (worth : List Load → ℕ) → third ≤ 1000000
      → 40000 ≡ worth (loads sample (sample_figures third) 1)
      → 80000 ≡ worth (loads sample (sample_figures third) 2)
      → third ≡ worth (loads sample (sample_figures third) 3)
      → Settled sample worth (sample_figures third)
  settled_by worth small a b c = let F = sample_figures third in record {
    carried = carried_port;
    no_ring = λ p i h. omega (arith, goes_up p.number p.number h);
    figures = record {
      first_earliest = each_hop (λ h. h.after ≡ None → (sample_figures third).earliest h.link h.port ≡ 0)
          (λ e. refl) (λ e. no_some e) (λ e. refl) (λ e. no_some e);
      first_latest = each_hop (λ h. h.after ≡ None → (sample_figures third).latest h.link h.port ≡ 0)
          (λ e. refl) (λ e. no_some e) (λ e. refl) (λ e. no_some e);
      next_earliest = λ h i q. each_hop (λ h. h.after ≡ Some q
          → earliest_at F h ≡ F.earliest h.link q + occupancy (find_port sample.ports q) (find_link sample.links h.link).shortest + latency)
          (λ e. no_none e)
          (λ e. let k : 1 ≡ q = cc in subst (λ (x : ℕ). 21120 ≡ F.earliest 10 x + occupancy (find_port sample.ports x) 64 + latency) k refl)
          (λ e. no_none e)
          (λ e. let k : 2 ≡ q = cc in subst (λ (x : ℕ). 21120 ≡ F.earliest 20 x + occupancy (find_port sample.ports x) 64 + latency) k refl) h i;
      next_latest = λ h i q. each_hop (λ h. h.after ≡ Some q → latest_at F h ≡ F.latest h.link q + F.backlog q + latency)
          (λ e. no_none e)
          (λ e. let k : 1 ≡ q = cc in subst (λ (x : ℕ). 56000 ≡ F.latest 10 x + F.backlog x + latency) k refl)
          (λ e. no_none e)
          (λ e. let k : 2 ≡ q = cc in subst (λ (x : ℕ). 96000 ≡ F.latest 20 x + F.backlog x + latency) k refl) h i;
      backlogs = each_port (λ p. (sample_figures third).backlog p.number ≡ worth (loads sample (sample_figures third) p.number)) a b c;
    };
    within = λ p i past. elim past [
      | inl more ↦ omega (arith, each_port (λ p. F.backlog p.number ≤ 1000000) (omega arith) (omega arith) small p i)
      | inr (h, j, at, more) ↦ omega (arith, each_hop (λ h. departure F h ≤ 2000000) (omega arith) (omega arith) (omega arith) (omega arith) h j)
    ];
  }

pub by_forward : Settled sample forward (sample_figures 120000)
unfolding horizon
by_forward = settled_by 120000 forward (omega arith)
    (sym (forward_first (loads sample (sample_figures 120000) 1) (load_10 120000 0 (omega arith), tt) 40000 refl (omega arith) (omega arith, tt)))
    (sym (forward_first (loads sample (sample_figures 120000) 2) (load_20 120000 0 (omega arith), tt) 80000 refl (omega arith) (omega arith, tt)))
    (sym (forward_first (loads sample (sample_figures 120000) 3) (load_10 120000 34880 (omega arith), (load_20 120000 74880 (omega arith), tt)) 120000 refl (omega arith) (omega arith, (omega arith, tt))))

pub by_line : Settled sample line (sample_figures 122196)
by_line = settled_by 122196 line (omega arith) refl refl refl

pub sample_figures_tried : SampleFigures
unfolding digits
sample_figures_tried = record {
  well_formed = sample_well_formed;
  text_written = refl;
  text_read = refl;
  reordered_read = refl;
  by_forward = by_forward;
  depths = (refl, refl, refl);
  delays = (refl, refl);
  listing = refl;
  by_line = by_line;
  line_departures = (refl, refl);
}
