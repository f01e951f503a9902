-- The two frames of the sample keep its gaps and lengths.
use Rattle.std.proofs.Common.{◌≡◌, ℕ, ◌+◌, ◌<◌, ◌≤◌, true, ◌⊎◌, Some, None, sym, refl, subst, inl, inr, arith}
use native.Mathlib.Decide.{dec_lt}
use Rattle.std.proofs.lemmas.Bool.Decides.{nat_tests}
use Rattle.std.proofs.lemmas.Bool.{cases_eq}
use Rattle.definitions.specs.declared.network.Hop.{Hop}
use Rattle.definitions.specs.Lists.{In}
use Rattle.theory.proofs.Variants.{no_some, no_none}
use Rattle.definitions.specs.Network.{latency}
use Rattle.definitions.specs.Traffic.{Frame, FrameKept, Held, Keeps, end, passes}
use Rattle.definitions.specs.Sample.{sample, link_10, link_20, hop_10_1, hop_20_2, frame_10, frame_20, sample_traffic}
use Rattle.definitions.specs.Promises.{SampleTraffic}
use Rattle.theory.proofs.SampleTried.{each_hop}

each_frame : (P : Frame → Type 0) → P frame_20 → P frame_10 → (f : Frame) → In f sample_traffic.frames → P f
each_frame P a b f (inl e) = subst P (sym e) a
each_frame P a b f (inr (inl e)) = subst P (sym e) b
each_frame P a b f (inr (inr i)) = absurd i

-- the ports that each frame passes
passes_20 : (p : ℕ) → passes sample frame_20 p ≡ true → (p ≡ 2) ⊎ (p ≡ 3)
passes_20 p h = elim (cases_eq p 2) [ inl e ↦ inl e | inr n ↦ inr (grind (arith, nat_tests)) ]

passes_10 : (p : ℕ) → passes sample frame_10 p ≡ true → (p ≡ 1) ⊎ (p ≡ 3)
passes_10 p h = elim (cases_eq p 1) [ inl e ↦ inl e | inr n ↦ inr (grind (arith, nat_tests)) ]

-- a statement of a frame at a port that it passes
each_passage : (P : Frame → ℕ → Type 0) → P frame_20 2 → P frame_20 3 → P frame_10 1 → P frame_10 3
    → (f : Frame) → In f sample_traffic.frames → (p : ℕ) → passes sample f p ≡ true → P f p
each_passage P a b c d = each_frame (λ f. (p : ℕ) → passes sample f p ≡ true → P f p)
    (λ p h. elim (passes_20 p h) [ inl e ↦ subst (P frame_20) (sym e) a | inr e ↦ subst (P frame_20) (sym e) b ])
    (λ p h. elim (passes_10 p h) [ inl e ↦ subst (P frame_10) (sym e) c | inr e ↦ subst (P frame_10) (sym e) d ])

-- at port 3 frame 20 is on the wire until 176,000, then frame 10
started : (m : ℕ) → 96000 ≤ m → m < 216000 → (g : Frame) × In g sample_traffic.frames × Held sample sample_traffic g 3 m × (sample_traffic.start g 3 ≤ m)
started m a b = elim (dec_lt m 176000) [
  | yes before ↦ (frame_20, inl refl, record { passing = refl; arrived = a; not_gone = before }, a)
  | no after ↦ (frame_10, inr (inl refl), record { passing = refl; arrived = a; not_gone = b }, omega arith)
]

pub sample_keeps : Keeps sample sample_traffic
sample_keeps = record {
  frames_kept = each_frame (FrameKept sample)
      (record {
        link_known = (link_20, inr (inl refl), refl);
        first_hop = (hop_20_2, inr (inr (inl refl)), refl, refl);
        long_enough = omega arith;
        short_enough = omega arith;
      })
      (record {
        link_known = (link_10, inl refl, refl);
        first_hop = (hop_10_1, inl refl, refl, refl);
        long_enough = omega arith;
        short_enough = omega arith;
      });
  apart = ((λ e. absurd (omega arith), tt), (tt, tt));
  released = each_frame (λ f. (h : Hop) → In h sample.hops → h.link ≡ f.link → h.after ≡ None → sample_traffic.arrival f h.port ≡ f.release)
      (each_hop (λ h. h.link ≡ 20 → h.after ≡ None → sample_traffic.arrival frame_20 h.port ≡ 0)
      (λ l a. absurd (omega arith)) (λ l a. absurd (omega arith)) (λ l a. refl) (λ l a. no_some a))
      (each_hop (λ h. h.link ≡ 10 → h.after ≡ None → sample_traffic.arrival frame_10 h.port ≡ 40000)
      (λ l a. refl) (λ l a. no_some a) (λ l a. absurd (omega arith)) (λ l a. absurd (omega arith)));
  forwarded = each_frame (λ f. (h : Hop) → In h sample.hops → h.link ≡ f.link → (q : ℕ) → h.after ≡ Some q
      → sample_traffic.arrival f h.port ≡ end sample sample_traffic f q + latency)
      (each_hop (λ h. h.link ≡ 20 → (q : ℕ) → h.after ≡ Some q → sample_traffic.arrival frame_20 h.port ≡ end sample sample_traffic frame_20 q + latency)
      (λ l q a. no_none a) (λ l q a. absurd (omega arith)) (λ l q a. no_none a)
      (λ l q a. let e : 2 ≡ q = cc in subst (λ (x : ℕ). 96000 ≡ end sample sample_traffic frame_20 x + latency) e refl))
      (each_hop (λ h. h.link ≡ 10 → (q : ℕ) → h.after ≡ Some q → sample_traffic.arrival frame_10 h.port ≡ end sample sample_traffic frame_10 q + latency)
      (λ l q a. no_none a)
      (λ l q a. let e : 1 ≡ q = cc in subst (λ (x : ℕ). 96000 ≡ end sample sample_traffic frame_10 x + latency) e refl)
      (λ l q a. no_none a) (λ l q a. absurd (omega arith)));
  stored = each_passage (λ f p. sample_traffic.arrival f p ≤ sample_traffic.start f p) (omega arith) (omega arith) (omega arith) (omega arith);
  one_at_a_time = λ f g i j. each_frame (λ f. ¬ (f ≡ g) → (p : ℕ) → passes sample f p ≡ true → passes sample g p ≡ true
      → (end sample sample_traffic f p ≤ sample_traffic.start g p) ⊎ (end sample sample_traffic g p ≤ sample_traffic.start f p))
      (each_frame (λ g. ¬ (frame_20 ≡ g) → (p : ℕ) → passes sample frame_20 p ≡ true → passes sample g p ≡ true
      → (end sample sample_traffic frame_20 p ≤ sample_traffic.start g p) ⊎ (end sample sample_traffic g p ≤ sample_traffic.start frame_20 p))
      (λ n p a b. absurd (n refl))
      (λ n p a b. let e = both p a b in subst (λ (x : ℕ). (end sample sample_traffic frame_20 x ≤ sample_traffic.start frame_10 x) ⊎ (end sample sample_traffic frame_10 x ≤ sample_traffic.start frame_20 x)) (sym e) (inl (omega arith))) g j)
      (each_frame (λ g. ¬ (frame_10 ≡ g) → (p : ℕ) → passes sample frame_10 p ≡ true → passes sample g p ≡ true
      → (end sample sample_traffic frame_10 p ≤ sample_traffic.start g p) ⊎ (end sample sample_traffic g p ≤ sample_traffic.start frame_10 p))
      (λ n p a b. let e = both p b a in subst (λ (x : ℕ). (end sample sample_traffic frame_10 x ≤ sample_traffic.start frame_20 x) ⊎ (end sample sample_traffic frame_20 x ≤ sample_traffic.start frame_10 x)) (sym e) (inr (omega arith)))
      (λ n p a b. absurd (n refl)) g j) f i;
  in_turn = λ f g i j. each_frame (λ f. (p : ℕ) → passes sample f p ≡ true → passes sample g p ≡ true
      → sample_traffic.arrival f p < sample_traffic.arrival g p → sample_traffic.start f p < sample_traffic.start g p)
      (each_frame (λ g. (p : ℕ) → passes sample frame_20 p ≡ true → passes sample g p ≡ true
      → sample_traffic.arrival frame_20 p < sample_traffic.arrival g p → sample_traffic.start frame_20 p < sample_traffic.start g p)
      (λ p a b lt. absurd (omega arith))
      (λ p a b. let e = both p a b in subst (λ (x : ℕ). sample_traffic.arrival frame_20 x < sample_traffic.arrival frame_10 x → sample_traffic.start frame_20 x < sample_traffic.start frame_10 x) (sym e) (λ lt. omega arith)) g j)
      (each_frame (λ g. (p : ℕ) → passes sample frame_10 p ≡ true → passes sample g p ≡ true
      → sample_traffic.arrival frame_10 p < sample_traffic.arrival g p → sample_traffic.start frame_10 p < sample_traffic.start g p)
      (λ p a b. let e = both p b a in subst (λ (x : ℕ). sample_traffic.arrival frame_10 x < sample_traffic.arrival frame_20 x → sample_traffic.start frame_10 x < sample_traffic.start frame_20 x) (sym e) (λ lt. absurd (omega arith)))
      (λ p a b lt. absurd (omega arith)) g j) f i;
  never_idle = λ f i p m h. each_passage (λ f p. In f sample_traffic.frames → Held sample sample_traffic f p m
      → (g : Frame) × In g sample_traffic.frames × Held sample sample_traffic g p m × (sample_traffic.start g p ≤ m))
      (λ j k. (frame_20, j, k, k.arrived))
      (λ j k. started m k.arrived (omega (arith, k.not_gone)))
      (λ j k. (frame_10, j, k, k.arrived))
      (λ j k. started m k.arrived k.not_gone)
      f i p h.passing i h;
}
  where
    -- only port 3 is passed by both
    both : (p : ℕ) → passes sample frame_20 p ≡ true → passes sample frame_10 p ≡ true → p ≡ 3
    both p a b = omega (arith, passes_20 p a, passes_10 p b)

pub sample_traffic_tried : SampleTraffic
sample_traffic_tried = record { keeps = sample_keeps; arrivals = (refl, refl); ends = (refl, refl); reached = refl }
