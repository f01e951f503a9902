-- OnTime: in every traffic each frame arrives at each of its ports between the earliest and the latest arrival there,
-- and the laws of traffic that follow from it.
--
--   queue r T p          the port p in the traffic T, as in OnePort
--   OnTime r F T f h     the frame f arrives at the hop h no sooner than its earliest arrival and no later than its latest
--   OnTimeBefore r F T n every arrival before the moment n is on time
use Rattle.std.proofs.Common.{◌≡◌, ℕ, zero, suc, ◌+◌, ◌-◌, ◌/◌, ◌<◌, ◌≤◌, true, ◌&&◌, eqb, List, refl, ap, ◌∙◌, subst, inl, inr, mul-le-mul_right, arith}
use Rattle.std.proofs.lemmas.Bool.{cases_Bool, and_parts, and_from, eqb-true, eq-eqb}
use Rattle.std.proofs.lemmas.Bool.Decides.{nat_tests}
use Rattle.definitions.specs.declared.loads.Load.{Load}
use Rattle.definitions.specs.declared.network.Port.{Port}
use Rattle.definitions.specs.declared.network.Hop.{Hop}
use Rattle.definitions.specs.Lists.{In}
use Rattle.definitions.specs.Windows.{W, window}
use Rattle.definitions.specs.Methods.{Lawful}
use Rattle.definitions.specs.Network.{Records, WellFormed, find_port, find_link}
use Rattle.definitions.specs.Figures.{Figures, Settled, load_of, loads, hops_at, hops_of, latest_at, earliest_at, departure, depth}
use Rattle.definitions.specs.Traffic.{Frame, Traffic, Keeps, frame_time, end, passes, held_one, held_count}
use Rattle.definitions.specs.Promises.{NoFrameEverLeavesLater, NoPortEverHoldsMore}
use Rattle.theory.proofs.Members.{in_some, some_in, in_kept, kept_in, in_largest, total_le, total_map}
use Rattle.theory.proofs.OnePort.{Queue, Served, Brings, work, left_most, leaves_by}
use Rattle.theory.proofs.Spacing.{share, one, come_of, share_count, share_most, come_most}
use Rattle.theory.proofs.PortLoads.{occupancy_mono, comes_after, hop_gap_pos, backlog_bounds}

abbrev pub queue : Records → Traffic → ℕ → Queue Frame
queue r T p = record {
  passing = λ f. passes r f p;
  arrival = λ f. T.arrival f p;
  start = λ f. T.start f p;
  occupancy = λ f. frame_time r f p;
}

-- a port serves frames as in OnePort
pub served : (r : Records) (T : Traffic) → Keeps r T → (p : ℕ) → Served (queue r T p) T.frames
served r T k p = record {
  in_turn = λ f g i j a b. k.in_turn f g i j p a b;
  never_idle = λ f i m h.
      let (g, j, held, st) = k.never_idle f i p m (record { passing = h.passes; arrived = h.arrived; not_gone = h.not_gone }) in
      (g, j, record { passes = held.passing; arrived = held.arrived; not_gone = held.not_gone }, st);
}

-- a frame passes the ports of its hops
pub hop_passes : (r : Records) (f : Frame) (h : Hop) → In h r.hops → h.link ≡ f.link → passes r f h.port ≡ true
hop_passes r f h i e =
    in_some (λ (k : Hop). eqb k.link f.link && eqb k.port h.port) r.hops h i
    (and_from (eqb h.link f.link) (eqb h.port h.port) (eq-eqb h.link f.link e) (eq-eqb h.port h.port refl))

-- and no others
pub passes_hop : (r : Records) (f : Frame) (p : ℕ) → passes r f p ≡ true → (h : Hop) × In h r.hops × (h.link ≡ f.link) × (h.port ≡ p)
passes_hop r f p t =
    let (h, i, u) = some_in (λ (k : Hop). eqb k.link f.link && eqb k.port p) r.hops t in
    let (a, b) = and_parts (eqb h.link f.link) (eqb h.port p) u in
    (h, i, eqb-true h.link f.link a, eqb-true h.port p b)

pub record OnTime (r : Records) (F : Figures) (T : Traffic) (f : Frame) (h : Hop) : Type 0 where
  pub no_sooner : f.release + earliest_at F h ≤ T.arrival f h.port
  pub no_later : T.arrival f h.port ≤ f.release + latest_at F h

abbrev pub OnTimeBefore : Records → Figures → Traffic → ℕ → Type 0
OnTimeBefore r F T n = (f : Frame) → In f T.frames → (h : Hop) → In h r.hops → h.link ≡ f.link
    → T.arrival f h.port < n → OnTime r F T f h

module _ (r : Records) (wf : WellFormed r) (worth : List Load → ℕ) (law : Lawful worth) (F : Figures) (s : Settled r worth F) (T : Traffic) (k : Keeps r T) where
  -- how many frames of a hop's link arrive in a window where arrivals are on time
  pub hop_count : (h : Hop) → In h r.hops → (x y t : ℕ) → y ≤ x + t → OnTimeBefore r F T (suc y)
      → share (λ f. T.arrival f h.port) one h.link x y T.frames ≤ 1 + (t + (load_of r F h).jitter) / (load_of r F h).gap
  hop_count h i x y t le on =
      share_count r (λ f. T.arrival f h.port) h.link (earliest_at F h) (latest_at F h) x y t le (hop_gap_pos r wf h i) T.frames k.apart
      (λ f j e from before.
      let o = on f j h i e (omega arith) in
      (o.no_sooner, o.no_later))

  -- and how long they take
  pub hop_work : (h : Hop) → In h r.hops → (x y t : ℕ) → y ≤ x + t → OnTimeBefore r F T (suc y)
      → share (λ f. T.arrival f h.port) (λ f. frame_time r f h.port) h.link x y T.frames ≤ window (load_of r F h) t
  hop_work h i x y t le on =
      let arr = λ (f : Frame). T.arrival f h.port in
      let takes = λ (f : Frame). frame_time r f h.port in
      let c = (load_of r F h).occupancy in
      let short : (f : Frame) → In f T.frames → h.link ≡ f.link → takes f ≤ c =
      λ f j e.
      let bound = (k.frames_kept f j).short_enough in
      let same = ap (λ n. (find_link r.links n).longest) e in
      occupancy_mono (find_port r.ports h.port) f.length (find_link r.links h.link).longest (omega arith) in
      omega (
        arith,
        share_most arr takes h.link x y c T.frames short,
        mul-le-mul_right c (hop_count h i x y t le on),
      )

  -- a port receives no more in a window than its list brings
  pub port_work : (p x y t : ℕ) → y ≤ x + t → OnTimeBefore r F T (suc y) → work (queue r T p) x y T.frames ≤ W (loads r F p) t
  port_work p x y t le on =
      omega (
        arith,
        come_most (λ f. T.arrival f p) (λ f. frame_time r f p) p x y r.hops T.frames,
        total_le (λ (h : Hop). share (λ f. T.arrival f p) (λ f. frame_time r f p) h.link x y T.frames) (λ (h : Hop). window (load_of r F h) t) (hops_at r p)
            (λ h i.
            let (j, u) = kept_in (λ (h : Hop). eqb h.port p) r.hops h i in
            subst (λ n. share (λ f. T.arrival f n) (λ f. frame_time r f n) h.link x y T.frames ≤ window (load_of r F h) t)
            (eqb-true h.port p u) (hop_work h j x y t le on)),
        total_map (λ (l : Load). window l t) (load_of r F) (hops_at r p),
      )

  -- so that every window that ends by then brings at most the backlog above its length
  pub port_brings : (p : Port) → In p r.ports → (m : ℕ) → OnTimeBefore r F T (suc m)
      → Brings (queue r T p.number) T.frames (F.backlog p.number) m
  port_brings p i m on x le =
      omega (
        arith,
        port_work p.number x m (m - x) (omega arith) on,
        backlog_bounds r wf worth F s law p i (m - x),
      )

  -- a frame leaves a port no later after its arrival than the backlog
  pub leaves_soon : (f : Frame) → In f T.frames → (h : Hop) → In h r.hops → h.link ≡ f.link
      → OnTimeBefore r F T (suc (T.arrival f h.port)) → end r T f h.port ≤ T.arrival f h.port + F.backlog h.port
  leaves_soon f i h j e on =
      let (p, pi, same, suited) = (wf.hops_kept h j).port_known in
      let brings = subst (λ n. Brings (queue r T n) T.frames (F.backlog n) (T.arrival f h.port)) same
      (port_brings p pi (T.arrival f h.port) on) in
      leaves_by (queue r T h.port) T.frames (served r T k h.port) (F.backlog h.port) f i (hop_passes r f h j e) brings

  -- a frame is on time where all earlier arrivals were, since it came from a port where it had arrived earlier
  pub next_on_time : (f : Frame) → In f T.frames → (h : Hop) → In h r.hops → h.link ≡ f.link
      → (n : ℕ) → OnTimeBefore r F T n → T.arrival f h.port < suc n → OnTime r F T f h
  next_on_time f i h j e n on before =
      elim (comes_after (wf.hops_kept h j).stepped.1) [
        | inl none ↦
            let came = k.released f i h j e none in
            let least = s.figures.first_earliest h j none in
            let most' = s.figures.first_latest h j none in
            record { no_sooner = omega arith; no_later = omega arith }
        | inr (g, b) ↦
            let q = g.port in
            let of-link : g.link ≡ f.link = b.same_link ∙ e in
            let came = k.forwarded f i h j e q b.before in
            let stored = k.stored f i q (hop_passes r f g b.there of-link) in
            let there = on f i g b.there of-link (omega arith) in
            let left = leaves_soon f i g b.there of-link (λ f' i' h' j' e' lt. on f' i' h' j' e' (omega arith)) in
            let least = s.figures.next_earliest h j q b.before in
            let most' = s.figures.next_latest h j q b.before in
            let same-earliest = ap (λ l. F.earliest l q) b.same_link in
            let same-latest = ap (λ l. F.latest l q) b.same_link in
            let same-shortest = ap (λ l. (find_link r.links l).shortest) e in
            let long = (k.frames_kept f i).long_enough in
            let takes = occupancy_mono (find_port r.ports q) (find_link r.links h.link).shortest f.length (omega arith) in
            record { no_sooner = omega arith; no_later = omega arith }
      ]

  -- every arrival before any moment is on time
  pub on_time_before : (n : ℕ) → OnTimeBefore r F T n
  on_time_before zero f i h j e before = absurd (omega arith)
  on_time_before (suc n) f i h j e before = next_on_time f i h j e n (on_time_before n) before

  -- every frame leaves each of its ports by its departure there
  pub leaves_by_departure : (f : Frame) → In f T.frames → (h : Hop) → In h r.hops → h.link ≡ f.link
      → end r T f h.port ≤ f.release + departure F h
  leaves_by_departure f i h j e =
      let n = suc (T.arrival f h.port) in
      let there = on_time_before n f i h j e (omega arith) in
      omega (arith, leaves_soon f i h j e (on_time_before n))

  -- a frame that the port holds at m arrived within the last backlog − 1 moments or at m
  pub held_recent : (p m : ℕ) (f : Frame) → In f T.frames
      → held_one r T p m f ≤ come_of (λ f. T.arrival f p) one p (suc m - F.backlog p) m r.hops f
  held_recent p m f i =
      elim (cases_Bool (passes r f p)) [
        | inr other ↦ grind (arith, nat_tests)
        | inl pass ↦
            let (h, j, e, at) = passes_hop r f p pass in
            let soon = subst (λ n. end r T f n ≤ T.arrival f n + F.backlog n) at
            (leaves_soon f i h j e (on_time_before (suc (T.arrival f h.port)))) in
            grind (arith, nat_tests)
      ]

  -- so that a port holds at most as many frames as its depth
  pub holds_most : (p m : ℕ) → held_count r T p m ≤ depth r F p
  holds_most p m =
      let x = suc m - F.backlog p in
      let t = F.backlog p - 1 in
      let arr = λ (f : Frame). T.arrival f p in
      omega (
        arith,
        total_le (held_one r T p m) (come_of arr one p x m r.hops) T.frames (λ f i. held_recent p m f i),
        come_most arr one p x m r.hops T.frames,
        total_le (λ (h : Hop). share arr one h.link x m T.frames) (λ (h : Hop). 1 + (t + (load_of r F h).jitter) / (load_of r F h).gap) (hops_at r p)
            (λ h i.
            let (j, u) = kept_in (λ (h : Hop). eqb h.port p) r.hops h i in
            subst (λ n. share (λ f. T.arrival f n) one h.link x m T.frames ≤ 1 + (t + (load_of r F h).jitter) / (load_of r F h).gap)
            (eqb-true h.port p u) (hop_count h j x m t (omega arith) (on_time_before (suc m)))),
        total_map (λ (l : Load). 1 + (t + l.jitter) / l.gap) (load_of r F) (hops_at r p),
      )

-- every frame leaves each of its ports by its departure there, and so by the delay of its link
pub no_frame_leaves_later : NoFrameEverLeavesLater
no_frame_leaves_later r wf worth law F s T k f i h j e =
    let first = leaves_by_departure r wf worth law F s T k f i h j e in
    let kept = in_kept (λ (g : Hop). eqb g.link f.link) r.hops h j (eq-eqb h.link f.link e) in
    (first, omega (arith, in_largest (departure F) (hops_of r f.link) h kept))

-- a port has at most its backlog of unsent time, and holds at most as many frames as its depth
pub no_port_holds_more : NoPortEverHoldsMore
no_port_holds_more r wf worth law F s T k p i m = (
  left_most (queue r T p.number) T.frames (served r T k p.number) (F.backlog p.number) m
      (port_brings r wf worth law F s T k p i m (on_time_before r wf worth law F s T k (suc m))),
  holds_most r wf worth law F s T k p.number m,
)
