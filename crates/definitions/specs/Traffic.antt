-- Traffic: what frames may do in a network.
--
--   Frame               a frame: its link, its release and its length
--   Traffic             frames, with the moments at which each arrives and starts at the ports of its link
--   end r T f p         when the frame f leaves the port p: its start there and its occupancy
--   passes r f p        the link of f has a hop at p
--   Held r T f p m      the port p holds f at the moment m
--   remaining r T p m f what remains of f at the moment m: nothing unless p holds it
--   unsent r T p m      the unsent time at the port p at the moment m
--   held_count r T p m  how many frames p holds at m
--   Keeps r T           the traffic T keeps the gaps and lengths of the records r, one field for each rule

use Rattle.std.specs.Prelude.{◌≡◌, ℕ, ◌+◌, ◌-◌, ◌<◌, ◌≤◌, min, Bool, true, cond, ◌&&◌, ◌⊎◌, List, [], ◌∷◌, Some, None, ◌==◌, nat_le, nat_lt}
use Rattle.std.specs.List.{AllByRecursion}
use Rattle.definitions.specs.declared.network.VirtualLink.{VirtualLink}
use Rattle.definitions.specs.declared.network.Hop.{Hop}
use Rattle.definitions.specs.Lists.{In, total, some}
use Rattle.definitions.specs.Network.{Records, latency, occupancy, gap_of, find_port, find_link}

pub record Frame : Type 0 where
  pub link : ℕ
  pub release : ℕ
  pub length : ℕ

pub record Traffic : Type 0 where
  pub frames : List Frame
  pub arrival : Frame → ℕ → ℕ
  pub start : Frame → ℕ → ℕ

abbrev pub frame_time : Records → Frame → ℕ → ℕ
frame_time r f p = occupancy (find_port r.ports p) f.length

abbrev pub end : Records → Traffic → Frame → ℕ → ℕ
end r T f p = T.start f p + frame_time r f p

abbrev pub passes : Records → Frame → ℕ → Bool
passes r f p = some (λ (h : Hop). (h.link == f.link) && h.port == p) r.hops

pub record Held (r : Records) (T : Traffic) (f : Frame) (p m : ℕ) : Type 0 where
  pub passing : passes r f p ≡ true
  pub arrived : T.arrival f p ≤ m
  pub not_gone : m < end r T f p

-- the occupancy before the start, then end − moment
abbrev pub remaining : Records → Traffic → ℕ → ℕ → Frame → ℕ
remaining r T p m f = cond (passes r f p && nat_le (T.arrival f p) m) (min (frame_time r f p) (end r T f p - m)) 0

abbrev pub unsent : Records → Traffic → ℕ → ℕ → ℕ
unsent r T p m = total (remaining r T p m) T.frames

abbrev pub held_one : Records → Traffic → ℕ → ℕ → Frame → ℕ
held_one r T p m f = cond (passes r f p && (nat_le (T.arrival f p) m && nat_lt m (end r T f p))) 1 0

abbrev pub held_count : Records → Traffic → ℕ → ℕ → ℕ
held_count r T p m = total (held_one r T p m) T.frames

-- two frames of one link are released at least its gap apart
abbrev pub Apart : Records → Frame → Frame → Type 0
Apart r f g = f.link ≡ g.link
    → (f.release + gap_of (find_link r.links f.link) ≤ g.release)
    ⊎ (g.release + gap_of (find_link r.links f.link) ≤ f.release)

abbrev pub AllApart : Records → List Frame → Type 0
AllApart r [] = Unit {0}
AllApart r (f ∷ fs) = AllByRecursion (Apart r f) fs × AllApart r fs

-- a frame is of a link of the records, which has a first hop, and no shorter or longer than the link allows
pub record FrameKept (r : Records) (f : Frame) : Type 0 where
  pub link_known : (l : VirtualLink) × In l r.links × (l.number ≡ f.link)
  pub first_hop : (h : Hop) × In h r.hops × (h.link ≡ f.link) × (h.after ≡ None)
  pub long_enough : (find_link r.links f.link).shortest ≤ f.length
  pub short_enough : f.length ≤ (find_link r.links f.link).longest

pub record Keeps (r : Records) (T : Traffic) : Type 0 where
  pub frames_kept : (f : Frame) → In f T.frames → FrameKept r f
  pub apart : AllApart r T.frames
  -- a frame arrives at its first hop when it is released, and elsewhere a latency after its end at the hop before
  pub released : (f : Frame) → In f T.frames → (h : Hop) → In h r.hops → h.link ≡ f.link → h.after ≡ None
      → T.arrival f h.port ≡ f.release
  pub forwarded : (f : Frame) → In f T.frames → (h : Hop) → In h r.hops → h.link ≡ f.link → (q : ℕ) → h.after ≡ Some q
      → T.arrival f h.port ≡ end r T f q + latency
  -- it starts no sooner than it arrives
  pub stored : (f : Frame) → In f T.frames → (p : ℕ) → passes r f p ≡ true → T.arrival f p ≤ T.start f p
  -- of two frames at a port, one ends no later than the other starts
  pub one_at_a_time : (f g : Frame) → In f T.frames → In g T.frames → ¬ (f ≡ g) → (p : ℕ) → passes r f p ≡ true → passes r g p ≡ true
      → (end r T f p ≤ T.start g p) ⊎ (end r T g p ≤ T.start f p)
  -- and an earlier arrival starts first
  pub in_turn : (f g : Frame) → In f T.frames → In g T.frames → (p : ℕ) → passes r f p ≡ true → passes r g p ≡ true
      → T.arrival f p < T.arrival g p → T.start f p < T.start g p
  -- while a port holds frames, one of them has started
  pub never_idle : (f : Frame) → In f T.frames → (p m : ℕ) → Held r T f p m
      → (g : Frame) × In g T.frames × Held r T g p m × (T.start g p ≤ m)
