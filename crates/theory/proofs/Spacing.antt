-- Spacing: how many frames of a link, and of all links of a port, arrive in a window.
--
--   slot n lo hi fs           how many frames of the link n are released from lo on and before hi
--   between arr x y f         the frame f arrives in the window from x to y
--   share arr v n x y fs      the sum of v over the frames of the link n that arrive in the window
--   come arr v p x y hs fs    the sum of v over the frames that arrive in it at the port p, by the hops hs
--   Paced arr n E L x y fs    the frames of the link n that arrive in it do so between E and L after their release
use Rattle.std.proofs.Common.{◌≡◌, ℕ, zero, suc, ◌+◌, ◌-◌, ◌*◌, ◌/◌, ◌<◌, ◌≤◌, Bool, cond, ◌&&◌, eqb, ltb, leb, List, [], ◌∷◌, filter, sym, refl, ap, ◌∙◌, inl, inr, arith}
use Rattle.std.specs.List.{AllByRecursion}
use Rattle.std.proofs.lemmas.Bool.{cases_Bool, cases_lt, eqb-true}
use Rattle.std.proofs.lemmas.Bool.Decides.{nat_tests}
use Rattle.definitions.specs.declared.network.Hop.{Hop}
use Rattle.definitions.specs.Lists.{In, total, some}
use Rattle.definitions.specs.Network.{Records, gap_of, find_link}
use Rattle.definitions.specs.Traffic.{Frame, Apart, AllApart}
use Rattle.theory.proofs.Members.{total_le, total_none, total_kept}
use Rattle.theory.proofs.Quotients.{div_mono}

abbrev pub slot_of : ℕ → ℕ → ℕ → Frame → ℕ
slot_of n lo hi f = cond (eqb n f.link && (leb lo f.release && ltb f.release hi)) 1 0

abbrev pub slot : ℕ → ℕ → ℕ → List Frame → ℕ
slot n lo hi fs = total (slot_of n lo hi) fs

abbrev pub gap_at : Records → ℕ → ℕ
gap_at r n = gap_of (find_link r.links n)

-- beside a frame of the link, no other is released within a gap
pub slot_apart : (r : Records) (n lo : ℕ) (f : Frame) → n ≡ f.link → lo ≤ f.release → f.release < lo + gap_at r n
    → (fs : List Frame) → AllByRecursion (Apart r f) fs → slot n lo (lo + gap_at r n) fs ≡ 0
slot_apart r n lo f e from before [] a = refl
slot_apart r n lo f e from before (g ∷ fs) a =
    let i = slot_apart r n lo f e from before fs a.1 in
    let same = ap (gap_at r) e in
    elim (cases_Bool (eqb n g.link)) [
      | inr other ↦ grind (arith, nat_tests)
      | inl of-link ↦
          let u = eqb-true n g.link of-link in
          let apart = a.0 (sym e ∙ u) in
          grind (arith, nat_tests)
    ]

-- so that a slot of one gap has at most one
pub slot_one : (r : Records) (n lo : ℕ) (fs : List Frame) → AllApart r fs → slot n lo (lo + gap_at r n) fs ≤ 1
slot_one r n lo [] a = omega arith
slot_one r n lo (f ∷ fs) a =
    let i = slot_one r n lo fs a.1 in
    elim (cases_Bool (eqb n f.link && (leb lo f.release && ltb f.release (lo + gap_at r n)))) [
      | inr out ↦ rw out (omega arith)
      | inl inside ↦
          let none = slot_apart r n lo f (grind (arith, nat_tests)) (grind (arith, nat_tests)) (grind (arith, nat_tests)) fs a.0 in
          rw inside (omega arith)
    ]

-- a slot from lo to hi and the next from hi to top
pub slot_more : (n lo hi top : ℕ) (fs : List Frame) → slot n lo top fs ≤ slot n lo hi fs + slot n hi top fs
slot_more n lo hi top [] = omega arith
slot_more n lo hi top (f ∷ fs) = let i = slot_more n lo hi top fs in grind (arith, nat_tests)

-- an empty slot has none
pub slot_none : (n lo hi : ℕ) → hi ≤ lo → (fs : List Frame) → slot n lo hi fs ≤ 0
slot_none n lo hi le [] = omega arith
slot_none n lo hi le (f ∷ fs) = let i = slot_none n lo hi le fs in grind (arith, nat_tests)

-- a longer slot has no fewer
pub slot_longer : (n lo hi top : ℕ) → hi ≤ top → (fs : List Frame) → slot n lo hi fs ≤ slot n lo top fs
slot_longer n lo hi top le [] = omega arith
slot_longer n lo hi top le (f ∷ fs) = let i = slot_longer n lo hi top le fs in grind (arith, nat_tests)

-- k gaps have at most k
pub slot_many : (r : Records) (n lo : ℕ) (fs : List Frame) → AllApart r fs → (k : ℕ) → slot n lo (lo + k * gap_at r n) fs ≤ k
slot_many r n lo fs a zero = slot_none n lo (lo + 0 * gap_at r n) (omega arith) fs
slot_many r n lo fs a (suc k) =
    let hi = lo + k * gap_at r n in
    let e : lo + suc k * gap_at r n ≡ hi + gap_at r n = omega arith in
    omega (
      arith,
      ap (λ top. slot n lo top fs) e,
      slot_more n lo hi (hi + gap_at r n) fs,
      slot_one r n hi fs a,
      slot_many r n lo fs a k,
    )

-- so that from lo to hi there are at most 1 and one for each whole gap
pub slot_most : (r : Records) (n lo hi : ℕ) → 0 < gap_at r n → (fs : List Frame) → AllApart r fs
    → slot n lo (suc hi) fs ≤ 1 + (hi - lo) / gap_at r n
slot_most r n lo hi pos fs a =
    let g = gap_at r n in
    let k = 1 + (hi - lo) / g in
    let room : suc hi ≤ lo + k * g = omega arith in
    omega (arith, slot_longer n lo (suc hi) (lo + k * g) room fs, slot_many r n lo fs a k)

abbrev pub between : (Frame → ℕ) → ℕ → ℕ → Frame → Bool
between arr x y f = leb x (arr f) && leb (arr f) y

abbrev pub share_of : (Frame → ℕ) → (Frame → ℕ) → ℕ → ℕ → ℕ → Frame → ℕ
share_of arr v n x y f = cond (eqb n f.link && between arr x y f) (v f) 0

abbrev pub share : (Frame → ℕ) → (Frame → ℕ) → ℕ → ℕ → ℕ → List Frame → ℕ
share arr v n x y fs = total (share_of arr v n x y) fs

abbrev pub Paced : (Frame → ℕ) → ℕ → ℕ → ℕ → ℕ → ℕ → List Frame → Type 0
Paced arr n E L x y fs = (f : Frame) → In f fs → n ≡ f.link → x ≤ arr f → arr f ≤ y
    → (f.release + E ≤ arr f) × (arr f ≤ f.release + L)

abbrev pub one : Frame → ℕ
one f = 1

-- frames that arrive in a window are released in one that is longer by the jitter
pub released_of : (arr : Frame → ℕ) (n E L x y : ℕ) (f : Frame)
    → (n ≡ f.link → x ≤ arr f → arr f ≤ y → (f.release + E ≤ arr f) × (arr f ≤ f.release + L))
    → share_of arr one n x y f ≤ slot_of n (x - L) (suc (y - E)) f
released_of arr n E L x y f h =
    elim (cases_Bool (eqb n f.link)) [
      | inr other ↦ grind (arith, nat_tests)
      | inl of-link ↦ elim (cases_lt (arr f) x) [
        | inl early ↦ grind (arith, nat_tests)
        | inr from ↦ elim (cases_lt y (arr f)) [
          | inl late ↦ grind (arith, nat_tests)
          | inr before ↦
              let (low, high) = h (eqb-true n f.link of-link) from before in
              grind (arith, nat_tests)
        ]
      ]
    ]

-- so that a window of length t has at most 1 and one for each whole gap in t and the jitter
pub share_count : (r : Records) (arr : Frame → ℕ) (n E L x y t : ℕ) → y ≤ x + t → 0 < gap_at r n
    → (fs : List Frame) → AllApart r fs → Paced arr n E L x y fs
    → share arr one n x y fs ≤ 1 + (t + (L - E)) / gap_at r n
share_count r arr n E L x y t le pos fs a h =
    let less : y - E - (x - L) ≤ t + (L - E) = omega arith in
    omega (
      arith,
      total_le (share_of arr one n x y) (slot_of n (x - L) (suc (y - E))) fs (λ f i. released_of arr n E L x y f (h f i)),
      slot_most r n (x - L) (y - E) pos fs a,
      div_mono (y - E - (x - L)) (t + (L - E)) (gap_at r n) pos less,
    )

-- where v is at most c on the frames of the link, its share is at most c for each
pub share_most : (arr v : Frame → ℕ) (n x y c : ℕ) (fs : List Frame) → ((f : Frame) → In f fs → n ≡ f.link → v f ≤ c)
    → share arr v n x y fs ≤ share arr one n x y fs * c
share_most arr v n x y c [] h = omega arith
share_most arr v n x y c (f ∷ fs) h =
    let i = share_most arr v n x y c fs (λ g j. h g (inr j)) in
    elim (cases_Bool (eqb n f.link)) [
      | inr other ↦ grind (arith, nat_tests)
      | inl of-link ↦
          let le = h f (inl refl) (eqb-true n f.link of-link) in
          grind (arith, nat_tests)
    ]

abbrev pub come_of : (Frame → ℕ) → (Frame → ℕ) → ℕ → ℕ → ℕ → List Hop → Frame → ℕ
come_of arr v p x y hs f =
    cond (some (λ (h : Hop). eqb h.link f.link && eqb h.port p) hs && between arr x y f) (v f) 0

abbrev pub come : (Frame → ℕ) → (Frame → ℕ) → ℕ → ℕ → ℕ → List Hop → List Frame → ℕ
come arr v p x y hs fs = total (come_of arr v p x y hs) fs

-- a hop at the port brings its link's share
pub come_more : (arr v : Frame → ℕ) (p x y : ℕ) (h : Hop) (hs : List Hop) (fs : List Frame)
    → come arr v p x y (h ∷ hs) fs ≤ cond (eqb h.port p) (share arr v h.link x y fs) 0 + come arr v p x y hs fs
come_more arr v p x y h hs [] = omega arith
come_more arr v p x y h hs (f ∷ fs) = let i = come_more arr v p x y h hs fs in grind (arith, nat_tests)

-- and what arrives at a port is the share of its hops
pub come_most : (arr v : Frame → ℕ) (p x y : ℕ) (hs : List Hop) (fs : List Frame)
    → come arr v p x y hs fs ≤ total (λ (h : Hop). share arr v h.link x y fs) (filter (λ (h : Hop). eqb h.port p) hs)
come_most arr v p x y [] fs = omega (arith, total_none (come_of arr v p x y []) fs (λ f i. refl))
come_most arr v p x y (h ∷ hs) fs =
    let i = come_most arr v p x y hs fs in
    let m = come_more arr v p x y h hs fs in
    omega (arith, total_kept (λ (h : Hop). share arr v h.link x y fs) (λ (h : Hop). eqb h.port p) h hs)
