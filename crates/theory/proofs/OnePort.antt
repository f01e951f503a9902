-- OnePort: a port that serves frames in the order of their arrival and is never idle while it holds one.
-- Only what arrives in a window counts here: nothing is said of links, loads or figures.
--
--   Queue X            what a port does with frames of the type X: which pass, when each arrives and starts, how long each takes
--   done q f           when the frame f has left
--   left q a m fs      what remains at the moment m of the frames that arrived by a
--   work q x m fs      what arrives from x to m
--   Served q fs        the frames of the list are served as said above
use Rattle.std.proofs.Common.{◌≡◌, ℕ, zero, suc, ◌+◌, ◌-◌, ◌<◌, ◌≤◌, min, Bool, true, cond, ◌&&◌, leb, ◌⊎◌, List, [], ◌∷◌, refl, ap, inl, inr, arith}
use native.Mathlib.Decide.{dec_le}
use Rattle.std.proofs.lemmas.Bool.{cases_Bool, cases_lt}
use Rattle.std.proofs.lemmas.Bool.Decides.{nat_tests}
use Rattle.definitions.specs.Lists.{In, total}

pub record Queue (X : Type 0) : Type 0 where
  pub passing : X → Bool
  pub arrival : X → ℕ
  pub start : X → ℕ
  pub occupancy : X → ℕ

abbrev pub done : {X : Type 0} → Queue X → X → ℕ
done q f = q.start f + q.occupancy f

abbrev pub left_of : {X : Type 0} → Queue X → ℕ → ℕ → X → ℕ
left_of q a m f = cond (q.passing f && leb (q.arrival f) a) (min (q.occupancy f) (done q f - m)) 0

abbrev pub left : {X : Type 0} → Queue X → ℕ → ℕ → List X → ℕ
left q a m fs = total (left_of q a m) fs

abbrev pub work_of : {X : Type 0} → Queue X → ℕ → ℕ → X → ℕ
work_of q x m f = cond (q.passing f && (leb x (q.arrival f) && leb (q.arrival f) m)) (q.occupancy f) 0

abbrev pub work : {X : Type 0} → Queue X → ℕ → ℕ → List X → ℕ
work q x m fs = total (work_of q x m) fs

-- the port holds f at m
pub record Holds {X : Type 0} (q : Queue X) (f : X) (m : ℕ) : Type 0 where
  pub passes : q.passing f ≡ true
  pub arrived : q.arrival f ≤ m
  pub not_gone : m < done q f

pub record Served {X : Type 0} (q : Queue X) (fs : List X) : Type 0 where
  pub in_turn : (f g : X) → In f fs → In g fs → q.passing f ≡ true → q.passing g ≡ true
      → q.arrival f < q.arrival g → q.start f < q.start g
  pub never_idle : (f : X) → In f fs → (m : ℕ) → Holds q f m
      → (g : X) × In g fs × Holds q g m × (q.start g ≤ m)

-- no more is left later
pub falls : {X : Type 0} (q : Queue X) (a m : ℕ) (fs : List X) → left q a (suc m) fs ≤ left q a m fs
falls q a m [] = omega arith
falls q a m (f ∷ fs) = let i = falls q a m fs in grind (arith, nat_tests)

-- one less, where one of the frames is on the wire
pub serves : {X : Type 0} (q : Queue X) (a m : ℕ) (fs : List X) (g : X) → In g fs
    → q.passing g ≡ true → q.arrival g ≤ a → q.start g ≤ m → m < done q g
    → left q a (suc m) fs + 1 ≤ left q a m fs
serves q a m [] g i p ar st dn = absurd i
serves q a m (f ∷ fs) g (inl e) p ar st dn =
    let i = falls q a m fs in
    rw (← e) (grind (arith, nat_tests))
serves q a m (f ∷ fs) g (inr j) p ar st dn =
    let i = serves q a m fs g j p ar st dn in
    grind (arith, nat_tests)

-- what arrives at the next moment joins
pub joins : {X : Type 0} (q : Queue X) (m : ℕ) (fs : List X) → left q (suc m) (suc m) fs ≤ left q m (suc m) fs + work q (suc m) (suc m) fs
joins q m [] = omega arith
joins q m (f ∷ fs) = let i = joins q m fs in grind (arith, nat_tests)

-- a window that ends one moment later brings what arrives then
pub work_more : {X : Type 0} (q : Queue X) (x m : ℕ) → x ≤ m → (fs : List X)
    → work q x m fs + work q (suc m) (suc m) fs ≤ work q x (suc m) fs
work_more q x m le [] = omega arith
work_more q x m le (f ∷ fs) = let i = work_more q x m le fs in grind (arith, nat_tests)

-- at moment 0 there is only what arrives then
pub begins : {X : Type 0} (q : Queue X) (fs : List X) → left q 0 0 fs ≤ work q 0 0 fs
begins q [] = omega arith
begins q (f ∷ fs) = let i = begins q fs in grind (arith, nat_tests)

-- nothing is left, or some frame is held
pub some_left : {X : Type 0} (q : Queue X) (m : ℕ) (fs : List X)
    → (left q m m fs ≡ 0) ⊎ ((f : X) × In f fs × Holds q f m)
some_left q m [] = inl refl
some_left q m (f ∷ fs) =
    elim (cases_Bool (q.passing f)) [
      | inr no-pass ↦ elim (some_left q m fs) [
        | inl z ↦ inl (grind (arith, nat_tests))
        | inr (g, i, h) ↦ inr (g, inr i, h)
      ]
      | inl pass ↦ elim (cases_lt m (q.arrival f)) [
        | inl early ↦ elim (some_left q m fs) [
          | inl z ↦ inl (grind (arith, nat_tests))
          | inr (g, i, h) ↦ inr (g, inr i, h)
        ]
        | inr came ↦ elim (cases_lt m (done q f)) [
          | inl on ↦ inr (f, inl refl, record { passes = pass; arrived = came; not_gone = on })
          | inr gone ↦ elim (some_left q m fs) [
            | inl z ↦ inl (grind (arith, nat_tests))
            | inr (g, i, h) ↦ inr (g, inr i, h)
          ]
        ]
      ]
    ]

-- the port has been busy since some moment x: what is left and the time since then came from x on
pub busy_since : {X : Type 0} (q : Queue X) (fs : List X) → Served q fs → (m : ℕ)
    → (x : ℕ) × (x ≤ m) × (left q m m fs + (m - x) ≤ work q x m fs)
busy_since q fs s zero = (0, omega arith, omega (arith, begins q fs))
busy_since q fs s (suc m) =
    elim (some_left q m fs) [
      | inl z ↦ (suc m, omega arith, omega (arith, falls q m m fs, joins q m fs))
      | inr (f, i, h) ↦
          let (g, j, k, st) = s.never_idle f i m h in
          let (x, le, since) = busy_since q fs s m in
          let one = serves q m m fs g j k.passes k.arrived st k.not_gone in
          (x, omega arith, omega (arith, one, joins q m fs, work_more q x m le fs))
    ]

-- every window that ends at m brings at most w above its length
abbrev pub Brings : {X : Type 0} → Queue X → List X → ℕ → ℕ → Type 0
Brings q fs w m = (x : ℕ) → x ≤ m → work q x m fs ≤ w + (m - x)

-- then no more than w is left at m
pub left_most : {X : Type 0} (q : Queue X) (fs : List X) → Served q fs → (w m : ℕ) → Brings q fs w m → left q m m fs ≤ w
left_most q fs s w m b =
    let (x, le, since) = busy_since q fs s m in
    omega (arith, b x le)

-- while f is held, what came no later than f drains: whatever came after f starts after f
pub drains_one : {X : Type 0} (q : Queue X) (fs : List X) → Served q fs → (f : X) → In f fs → (m : ℕ) → Holds q f m
    → left q (q.arrival f) (suc m) fs + 1 ≤ left q (q.arrival f) m fs
drains_one q fs s f i m h =
    let (g, j, k, st) = s.never_idle f i m h in
    elim (cases_lt (q.arrival f) (q.arrival g)) [
      | inl later ↦
          let first = s.in_turn f g i j h.passes k.passes later in
          serves q (q.arrival f) m fs f i h.passes (omega arith) (omega arith) h.not_gone
      | inr before ↦ serves q (q.arrival f) m fs g j k.passes before st k.not_gone
    ]

-- by one at each moment
pub drains : {X : Type 0} (q : Queue X) (fs : List X) → Served q fs → (f : X) → In f fs → q.passing f ≡ true
    → (k m : ℕ) → m ≡ q.arrival f + k → m ≤ done q f
    → left q (q.arrival f) m fs + k ≤ left q (q.arrival f) (q.arrival f) fs
drains q fs s f i p zero m e le =
    let same : m ≡ q.arrival f = omega arith in
    omega (arith, ap (λ n. left q (q.arrival f) n fs) same)
drains q fs s f i p (suc k) m e le =
    let n = q.arrival f + k in
    let next : m ≡ suc n = omega arith in
    let h : Holds q f n = record { passes = p; arrived = omega arith; not_gone = omega arith } in
    omega (
      arith,
      ap (λ o. left q (q.arrival f) o fs) next,
      drains_one q fs s f i n h,
      drains q fs s f i p k n refl (omega arith),
    )

-- then a frame that arrives at m leaves by m + w
pub leaves_by : {X : Type 0} (q : Queue X) (fs : List X) → Served q fs → (w : ℕ) (f : X) → In f fs → q.passing f ≡ true
    → Brings q fs w (q.arrival f) → done q f ≤ q.arrival f + w
leaves_by q fs s w f i p b =
    elim (dec_le (done q f) (q.arrival f + w)) [
      | yes soon ↦ soon
      | no late ↦ absurd (omega (
        arith,
        left_most q fs s w (q.arrival f) b,
        drains q fs s f i p (suc w) (q.arrival f + suc w) refl (omega arith),
      ))
    ]
