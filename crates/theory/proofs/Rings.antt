-- Rings: whether one port feeds another is decided, and the lowest port of which a decided claim holds is found.
--
--   Through R a x q p    from q to a, where a hop leads to x, and from x to p; R leads on, or nothing is left to go
--   Via hs q p           q feeds p by hops of the list
use Rattle.std.proofs.Common.{◌≡◌, ℕ, ◌≤◌, ◌⊎◌, List, [], ◌∷◌, Some, None, Option, sym, refl, ap, ◌∙◌, subst, inl, inr, arith}
use native.Mathlib.Decide.{ℕ_discrete, map_dec, dec_le}
use Rattle.definitions.specs.declared.network.Port.{Port}
use Rattle.definitions.specs.declared.network.Hop.{Hop}
use Rattle.definitions.specs.Lists.{In}
use Rattle.definitions.specs.Network.{Records, Feeds, direct, through, InRing}
use Rattle.definitions.specs.WorkingOut.{NoPort, Lowest}
use Rattle.definitions.specs.Promises.{ARingIsToldExactly}

-- ## Decisions

-- of two decided claims, whether one holds
pub dec_or : {X Y : Type 0} → Dec X → Dec Y → Dec (X ⊎ Y)
dec_or (yes x) y = yes (inl x)
dec_or (no f) (yes y) = yes (inr y)
dec_or (no f) (no g) = no (elim [ inl x ↦ f x | inr y ↦ g y ])

-- whether both hold
pub dec_and : {X Y : Type 0} → Dec X → Dec Y → Dec (X × Y)
dec_and (yes x) (yes y) = yes (x, y)
dec_and (yes x) (no g) = no (λ p. g p.1)
dec_and (no f) y = no (λ p. f p.0)

-- whether one does not
pub dec_not : {X : Type 0} → Dec X → Dec (¬ X)
dec_not (yes x) = no (λ f. f x)
dec_not (no f) = yes f

-- whether a claim holds of some item of a list
pub dec_some : {X : Type 0} (P : X → Type 0) → ((x : X) → Dec (P x)) → (xs : List X) → Dec ((x : X) × In x xs × P x)
dec_some P d [] = no (λ f. f.1)
dec_some {X} P d (x ∷ xs) = go (d x) (dec_some P d xs)
  where
    go : Dec (P x) → Dec ((y : X) × In y xs × P y) → Dec ((y : X) × ((y ≡ x) ⊎ In y xs) × P y)
    go (yes h) m = yes (x, inl refl, h)
    go (no f) (yes m) = yes (m.0, inr m.1, m.2)
    go (no f) (no g) = no (λ m. elim m.1 [ inl e ↦ f (subst P e m.2) | inr i ↦ g (m.0, i, m.2) ])

-- whether it holds of none
pub dec_none : {X : Type 0} (P : X → Type 0) → ((x : X) → Dec (P x)) → (xs : List X) → Dec ((x : X) → In x xs → ¬ P x)
dec_none P d xs = map_dec (λ f x i h. f (x, i, h)) (λ f m. f m.0 m.1 m.2) (dec_not (dec_some P d xs))

-- ## Feeding

abbrev pub Through : (ℕ → ℕ → Type 0) → Option ℕ → ℕ → ℕ → ℕ → Type 0
Through R None x q p = ⊥
Through R (Some a) x q p = ((q ≡ a) ⊎ R q a) × ((x ≡ p) ⊎ R x p)

abbrev pub Via : List Hop → ℕ → ℕ → Type 0
Via [] q p = ⊥
Via (h ∷ hs) q p = Via hs q p ⊎ Through (Via hs) h.after h.port q p

-- a way through one hop is decided where the rest is
dec_through : (R : ℕ → ℕ → Type 0) → ((q p : ℕ) → Dec (R q p)) → (o : Option ℕ) (x q p : ℕ) → Dec (Through R o x q p)
dec_through R d None x q p = no (λ f. f)
dec_through R d (Some a) x q p = dec_and (dec_or (ℕ_discrete q a) (d q a)) (dec_or (ℕ_discrete x p) (d x p))

-- feeding by hops of a list is decided
dec_via : (hs : List Hop) (q p : ℕ) → Dec (Via hs q p)
dec_via [] q p = no (λ f. f)
dec_via (h ∷ hs) q p = dec_or (dec_via hs q p) (dec_through (Via hs) (dec_via hs) h.after h.port q p)

-- a way that may be empty, and one that is not
then : (R : ℕ → ℕ → Type 0) → ((q m p : ℕ) → R q m → R m p → R q p) → (q m p : ℕ) → R q m → (m ≡ p) ⊎ R m p → R q p
then R t q m p a (inl e) = subst (R q) e a
then R t q m p a (inr b) = t q m p a b

-- a way that is not empty, and one that may be
since : (R : ℕ → ℕ → Type 0) → ((q m p : ℕ) → R q m → R m p → R q p) → (q m p : ℕ) → (q ≡ m) ⊎ R q m → R m p → R q p
since R t q m p (inl e) b = subst (λ x. R x p) (sym e) b
since R t q m p (inr a) b = t q m p a b

-- two ways by one hop more make one
join : (R : ℕ → ℕ → Type 0) → ((q m p : ℕ) → R q m → R m p → R q p) → (o : Option ℕ) (x q m p : ℕ)
    → R q m ⊎ Through R o x q m → R m p ⊎ Through R o x m p → R q p ⊎ Through R o x q p
join R t o x q m p (inl a) (inl b) = inl (t q m p a b)
join R t None x q m p (inl a) (inr b) = absurd b
join R t (Some s) x q m p (inl a) (inr b) = inr (inr (then R t q m s a b.0), b.1)
join R t None x q m p (inr a) (inl b) = absurd a
join R t (Some s) x q m p (inr a) (inl b) = inr (a.0, inr (since R t x m p a.1 b))
join R t None x q m p (inr a) (inr b) = absurd a
join R t (Some s) x q m p (inr a) (inr b) = inr (a.0, b.1)

-- feeding by hops of a list goes on
via_goes_on : (hs : List Hop) (q m p : ℕ) → Via hs q m → Via hs m p → Via hs q p
via_goes_on [] q m p a b = absurd a
via_goes_on (h ∷ hs) q m p a b = join (Via hs) (via_goes_on hs) h.after h.port q m p a b

-- a hop feeds its port
via_hop : (hs : List Hop) (h : Hop) → In h hs → (q p : ℕ) → h.port ≡ p → h.after ≡ Some q → Via hs q p
via_hop [] h i q p at a = absurd i
via_hop (g ∷ hs) h (inl e) q p at a =
    let b : g.after ≡ Some q = ap (λ (x : Hop). x.after) (sym e) ∙ a in
    let s : g.port ≡ p = ap (λ (x : Hop). x.port) (sym e) ∙ at in
    inr (subst (λ (o : Option ℕ). Through (Via hs) o g.port q p) (sym b) (inl refl, inl s))
via_hop (g ∷ hs) h (inr i) q p at a = inl (via_hop hs h i q p at a)

-- what feeds, feeds by hops of the records
feeds_via : (r : Records) {q p : ℕ} → Feeds r q p → Via r.hops q p
feeds_via r (direct {q = q} {p = p} n) = via_hop r.hops n.hop n.there q p n.at n.after
feeds_via r (through {q = q} {m = m} {p = p} a b) = via_goes_on r.hops q m p (feeds_via r a) (feeds_via r b)

-- a way through a hop of the records feeds
through_feeds : (r : Records) (R : ℕ → ℕ → Type 0) → ((q p : ℕ) → R q p → Feeds r q p) → (h : Hop) → In h r.hops
    → (o : Option ℕ) → h.after ≡ o → (q p : ℕ) → Through R o h.port q p → Feeds r q p
through_feeds r R f h i None e q p t = absurd t
through_feeds r R f h i (Some a) e q p t =
    let one : Feeds r a h.port = direct (record { hop = h; there = i; at = refl; after = e }) in
    let goes_on = λ (x y z : ℕ) (b : Feeds r x y) (c : Feeds r y z). through b c in
    let start : (q ≡ a) ⊎ Feeds r q a = elim t.0 [ inl s ↦ inl s | inr s ↦ inr (f q a s) ] in
    let end : (h.port ≡ p) ⊎ Feeds r h.port p = elim t.1 [ inl s ↦ inl s | inr s ↦ inr (f h.port p s) ] in
    then (Feeds r) goes_on q h.port p (since (Feeds r) goes_on q a h.port start one) end

-- and the other way round
via_feeds : (r : Records) (hs : List Hop) → ((h : Hop) → In h hs → In h r.hops) → (q p : ℕ) → Via hs q p → Feeds r q p
via_feeds r [] within q p v = absurd v
via_feeds r (h ∷ hs) within q p (inl v) = via_feeds r hs (λ g i. within g (inr i)) q p v
via_feeds r (h ∷ hs) within q p (inr t) =
    through_feeds r (Via hs) (via_feeds r hs (λ g i. within g (inr i))) h (within h (inl refl)) h.after refl q p t

-- whether one port feeds another is decided
pub dec_feeds : (r : Records) (q p : ℕ) → Dec (Feeds r q p)
dec_feeds r q p = map_dec (via_feeds r r.hops (λ h i. i) q p) (feeds_via r) (dec_via r.hops q p)

-- ## The lowest port

-- a claim of no port of a list
abbrev NoneIn : (ℕ → Type 0) → List Port → Type 0
NoneIn P ps = (p : Port) → In p ps → ¬ P p.number

-- a port of which it holds, and the lowest such
abbrev LowestIn : (ℕ → Type 0) → List Port → Type 0
LowestIn P ps = (p : Port) × In p ps × P p.number × ((q : Port) → In q ps → P q.number → p.number ≤ q.number)

-- one port more
lowest_more : (P : ℕ → Type 0) (x : Port) (xs : List Port) → Dec (P x.number) → NoneIn P xs ⊎ LowestIn P xs
    → NoneIn P (x ∷ xs) ⊎ LowestIn P (x ∷ xs)
lowest_more P x xs (no f) (inl none) =
    inl (λ p i h. elim i [ inl e ↦ f (subst (λ (y : Port). P y.number) e h) | inr j ↦ none p j h ])
lowest_more P x xs (no f) (inr m) =
    inr (
      m.0,
      inr m.1,
      m.2,
      λ q j k. elim j [
        | inl e ↦ absurd (f (subst (λ (y : Port). P y.number) e k))
        | inr i ↦ m.3 q i k
      ],
    )
lowest_more P x xs (yes h) (inl none) =
    inr (
      x,
      inl refl,
      h,
      λ q j k. elim j [
        | inl e ↦ omega (arith, ap (λ (y : Port). y.number) e)
        | inr i ↦ absurd (none q i k)
      ],
    )
lowest_more P x xs (yes h) (inr m) =
    elim (dec_le x.number m.0.number) [
      | yes under ↦ inr (
        x,
        inl refl,
        h,
        λ q j k. elim j [
          | inl e ↦ omega (arith, ap (λ (y : Port). y.number) e)
          | inr i ↦ omega (arith, m.3 q i k)
        ],
      )
      | no over ↦ inr (
        m.0,
        inr m.1,
        m.2,
        λ q j k. elim j [
          | inl e ↦ omega (arith, ap (λ (y : Port). y.number) e)
          | inr i ↦ m.3 q i k
        ],
      )
    ]

-- of the ports of a list, the lowest of which a decided claim holds
lowest_in : (P : ℕ → Type 0) → ((n : ℕ) → Dec (P n)) → (ps : List Port) → NoneIn P ps ⊎ LowestIn P ps
lowest_in P d [] = inl (λ p i. absurd i)
lowest_in P d (x ∷ xs) = lowest_more P x xs (d x.number) (lowest_in P d xs)

-- a decided claim holds of no port of the records, or of a lowest one
pub lowest_or_none : (r : Records) (P : ℕ → Type 0) → ((n : ℕ) → Dec (P n)) → NoPort r P ⊎ ((p : ℕ) × Lowest r P p)
lowest_or_none r P d =
    elim (lowest_in P d r.ports) [
      | inl none ↦ inl none
      | inr m ↦ inr (m.0.number, record { there = (m.0, m.1, refl); holds = m.2; least = m.3 })
    ]

-- a ring is told exactly when some port feeds itself
pub a_ring_is_told_exactly : ARingIsToldExactly
a_ring_is_told_exactly r wf worth n room carried = (
  λ told.
      let low = told.1.2 in
      (low.there.0, low.there.1, subst (InRing r) (sym low.there.2) low.holds),
  λ found.
      elim (lowest_or_none r (InRing r) (λ p. dec_feeds r p p)) [
        | inl none ↦ absurd (none found.0 found.1 found.2)
        | inr m ↦ (m.0, (room, carried, m.1))
      ],
)
