-- Keys: what the lists of well-formed records hold, found by their keys.
--
--   after_of hs l p    what the hop of link l at port p comes after, or none where there is no such hop
use Rattle.std.proofs.Common.{◌≡◌, ℕ, Bool, true, false, cond, ◌&&◌, eqb, ◌⊎◌, List, [], ◌∷◌, map, Some, None, Option, sym, refl, ap, ◌∙◌, subst, inl, inr, arith}
use Rattle.std.proofs.lemmas.Bool.{both_ways, and_parts, and_from, eqb-true, eq-eqb}
use Rattle.std.proofs.lemmas.Bool.Decides.{nat_tests}
use Rattle.std.specs.List.{AllByRecursion}
use Rattle.definitions.specs.declared.network.Hop.{Hop}
use Rattle.definitions.specs.Lists.{In, ascending}
use Rattle.definitions.specs.Network.{Records, WellFormed, Step, first, next, hop_before, Feeds, direct, through}
use Rattle.definitions.specs.WorkingOut.{PortOf}
use Rattle.theory.proofs.Variants.{some_same, no_some}
use Rattle.theory.proofs.Lookups.{one_of_key}

-- ## Lists

-- two functions that agree on the items of a list have the same map of it
pub map_same : {X Y : Type 0} (f g : X → Y) (xs : List X) → ((x : X) → In x xs → f x ≡ g x) → map f xs ≡ map g xs
map_same f g [] h = refl
map_same f g (x ∷ xs) h = rw (h x (inl refl), map_same f g xs (λ y i. h y (inr i)))

-- what holds of each item's image holds of all of the map
pub all_map_in : {X Y : Type 0} (P : Y → Type 0) (f : X → Y) (xs : List X) → ((x : X) → In x xs → P (f x)) → AllByRecursion P (map f xs)
all_map_in P f [] h = tt
all_map_in P f (x ∷ xs) h = (h x (inl refl), all_map_in P f xs (λ y i. h y (inr i)))

-- ## Looking up

-- a hop is not before one of its own link and port
same_key : (h k : Hop) → h.link ≡ k.link → h.port ≡ k.port → hop_before h k ≡ false
same_key h k e f = grind (arith, nat_tests)

-- two hops of one link at one port are the same
pub one_hop : (hs : List Hop) → ascending hop_before hs ≡ true → (h k : Hop) → In h hs → In k hs → h.link ≡ k.link → h.port ≡ k.port → h ≡ k
one_hop hs asc h k i j e f =
    one_of_key hop_before hs asc h k i j (same_key h k e f) (same_key k h (sym e) (sym f))

abbrev pub after_of : List Hop → ℕ → ℕ → Option ℕ
after_of [] l p = None
after_of (h ∷ hs) l p = cond (eqb h.link l && eqb h.port p) h.after (after_of hs l p)

-- the answer is that of a hop of this link and port
after_of_some : (hs : List Hop) (h : Hop) → In h hs
    → (k : Hop) × In k hs × (k.link ≡ h.link) × (k.port ≡ h.port) × (after_of hs h.link h.port ≡ k.after)
after_of_some [] h i = absurd i
after_of_some (g ∷ hs) h i = go i (eqb g.link h.link && eqb g.port h.port) refl (λ j. after_of_some hs h j)
  where
    go : (h ≡ g) ⊎ In h hs → (b : Bool) → (eqb g.link h.link && eqb g.port h.port) ≡ b
        → (In h hs → (k : Hop) × In k hs × (k.link ≡ h.link) × (k.port ≡ h.port) × (after_of hs h.link h.port ≡ k.after))
        → (k : Hop) × ((k ≡ g) ⊎ In k hs) × (k.link ≡ h.link) × (k.port ≡ h.port)
        × (cond (eqb g.link h.link && eqb g.port h.port) g.after (after_of hs h.link h.port) ≡ k.after)
    go s true t later =
        let (a, b) = and_parts (eqb g.link h.link) (eqb g.port h.port) t in
        (g, inl refl, eqb-true g.link h.link a, eqb-true g.port h.port b, rw t)
    go (inl s) false t later =
        let a = eq-eqb g.link h.link (ap (λ (x : Hop). x.link) (sym s)) in
        let b = eq-eqb g.port h.port (ap (λ (x : Hop). x.port) (sym s)) in
        absurd (both_ways _ t (and_from (eqb g.link h.link) (eqb g.port h.port) a b))
    go (inr j) false t later =
        let (k, m, e, f, a) = later j in
        (k, inr m, e, f, rw t a)

-- a hop is found by its link and port
pub after_of_in : (hs : List Hop) → ascending hop_before hs ≡ true → (h : Hop) → In h hs → after_of hs h.link h.port ≡ h.after
after_of_in hs asc h i =
    let (k, j, e, f, a) = after_of_some hs h i in
    a ∙ ap (λ (x : Hop). x.after) (one_hop hs asc k h j i e f)

-- ## Well-formed records

-- a hop some steps after the first comes after a hop of its link
before_in_step : (r : Records) (h : Hop) (n : ℕ) → Step r h n → (q : ℕ) → h.after ≡ Some q
    → (k : Hop) × In k r.hops × (k.link ≡ h.link) × (k.port ≡ q)
before_in_step r h n (first e) q a = no_some (sym a ∙ e)
before_in_step r h n (next {k = k} p s) q a =
    (k, p.there, p.same_link, some_same k.port q (sym p.before ∙ a))

-- where a hop comes after a port, its link has a hop there
pub before_hop : (r : Records) → WellFormed r → (h : Hop) → In h r.hops → (q : ℕ) → h.after ≡ Some q
    → (k : Hop) × In k r.hops × (k.link ≡ h.link) × (k.port ≡ q)
before_hop r wf h i q a =
    let (n, s) = (wf.hops_kept h i).stepped in
    before_in_step r h n s q a

-- the port of a hop is one of the records
pub hop_port : (r : Records) → WellFormed r → (h : Hop) → In h r.hops → PortOf r h.port
hop_port r wf h i =
    let (p, j, e, s) = (wf.hops_kept h i).port_known in
    (p, j, e)

-- and so is the port that it comes after
pub after_port : (r : Records) → WellFormed r → (h : Hop) → In h r.hops → (q : ℕ) → h.after ≡ Some q → PortOf r q
after_port r wf h i q a =
    let (k, j, e, f) = before_hop r wf h i q a in
    subst (PortOf r) f (hop_port r wf k j)

-- a port that feeds another is one of the records
pub feeder_known : (r : Records) → WellFormed r → {q p : ℕ} → Feeds r q p → PortOf r q
feeder_known r wf (direct {q = q} n) = after_port r wf n.hop n.there q n.after
feeder_known r wf (through a b) = feeder_known r wf a
