-- Orders: the orders of keys, and the order in which hops are written.
--
--   later a b c d e f      a, b, c come before d, e, f: by the first number, then the second, then the third
use Rattle.std.proofs.Common.{◌≡◌, ℕ, zero, suc, ◌<◌, ◌≤◌, Bool, true, false, ◌&&◌, ◌||◌, eqb, ltb, ◌⊎◌, List, [], ◌∷◌, length, Some, None, Option, sym, refl, ap, ◌∙◌, subst, inl, inr, arith}
use native.Mathlib.Decide.{dec_le}
use Rattle.std.proofs.lemmas.Bool.{cases_order, lt-ltb, eq-eqb, and_from, or_left, or_right}
use Rattle.std.proofs.lemmas.Bool.Decides.{nat_tests}
use Rattle.definitions.specs.declared.network.Hop.{Hop}
use Rattle.definitions.specs.Lists.{In}
use Rattle.definitions.specs.Network.{Records, Precedes, Step, port_before, link_before, hop_before}
use Rattle.definitions.specs.Text.{find_hop, steps_before, step_of, written_before}
use Rattle.theory.proofs.Variants.{none_some, some_same}
use Rattle.theory.proofs.Sorting.{Strict, Ascends, counted}

-- ## Strict orders

-- ports by number
pub port_strict : Strict port_before
port_strict = record {
  never_itself = λ p. grind (arith, nat_tests);
  through = λ p q o h k. grind (arith, nat_tests);
}

-- links by number
pub link_strict : Strict link_before
link_strict = record {
  never_itself = λ l. grind (arith, nat_tests);
  through = λ l m n h k. grind (arith, nat_tests);
}

-- hops by link and port
pub hop_strict : Strict hop_before
hop_strict = record {
  never_itself = λ h. grind (arith, nat_tests);
  through = λ h k m i j. grind (arith, nat_tests);
}

abbrev pub later : ℕ → ℕ → ℕ → ℕ → ℕ → ℕ → Bool
later a b c d e f = ltb a d || (eqb a d && (ltb b e || (eqb b e && ltb c f)))

-- three numbers do not come before themselves
later_never : (a b c : ℕ) → later a b c a b c ≡ false
later_never a b c = grind (arith, nat_tests)

-- what comes before what comes before
later_through : (a b c d e f g h i : ℕ) → later a b c d e f ≡ true → later d e f g h i ≡ true → later a b c g h i ≡ true
later_through a b c d e f g h i p q = grind (arith, nat_tests)

-- three numbers that differ in the first or third compare
later_compares : (a b c d e f : ℕ) → (a ≡ d → c ≡ f → ⊥) → (later a b c d e f ≡ true) ⊎ (later d e f a b c ≡ true)
later_compares a b c d e f n =
    elim (cases_order a d) [
      | inl p ↦ elim (cases_order b e) [
        | inl q ↦ elim (cases_order c f) [
          | inl o ↦ absurd (n p o)
          | inr o ↦ elim o [ inl u ↦ inl (grind (arith, nat_tests)) | inr u ↦ inr (grind (arith, nat_tests)) ]
        ]
        | inr q ↦ elim q [ inl u ↦ inl (grind (arith, nat_tests)) | inr u ↦ inr (grind (arith, nat_tests)) ]
      ]
      | inr p ↦ elim p [ inl u ↦ inl (grind (arith, nat_tests)) | inr u ↦ inr (grind (arith, nat_tests)) ]
    ]

-- hops by link, step and port
pub written_strict : (hs : List Hop) → Strict (written_before hs)
written_strict hs = record {
  never_itself = λ h. later_never h.link (step_of hs h) h.port;
  through = λ h k m. later_through h.link (step_of hs h) h.port k.link (step_of hs k) k.port m.link (step_of hs m) m.port;
}

-- hops that compare by key compare as they are written
pub written_compares : (hs : List Hop) (h k : Hop) → hop_before h k ≡ true → (written_before hs h k ≡ true) ⊎ (written_before hs k h ≡ true)
written_compares hs h k b =
    later_compares h.link (step_of hs h) h.port k.link (step_of hs k) k.port (λ e f. let z : ◌≡◌ {A = ℕ} 0 1 = grind (arith, nat_tests) in omega arith)

-- ## Steps

-- the hop of a key is found
pub find_hop_is : (hs : List Hop) → Ascends hop_before hs → (k h : Hop) → In k hs → k.link ≡ h.link → find_hop hs h k.port ≡ k
find_hop_is [] a k h i same = absurd i
find_hop_is (y ∷ ys) a k h (inl e) same =
    let t : (eqb y.link h.link && eqb y.port k.port) ≡ true =
    and_from _ _ (eq-eqb y.link h.link (ap (λ (m : Hop). m.link) (sym e) ∙ same)) (eq-eqb y.port k.port (ap (λ (m : Hop). m.port) (sym e))) in
    rw t (sym e)
find_hop_is (y ∷ ys) a k h (inr i) same =
    let b = a.0 k i in
    let t : (eqb y.link h.link && eqb y.port k.port) ≡ false = grind (arith, nat_tests) in
    rw t (find_hop_is ys a.1 k h i same)

-- one step back is counted at a hop that comes after another
steps_next : (hs : List Hop) (m : ℕ) (h : Hop) (q : ℕ) → h.after ≡ Some q → steps_before hs (suc m) h ≡ suc (steps_before hs m (find_hop hs h q))
steps_next hs m h q e =
    ap (λ (o : Option ℕ). elim o as (λ _. ℕ) [ None ↦ 0 | Some p ↦ suc (steps_before hs m (find_hop hs h p)) ]) e

-- counting as far as the step comes to it
pub step_counts : (r : Records) → Ascends hop_before r.hops → {h : Hop} {n : ℕ} → Step r h n → (m : ℕ) → n ≤ m → steps_before r.hops m h ≡ n
step_counts r a (Step.first {h} e) zero le = refl
step_counts r a (Step.first {h} e) (suc m) le = rw e
step_counts r a (Step.next {k} {h} {n} p s) zero le = absurd (omega arith)
step_counts r a (Step.next {k} {h} {n} p s) (suc m) le =
    steps_next r.hops m h k.port p.before
    ∙ ap suc (ap (steps_before r.hops m) (find_hop_is r.hops a k h p.there p.same_link) ∙ step_counts r a s m (omega arith))

-- each step up to that of a hop is that of some hop
chain : (r : Records) → {h : Hop} {n : ℕ} → Step r h n → In h r.hops → (i : ℕ) → i ≤ n → (k : Hop) × In k r.hops × Step r k i
chain r (Step.first {h} e) there i le = let z : 0 ≡ i = omega arith in (h, there, subst (Step r h) z (Step.first e))
chain r (Step.next {k} {h} {n} p s) there i le =
    elim (dec_le i n) [
      | yes less ↦ chain r s p.there i less
      | no past ↦ let z : suc n ≡ i = omega arith in (h, there, subst (Step r h) z (Step.next p s))
    ]

-- there are more hops than a step
pub step_bound : (r : Records) → Ascends hop_before r.hops → (h : Hop) (n : ℕ) → Step r h n → In h r.hops → n < length r.hops
step_bound r a h n s there =
    counted (steps_before r.hops n) (suc n) r.hops
    (λ i lt. let (k, j, t) = chain r s there i (omega arith) in (k, j, step_counts r a t n (omega arith)))

-- the count is the step
pub step_is : (r : Records) → Ascends hop_before r.hops → (h : Hop) (n : ℕ) → Step r h n → In h r.hops → step_of r.hops h ≡ n
step_is r a h n s there = step_counts r a s (length r.hops) (omega (arith, step_bound r a h n s there))

-- the hop before a hop
pub before_step : (r : Records) → {h : Hop} {n : ℕ} → Step r h n → (q : ℕ) → h.after ≡ Some q
    → (k : Hop) × (m : ℕ) × Precedes r k h × Step r k m × (n ≡ suc m) × (k.port ≡ q)
before_step r (Step.first {h} e) q some = absurd (none_some q (sym e ∙ some))
before_step r (Step.next {k} {h} {n = m} p s) q some = (k, m, p, s, refl, some_same k.port q (sym p.before ∙ some))

-- is written before it
pub written_after : (r : Records) → Ascends hop_before r.hops → (h : Hop) (n : ℕ) → In h r.hops → Step r h n → (q : ℕ) → h.after ≡ Some q
    → (k : Hop) × In k r.hops × (k.link ≡ h.link) × (k.port ≡ q) × (written_before r.hops k h ≡ true)
written_after r a h n there s q some =
    let (k, m, p, t, e, o) = before_step r s q some in
    let x = step_is r a h n s there in
    let y = step_is r a k m t p.there in
    let less : step_of r.hops k < step_of r.hops h = omega arith in
    (k, p.there, p.same_link, o, or_right _ _ (and_from _ _ (eq-eqb k.link h.link p.same_link) (or_left _ _ (lt-ltb (step_of r.hops k) (step_of r.hops h) less))))
