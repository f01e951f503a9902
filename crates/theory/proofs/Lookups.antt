-- Lookups: what is found under a number is the record of that number.
use Rattle.std.proofs.Common.{◌≡◌, ℕ, Bool, true, false, eqb, ltb, ◌⊎◌, List, [], ◌∷◌, sym, refl, ap, ◌∙◌, inl, inr, arith}
use Rattle.std.proofs.lemmas.Bool.{and_parts, cond_both, eqb-true, eqb-false, le-ltb, both_ways}
use Rattle.definitions.specs.declared.network.Port.{Port}
use Rattle.definitions.specs.declared.network.VirtualLink.{VirtualLink}
use Rattle.definitions.specs.Lists.{In, find, every, ascending}
use Rattle.definitions.specs.Network.{find_port, find_link}

-- a test that every item passes is passed by each
pub in_every : {X : Type 0} (test : X → Bool) (xs : List X) → every test xs ≡ true → (x : X) → In x xs → test x ≡ true
in_every test [] h x i = absurd i
in_every test (y ∷ ys) h x (inl e) = ap test e ∙ (and_parts (test y) (every test ys) h).0
in_every test (y ∷ ys) h x (inr i) = in_every test ys (and_parts (test y) (every test ys) h).1 x i

-- of two items of an ascending list, one comes before the other unless they are the same
pub one_of_key : {X : Type 0} (lt : X → X → Bool) (xs : List X) → ascending lt xs ≡ true
    → (x y : X) → In x xs → In y xs → lt x y ≡ false → lt y x ≡ false → x ≡ y
one_of_key lt [] h x y i j a b = absurd i
one_of_key lt (z ∷ zs) h x y (inl e) (inl f) a b = e ∙ sym f
one_of_key lt (z ∷ zs) h x y (inl e) (inr j) a b =
    let later = in_every (lt z) zs (and_parts (every (lt z) zs) (ascending lt zs) h).0 y j in
    absurd (both_ways (lt x y) a (ap (λ w. lt w y) e ∙ later))
one_of_key lt (z ∷ zs) h x y (inr i) (inl f) a b =
    let later = in_every (lt z) zs (and_parts (every (lt z) zs) (ascending lt zs) h).0 x i in
    absurd (both_ways (lt y x) b (ap (λ w. lt w x) f ∙ later))
one_of_key lt (z ∷ zs) h x y (inr i) (inr j) a b =
    one_of_key lt zs (and_parts (every (lt z) zs) (ascending lt zs) h).1 x y i j a b

module _ {X : Type 0} (key : X → ℕ) (none : X) where
  -- where some item has the key, what is found is one of the list and has it
  pub find_known : (xs : List X) (n : ℕ) (x : X) → In x xs → key x ≡ n → In (find key none xs n) xs × (key (find key none xs n) ≡ n)
  find_known [] n x i e = absurd i
  find_known (y ∷ ys) n x (inl s) e =
      cond_both (eqb (key y) n) y (find key none ys n) (λ (z : X). ((z ≡ y) ⊎ In z ys) × (key z ≡ n))
      (λ t. (inl refl, eqb-true (key y) n t)) (λ f. absurd (eqb-false (key y) n f (ap key (sym s) ∙ e)))
  find_known (y ∷ ys) n x (inr j) e =
      let (k, m) = find_known ys n x j e in
      cond_both (eqb (key y) n) y (find key none ys n) (λ (z : X). ((z ≡ y) ⊎ In z ys) × (key z ≡ n))
      (λ t. (inl refl, eqb-true (key y) n t)) (λ f. (inr k, m))

  -- an item of an ascending list is what its key finds
  pub find_in : (xs : List X) → ascending (λ (a b : X). ltb (key a) (key b)) xs ≡ true → (x : X) → In x xs → find key none xs (key x) ≡ x
  find_in xs up x i =
      let (j, e) = find_known xs (key x) x i refl in
      let y = find key none xs (key x) in
      one_of_key (λ (a b : X). ltb (key a) (key b)) xs up y x j i (le-ltb (key y) (key x) (omega arith)) (le-ltb (key x) (key y) (omega arith))

-- where some link has the number, what is found is one of the list and has it
pub find_link_known : (ls : List VirtualLink) (n : ℕ) (l : VirtualLink) → In l ls → l.number ≡ n
    → In (find_link ls n) ls × ((find_link ls n).number ≡ n)
find_link_known = find_known (λ (l : VirtualLink). l.number) _

-- and of ports
pub find_port_known : (ps : List Port) (n : ℕ) (p : Port) → In p ps → p.number ≡ n
    → In (find_port ps n) ps × ((find_port ps n).number ≡ n)
find_port_known = find_known (λ (p : Port). p.number) _
