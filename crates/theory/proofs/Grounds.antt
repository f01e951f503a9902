-- Grounds: what is written for a well-formed book meets no ground when it is entered in that order.
--
--   with_ports, with_links, with_hops     the records as far as each section is read
use Rattle.std.proofs.Common.{◌≡◌, ℕ, ◌<◌, ◌≤◌, min, Bool, true, false, cond, ◌&&◌, ◌||◌, eqb, ◌⊎◌, List, [], ◌∷◌, length, Some, None, Option, sym, refl, ap, ◌∙◌, inl, inr, arith}
use Rattle.std.proofs.lemmas.Bool.{both_ways, cond-false, and_from, eq-eqb, eqb-true, lt-leb, not_from_true}
use Rattle.std.proofs.lemmas.Bool.Decides.{nat_tests}
use Rattle.definitions.specs.declared.network.Port.{Port}
use Rattle.definitions.specs.declared.network.VirtualLink.{VirtualLink}
use Rattle.definitions.specs.declared.network.Hop.{Hop}
use Rattle.definitions.specs.declared.refusals.Refusal.{Refusal}
use Rattle.definitions.specs.Lists.{In}
use Rattle.definitions.specs.Network.{Records, WellFormed, find_port, port_before, link_before, hop_before, suits, bags, most_ports, most_links, most_hops}
use Rattle.definitions.specs.Entries.{Places, port_entry, link_entry, hop_entry, entry_ground, has_port, has_link, has_hop, has_first_hop, has_hop_before, begins, rate_known, gap_known, lengths_kept, full}
use Rattle.definitions.specs.Text.{written_before}
use Rattle.definitions.specs.Promises.{Room}
use Rattle.theory.proofs.Members.{in_some}
use Rattle.theory.proofs.Sorting.{Ascends, ascends, not_both, some_none}
use Rattle.theory.proofs.Orders.{written_strict, written_after}
use Rattle.theory.proofs.Entering.{Filling, filling_apart}

-- only ports
abbrev pub with_ports : List Port → Records
with_ports ps = record { ports = ps; links = []; hops = [] }

-- the ports of r, and links
abbrev pub with_links : Records → List VirtualLink → Records
with_links r ls = record { ports = r.ports; links = ls; hops = [] }

-- the ports and links of r, and hops
abbrev pub with_hops : Records → List Hop → Records
with_hops r hs = record { ports = r.ports; links = r.links; hops = hs }

-- a test that does not hold is passed over
passed : (b : Bool) (g : Refusal) (o : Option Refusal) → b ≡ false → o ≡ None → cond b (Some g) o ≡ None
passed b g o e k = cond-false b (Some g) o e ∙ k

-- a table with room is not full
room_left : (n room most all : ℕ) → n < all → all ≤ min room most → full n room most ≡ false
room_left n room most all lt le = lt-leb (min room most) n (omega arith)

-- ## Ports

-- the next port meets no ground
pub port_meets_none : (r : Records) → WellFormed r → (pl : Places) → Room pl r → (got rest : List Port) (p : Port)
    → Filling port_before port_before r.ports got (p ∷ rest) → entry_ground pl (with_ports got) (port_entry p) ≡ None
port_meets_none r w pl room got rest p f =
    let kept = w.ports_kept p (f.rest_known p (inl refl)) in
    let known : rate_known p ≡ true = rated p.rate kept.rate_known in
    let new : has_port (with_ports got) p.number ≡ false =
    some_none (λ (q : Port). eqb q.number p.number) got (λ q i. let b = f.apart q p i (inl refl) in grind (arith, nat_tests)) in
    passed _ _ _ (not_from_true _ known)
    (passed _ _ _ new
    (passed _ _ _ (room_left (length got) pl.ports most_ports (length r.ports) (omega (arith, f.count)) room.ports_fit) refl))
  where
    rated : (n : ℕ) → (n ≡ 10) ⊎ (n ≡ 100) → (eqb n 10 || eqb n 100) ≡ true
    rated n (inl e) = grind (arith, nat_tests)
    rated n (inr e) = grind (arith, nat_tests)

-- ## Links

-- the next link meets no ground
pub link_meets_none : (r : Records) → WellFormed r → (pl : Places) → Room pl r → (got rest : List VirtualLink) (l : VirtualLink)
    → Filling link_before link_before r.links got (l ∷ rest) → entry_ground pl (with_links r got) (link_entry l) ≡ None
link_meets_none r w pl room got rest l f =
    let kept = w.links_kept l (f.rest_known l (inl refl)) in
    let known : gap_known l ≡ true = in_some (eqb l.gap) bags l.gap kept.gap_known (eq-eqb l.gap l.gap refl) in
    let long : lengths_kept l ≡ true =
    let a = kept.lengths.shortest_least in
    let b = kept.lengths.in_order in
    let c = kept.lengths.longest_most in
    grind (arith, nat_tests) in
    let new : has_link (with_links r got) l.number ≡ false =
    some_none (λ (m : VirtualLink). eqb m.number l.number) got (λ m i. let b = f.apart m l i (inl refl) in grind (arith, nat_tests)) in
    passed _ _ _ (not_from_true _ known)
    (passed _ _ _ (not_from_true _ long)
    (passed _ _ _ new
    (passed _ _ _ (room_left (length got) pl.links most_links (length r.links) (omega (arith, f.count)) room.links_fit) refl)))

-- ## Hops

-- the port of a number is found
pub find_port_is : (ps : List Port) → Ascends port_before ps → (p : Port) → In p ps → find_port ps p.number ≡ p
find_port_is [] a p i = absurd i
find_port_is (q ∷ qs) a p (inl e) =
    rw (eq-eqb q.number p.number (ap (λ (o : Port). o.number) (sym e))) (sym e)
find_port_is (q ∷ qs) a p (inr i) =
    let b = a.0 p i in
    let t : eqb q.number p.number ≡ false = grind (arith, nat_tests) in
    rw t (find_port_is qs a.1 p i)

-- a hop begins its link where it comes after none
begins_tells : (h : Hop) → begins h ≡ true → h.after ≡ None
begins_tells h = go h.after refl
  where
    go : (o : Option ℕ) → h.after ≡ o → elim o as (λ _. Bool) [ None ↦ true | Some q ↦ false ] ≡ true → h.after ≡ None
    go None e t = e
    go (Some q) e t = absurd (both_ways false refl t)

module _ (r : Records) (w : WellFormed r) (got rest : List Hop) (h : Hop) (f : Filling hop_before (written_before r.hops) r.hops got (h ∷ rest)) where
  -- the hop stands among the records
  there : In h r.hops
  there = f.rest_known h (inl refl)

  -- its link is entered
  hop_link : has_link (with_hops r got) h.link ≡ true
  hop_link =
      let (l, i, e) = (w.hops_kept h there).link_known in
      in_some (λ (m : VirtualLink). eqb m.number h.link) r.links l i (eq-eqb l.number h.link e)

  -- its port is entered
  hop_port : has_port (with_hops r got) h.port ≡ true
  hop_port =
      let (p, i, e, s) = (w.hops_kept h there).port_known in
      in_some (λ (q : Port). eqb q.number h.port) r.ports p i (eq-eqb p.number h.port e)

  -- and suits it
  hop_suits : suits (find_port r.ports h.port).kind h.after ≡ true
  hop_suits =
      let (p, i, e, s) = (w.hops_kept h there).port_known in
      let found : find_port r.ports h.port ≡ p = ap (find_port r.ports) (sym e) ∙ find_port_is r.ports (ascends port_before r.ports w.ports_ascend) p i in
      ap (λ (q : Port). suits q.kind h.after) found ∙ s

  -- its key is not entered
  hop_new : has_hop (with_hops r got) h.link h.port ≡ false
  hop_new =
      some_none (λ (k : Hop). eqb k.link h.link && eqb k.port h.port) got
      (λ k i. differ k (filling_apart hop_before (written_before r.hops) (written_strict r.hops) r.hops (ascends hop_before r.hops w.hops_ascend) got rest h f k i))
    where
      differ : (k : Hop) → (hop_before h k ≡ true) ⊎ (hop_before k h ≡ true) → (eqb k.link h.link && eqb k.port h.port) ≡ false
      differ k (inl b) = grind (arith, nat_tests)
      differ k (inr b) = grind (arith, nat_tests)

  -- no hop that is entered is this one
  hop_other : (k : Hop) → In k got → k ≡ h → ⊥
  hop_other k i e =
      both_ways (written_before r.hops h h) ((written_strict r.hops).never_itself h)
      (ap (λ (m : Hop). written_before r.hops m h) (sym e) ∙ f.apart k h i (inl refl))

  -- its link has no other first hop
  hop_first : (begins h && has_first_hop (with_hops r got) h.link) ≡ false
  hop_first = go (begins h) refl
    where
      alone : h.after ≡ None → (k : Hop) → In k got → (t : Bool) → eqb k.link h.link ≡ t → (b : Bool) → begins k ≡ b → (t && b) ≡ false
      alone e k i true same true begun =
          absurd (hop_other k i ((w.hops_kept h there).one_first k (f.got_known k i) (eqb-true k.link h.link same) (begins_tells k begun) e))
      alone e k i true same false begun = refl
      alone e k i false same b begun = refl

      go : (t : Bool) → begins h ≡ t → (t && has_first_hop (with_hops r got) h.link) ≡ false
      go true e =
          some_none (λ (k : Hop). eqb k.link h.link && begins k) got
          (λ k i. alone (begins_tells h e) k i (eqb k.link h.link) refl (begins k) refl)
      go false e = refl

  -- the hop before it is entered
  hop_follows : has_hop_before (with_hops r got) h ≡ true
  hop_follows = go h.after refl
    where
      earlier : (k : Hop) → written_before r.hops k h ≡ true → In k got ⊎ In k (h ∷ rest) → In k got
      earlier k b (inl i) = i
      earlier k b (inr (inl e)) =
          absurd (both_ways (written_before r.hops h h) ((written_strict r.hops).never_itself h) (ap (λ (m : Hop). written_before r.hops m h) (sym e) ∙ b))
      earlier k b (inr (inr j)) = absurd (not_both (written_before r.hops) (written_strict r.hops) k h b (f.onward.0 k j))

      go : (o : Option ℕ) → h.after ≡ o → elim o as (λ _. Bool) [ None ↦ true | Some q ↦ has_hop (with_hops r got) h.link q ] ≡ true
      go None e = refl
      go (Some q) e =
          let (n, s) = (w.hops_kept h there).stepped in
          let (k, i, same, at, b) = written_after r (ascends hop_before r.hops w.hops_ascend) h n there s q e in
          in_some (λ (m : Hop). eqb m.link h.link && eqb m.port q) got k (earlier k b (f.none_lost k i))
          (and_from _ _ (eq-eqb k.link h.link same) (eq-eqb k.port q at))

  -- the next hop meets no ground
  pub hop_meets_none : (pl : Places) → Room pl r → entry_ground pl (with_hops r got) (hop_entry h) ≡ None
  hop_meets_none pl room =
      passed _ _ _ (not_from_true _ hop_link)
      (passed _ _ _ (not_from_true _ hop_port)
      (passed _ _ _ hop_new
      (passed _ _ _ (not_from_true _ hop_suits)
      (passed _ _ _ hop_first
      (passed _ _ _ (not_from_true _ hop_follows)
      (passed _ _ _ (room_left (length got) pl.hops most_hops (length r.hops) (omega (arith, f.count)) room.hops_fit) refl))))))
