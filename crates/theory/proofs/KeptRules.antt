-- Entering a record that meets no ground, and removing a link with its hops, keep the rules of the records.
use Rattle.std.proofs.Common.{◌≡◌, ℕ, suc, ◌+◌, ◌≤◌, min, Bool, true, false, cond, not, ◌&&◌, eqb, leb, ◌⊎◌, List, [], ◌∷◌, length, Some, None, Option, sym, refl, ap, ◌∙◌, subst, inl, inr, arith}
use Rattle.std.specs.List.{AllByRecursion}
use Rattle.std.proofs.lemmas.Bool.Decides.{nat_tests}
use Rattle.std.proofs.lemmas.Bool.{and_parts, and_from, and_cases, or_cases, both_ways, not-false, eqb-true, eq-eqb, leb-true, leb-false}
use Rattle.definitions.specs.declared.network.Port.{Port}
use Rattle.definitions.specs.declared.network.VirtualLink.{VirtualLink}
use Rattle.definitions.specs.declared.network.Hop.{Hop}
use Rattle.definitions.specs.declared.refusals.Refusal.{Refusal}
use Rattle.definitions.specs.Lists.{In, some}
use Rattle.definitions.specs.Network.{Records, find_port, port_before, link_before, hop_before, bags, suits, PortKept, LinkKept, HopKept, Step, first, next, WellFormed, most_ports, most_links, most_hops}
use Rattle.definitions.specs.Entries.{Places, Entry, port_entry, link_entry, hop_entry, first_met, port_grounds, link_grounds, hop_grounds, entry_ground, entered, removed, no_records, rate_known, gap_known, lengths_kept, has_port, has_link, has_hop, has_first_hop, has_hop_before, begins, full}
use Rattle.definitions.specs.Calls.{Fits, enter}
use Rattle.definitions.specs.Promises.{Room}
use Rattle.theory.proofs.Members.{in_some, some_in, in_kept, kept_in}
use Rattle.theory.proofs.Lookups.{find_port_known}
use Rattle.theory.proofs.Sorting.{placed_tells, placed_from, length_placed}
use Rattle.theory.proofs.Placed.{none_passes, placed_ascends, kept_ascends, length_kept}

-- ## The orders of keys

ports_carry : (a b c : Port) → port_before a b ≡ true → port_before b c ≡ true → port_before a c ≡ true
ports_carry a b c h k = grind (arith, nat_tests)

links_carry : (a b c : VirtualLink) → link_before a b ≡ true → link_before b c ≡ true → link_before a c ≡ true
links_carry a b c h k = grind (arith, nat_tests)

hops_carry : (a b c : Hop) → hop_before a b ≡ true → hop_before b c ≡ true → hop_before a c ≡ true
hops_carry a b c h k = grind (arith, nat_tests)

port_after : (p q : Port) → eqb q.number p.number ≡ false → port_before p q ≡ false → port_before q p ≡ true
port_after p q h k = grind (arith, nat_tests)

link_after : (p q : VirtualLink) → eqb q.number p.number ≡ false → link_before p q ≡ false → link_before q p ≡ true
link_after p q h k = grind (arith, nat_tests)

hop_after : (h k : Hop) → (eqb k.link h.link && eqb k.port h.port) ≡ false → hop_before h k ≡ false → hop_before k h ≡ true
hop_after h k a b = grind (arith, nat_tests)

-- ## Grounds that are not met

pub none_met : (gs : List (Bool × Refusal)) → first_met gs ≡ None → AllByRecursion (λ (g : Bool × Refusal). g.0 ≡ false) gs
none_met [] h = tt
none_met (g ∷ gs) h = elim g.0 as (λ b. g.0 ≡ b → cond b (Some g.1) (first_met gs) ≡ None → (g.0 ≡ false) × AllByRecursion (λ (g : Bool × Refusal). g.0 ≡ false) gs) [
  | true ↦ λ e k. let z : ◌≡◌ {A = ℕ} 0 1 = cc in absurd (omega arith)
  | false ↦ λ e k. (e, none_met gs k)
] refl h

-- a table that is not full takes one more
not_full : (n room most : ℕ) → full n room most ≡ false → n + 1 ≤ min room most
not_full n room most h = omega (arith, leb-false (min room most) n h)

-- ## Steps of hops

-- hops keep their steps where none is lost
step_grows : (r s : Records) → ((k : Hop) → In k r.hops → In k s.hops) → (h : Hop) (n : ℕ) → Step r h n → Step s h n
step_grows r s g h n (first e) = first e
step_grows r s g h n (next p st) = next (record { there = g _ p.there; same_link = p.same_link; before = p.before }) (step_grows r s g _ _ st)

-- ## Tests that hold

bag_in : (g : ℕ) (bs : List ℕ) → some (eqb g) bs ≡ true → In g bs
bag_in g [] h = absurd (both_ways false refl h)
bag_in g (b ∷ bs) h = elim (or_cases (eqb g b) (some (eqb g) bs) h) [
  | inl e ↦ inl (eqb-true g b e)
  | inr e ↦ inr (bag_in g bs e)
]

rate_in : (p : Port) → rate_known p ≡ true → (p.rate ≡ 10) ⊎ (p.rate ≡ 100)
rate_in p h = elim (or_cases (eqb p.rate 10) (eqb p.rate 100) h) [
  | inl e ↦ inl (eqb-true p.rate 10 e)
  | inr e ↦ inr (eqb-true p.rate 100 e)
]

-- ## A port more

-- a hop keeps its rules where no record is lost and the hops stay
hop_kept_more : (r s : Records) → s.hops ≡ r.hops
    → ((p : Port) → In p r.ports → In p s.ports) → ((l : VirtualLink) → In l r.links → In l s.links)
    → (h : Hop) → HopKept r h → HopKept s h
hop_kept_more r s e ps ls h k = record {
  link_known = (k.link_known.0, ls _ k.link_known.1, k.link_known.2);
  port_known = (k.port_known.0, ps _ k.port_known.1, k.port_known.2, k.port_known.3);
  stepped = (k.stepped.0, step_grows r s (λ j i. subst (λ hs. In j hs) (sym e) i) h k.stepped.0 k.stepped.1);
  one_first = λ j i. k.one_first j (subst (λ hs. In j hs) e i);
}

port_entered : (pl : Places) (r : Records) (p : Port) → WellFormed r → p.number ≤ 255 → entry_ground pl r (port_entry p) ≡ None
    → WellFormed (entered r (port_entry p)) × (length r.ports + 1 ≤ min pl.ports most_ports)
port_entered pl r p w small g =
    let n = none_met (port_grounds pl r p) g in (
      record {
        ports_ascend = placed_ascends port_before p ports_carry r.ports
            (λ q i. port_after p q (none_passes (λ (x : Port). eqb x.number p.number) r.ports n.1.0 q i)) w.ports_ascend;
        links_ascend = w.links_ascend;
        hops_ascend = w.hops_ascend;
        ports_kept = λ q i. elim (placed_tells port_before p r.ports q i) [
          | inl e ↦ subst PortKept (sym e) record { number_most = small; rate_known = rate_in p (not-false (rate_known p) n.0) }
          | inr j ↦ w.ports_kept q j
        ];
        links_kept = w.links_kept;
        hops_kept = λ h i. hop_kept_more r (entered r (port_entry p)) refl (λ q j. placed_from port_before p r.ports q (inr j)) (λ l j. j) h (w.hops_kept h i);
      },
      not_full (length r.ports) pl.ports most_ports n.1.1.0,
    )

-- ## A link more

link_entered : (pl : Places) (r : Records) (l : VirtualLink) → WellFormed r → l.number ≤ 65535 → entry_ground pl r (link_entry l) ≡ None
    → WellFormed (entered r (link_entry l)) × (length r.links + 1 ≤ min pl.links most_links)
link_entered pl r l w small g =
    let n = none_met (link_grounds pl r l) g in
    let lengths = and_parts (leb 64 l.shortest) (leb l.shortest l.longest && leb l.longest 1518) (not-false (lengths_kept l) n.1.0) in
    let more = and_parts (leb l.shortest l.longest) (leb l.longest 1518) lengths.1 in (
      record {
        ports_ascend = w.ports_ascend;
        links_ascend = placed_ascends link_before l links_carry r.links
            (λ m i. link_after l m (none_passes (λ (x : VirtualLink). eqb x.number l.number) r.links n.1.1.0 m i)) w.links_ascend;
        hops_ascend = w.hops_ascend;
        ports_kept = w.ports_kept;
        links_kept = λ m i. elim (placed_tells link_before l r.links m i) [
          | inl e ↦ subst LinkKept (sym e) record {
            number_most = small;
            gap_known = bag_in l.gap bags (not-false (gap_known l) n.0);
            lengths = record {
              shortest_least = leb-true 64 l.shortest lengths.0;
              in_order = leb-true l.shortest l.longest more.0;
              longest_most = leb-true l.longest 1518 more.1;
            };
          }
          | inr j ↦ w.links_kept m j
        ];
        hops_kept = λ h i. hop_kept_more r (entered r (link_entry l)) refl (λ q j. j) (λ m j. placed_from link_before l r.links m (inr j)) h (w.hops_kept h i);
      },
      not_full (length r.links) pl.links most_links n.1.1.1.0,
    )

-- ## A hop more

is_none : (h : Hop) → begins h ≡ true → h.after ≡ None
is_none h = elim h.after as (λ o. elim o as (λ _. Bool) [ None ↦ true | Some q ↦ false ] ≡ true → o ≡ None) [
  | None ↦ λ e. refl
  | Some q ↦ λ e. absurd (both_ways false refl e)
]

begins_from : (h : Hop) → h.after ≡ None → begins h ≡ true
begins_from h e = ap (λ (o : Option ℕ). elim o as (λ _. Bool) [ None ↦ true | Some q ↦ false ]) e

-- the hop that a hop comes after is there, so it has a step
new_step : (r s : Records) (h : Hop) → WellFormed r → ((k : Hop) → In k r.hops → In k s.hops) → has_hop_before r h ≡ true → (n : ℕ) × Step s h n
new_step r s h w g = go h.after refl
  where
    go : (o : Option ℕ) → h.after ≡ o → elim o as (λ _. Bool) [ None ↦ true | Some q ↦ has_hop r h.link q ] ≡ true → (n : ℕ) × Step s h n
    go None e t = (0, first e)
    go (Some q) e t =
        let k = some_in (λ (k : Hop). eqb k.link h.link && eqb k.port q) r.hops t in
        let both = and_parts (eqb k.0.link h.link) (eqb k.0.port q) k.2 in
        let st = (w.hops_kept k.0 k.1).stepped in (
          suc st.0,
          next (record {
            there = g k.0 k.1;
            same_link = eqb-true k.0.link h.link both.0;
            before = e ∙ ap (λ (x : ℕ). Some x) (sym (eqb-true k.0.port q both.1));
          })
              (step_grows r s g k.0 st.0 st.1),
        )

hop_entered : (pl : Places) (r : Records) (h : Hop) → WellFormed r → entry_ground pl r (hop_entry h) ≡ None
    → WellFormed (entered r (hop_entry h)) × (length r.hops + 1 ≤ min pl.hops most_hops)
hop_entered pl r h w g =
    let n = none_met (hop_grounds pl r h) g in
    let s = entered r (hop_entry h) in
    let link = some_in (λ (l : VirtualLink). eqb l.number h.link) r.links (not-false (has_link r h.link) n.0) in
    let there = some_in (λ (p : Port). eqb p.number h.port) r.ports (not-false (has_port r h.port) n.1.0) in
    let port = find_port_known r.ports h.port there.0 there.1 (eqb-true there.0.number h.port there.2) in
    let old : (k : Hop) → In k r.hops → In k s.hops = λ k i. placed_from hop_before h r.hops k (inr i) in
    -- a first hop of the link would have been a second one
    let alone : (k : Hop) → In k r.hops → k.link ≡ h.link → k.after ≡ None → h.after ≡ None → ⊥ = λ k i l a b.
    elim (and_cases (begins h) (has_first_hop r h.link) n.1.1.1.1.0) [
      | inl e ↦ both_ways (begins h) e (begins_from h b)
      | inr e ↦ both_ways (has_first_hop r h.link) e
          (in_some (λ (x : Hop). eqb x.link h.link && begins x) r.hops k i (and_from (eqb k.link h.link) (begins k) (eq-eqb k.link h.link l) (begins_from k a)))
    ] in (
      record {
        ports_ascend = w.ports_ascend;
        links_ascend = w.links_ascend;
        hops_ascend = placed_ascends hop_before h hops_carry r.hops
            (λ k i. hop_after h k (none_passes (λ (x : Hop). eqb x.link h.link && eqb x.port h.port) r.hops n.1.1.0 k i)) w.hops_ascend;
        ports_kept = w.ports_kept;
        links_kept = w.links_kept;
        hops_kept = λ k i. elim (placed_tells hop_before h r.hops k i) [
          | inl e ↦ subst (HopKept s) (sym e) record {
            link_known = (link.0, link.1, eqb-true link.0.number h.link link.2);
            port_known = (find_port r.ports h.port, port.0, port.1, not-false (suits (find_port r.ports h.port).kind h.after) n.1.1.1.0);
            stepped = new_step r s h w old (not-false (has_hop_before r h) n.1.1.1.1.1.0);
            one_first = λ j t l a b. elim (placed_tells hop_before h r.hops j t) [
              | inl e ↦ e
              | inr u ↦ absurd (alone j u l a b)
            ];
          }
          | inr j ↦
              let kept = w.hops_kept k j in
              record {
                link_known = kept.link_known;
                port_known = kept.port_known;
                stepped = (kept.stepped.0, step_grows r s old k kept.stepped.0 kept.stepped.1);
                one_first = λ x t l a b. elim (placed_tells hop_before h r.hops x t) [
                  | inl e ↦ absurd (alone k j (sym l ∙ ap (λ (y : Hop). y.link) e) b (ap (λ (y : Hop). y.after) (sym e) ∙ a))
                  | inr u ↦ kept.one_first x u l a b
                ];
              }
        ];
      },
      not_full (length r.hops) pl.hops most_hops n.1.1.1.1.1.1.0,
    )

-- an entry that meets no ground keeps the rules, and the tables have the places
pub entry_kept : (pl : Places) (r : Records) (e : Entry) → WellFormed r → Fits (enter e) → entry_ground pl r e ≡ None → WellFormed (entered r e)
entry_kept pl r (port_entry p) w f g = (port_entered pl r p w f g).0
entry_kept pl r (link_entry l) w f g = (link_entered pl r l w f g).0
entry_kept pl r (hop_entry h) w f g = (hop_entered pl r h w g).0

-- ## A link less

-- hops of another link keep their steps
step_kept : (r : Records) (l : ℕ) (h : Hop) (n : ℕ) → Step r h n → not (eqb h.link l) ≡ true → Step (removed r l) h n
step_kept r l h n (first e) k = first e
step_kept r l h n (next {k = j} p st) k =
    let same : not (eqb j.link l) ≡ true = ap (λ (x : ℕ). not (eqb x l)) p.same_link ∙ k in
    next (record {
      there = in_kept (λ (x : Hop). not (eqb x.link l)) r.hops j p.there same;
      same_link = p.same_link;
      before = p.before;
    }) (step_kept r l j _ st same)

pub removal_kept : (r : Records) (l : ℕ) → WellFormed r → WellFormed (removed r l)
removal_kept r l w = record {
  ports_ascend = w.ports_ascend;
  links_ascend = kept_ascends link_before (λ (m : VirtualLink). not (eqb m.number l)) r.links w.links_ascend;
  hops_ascend = kept_ascends hop_before (λ (h : Hop). not (eqb h.link l)) r.hops w.hops_ascend;
  ports_kept = w.ports_kept;
  links_kept = λ m i. w.links_kept m (kept_in (λ (m : VirtualLink). not (eqb m.number l)) r.links m i).0;
  hops_kept = λ h i.
      let (i', other) = kept_in (λ (h : Hop). not (eqb h.link l)) r.hops h i in
      let k = w.hops_kept h i' in
      record {
        link_known = (
          k.link_known.0,
          in_kept (λ (m : VirtualLink). not (eqb m.number l)) r.links k.link_known.0 k.link_known.1
              (ap (λ (x : ℕ). not (eqb x l)) k.link_known.2 ∙ other),
          k.link_known.2,
        );
        port_known = k.port_known;
        stepped = (k.stepped.0, step_kept r l h k.stepped.0 k.stepped.1 other);
        one_first = λ j t. k.one_first j (kept_in (λ (h : Hop). not (eqb h.link l)) r.hops j t).0;
      };
}

pub empty_kept : WellFormed no_records
empty_kept = record {
  ports_ascend = refl;
  links_ascend = refl;
  hops_ascend = refl;
  ports_kept = λ p i. absurd i;
  links_kept = λ l i. absurd i;
  hops_kept = λ h i. absurd i;
}

-- ## The tables have the places

pub entry_fits : (pl : Places) (r : Records) (e : Entry) → WellFormed r → Fits (enter e) → Room pl r → entry_ground pl r e ≡ None → Room pl (entered r e)
entry_fits pl r (port_entry p) w f t g = record {
  ports_fit = omega (arith, length_placed port_before p r.ports, (port_entered pl r p w f g).1);
  links_fit = t.links_fit;
  hops_fit = t.hops_fit;
}
entry_fits pl r (link_entry l) w f t g = record {
  ports_fit = t.ports_fit;
  links_fit = omega (arith, length_placed link_before l r.links, (link_entered pl r l w f g).1);
  hops_fit = t.hops_fit;
}
entry_fits pl r (hop_entry h) w f t g = record {
  ports_fit = t.ports_fit;
  links_fit = t.links_fit;
  hops_fit = omega (arith, length_placed hop_before h r.hops, (hop_entered pl r h w g).1);
}

pub removal_fits : (pl : Places) (r : Records) (l : ℕ) → Room pl r → Room pl (removed r l)
removal_fits pl r l t = record {
  ports_fit = t.ports_fit;
  links_fit = omega (arith, t.links_fit, length_kept (λ (m : VirtualLink). not (eqb m.number l)) r.links);
  hops_fit = omega (arith, t.hops_fit, length_kept (λ (h : Hop). not (eqb h.link l)) r.hops);
}

pub empty_fits : (pl : Places) → Room pl no_records
empty_fits pl = record { ports_fit = omega arith; links_fit = omega arith; hops_fit = omega arith }
