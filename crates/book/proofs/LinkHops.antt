-- The hops of one link stand together: what stands before them and after them is of other links.
use Rattle.std.proofs.Common.{◌≡◌, ℕ, zero, suc, ◌+◌, ◌-◌, ◌<◌, ◌≤◌, Bool, true, false, not, ◌&&◌, ◌||◌, eqb, List, [], ◌∷◌, ◌++◌, map, length, get_or, take, drop, None, Ok, Err, filter, sym, refl, ap, ◌∙◌, inl, inr, add-one, arith, length-take}
use Rattle.std.specs.List.{AllByRecursion}
use Rattle.std.proofs.lemmas.Bool.Decides.{nat_tests}
use Rattle.std.proofs.lemmas.Bool.{eq-eqb, ne_eqb, and_parts, cases_lt, ltb-true}
use Rattle.std.proofs.lemmas.List.{take-append-drop, drop-drop, drop_more, drop_all, get_or-take, get_or-drop, map-append, append-nil}
use Rattle.std.proofs.ByRecursion.{All-weaker, All-drop, All-from_get_or}
use Rattle.definitions.specs.declared.network.VirtualLink.{VirtualLink}
use Rattle.definitions.specs.declared.network.Hop.{Hop}
use Rattle.definitions.specs.declared.refusals.Refusal.TheVariants.{LinkUnknown}
use Rattle.definitions.specs.Lists.{every, some, ascending}
use Rattle.definitions.specs.Entries.{begins, has_link, has_first_hop, removal_ground, removed}
use Rattle.register.specs.Registers.{rows, room, by_key, RegisterBy, Found, Starts, Removing}
use Rattle.register.proofs.Sorted.{without_ascends, getD_in, none_under as absent_under}
use Rattle.theory.proofs.Members.{all_in}
use Rattle.theory.proofs.Lookups.{in_every}
use Rattle.std.proofs.lemmas.List.Elements.{filter-append}
use Rattle.working_out.specs.declared.rows.LinkRow.{LinkRow}
use Rattle.working_out.specs.declared.rows.HopRow.{HopRow}
use Rattle.book.specs.declared.books.Book.{Book}
use Rattle.working_out.specs.Keys.{number_before, place_before, link_key, hop_key}
use Rattle.working_out.proofs.Under.{numbers_one}
use Rattle.book.specs.Books.{records, Doing}
use Rattle.book.proofs.Adding.{same_records}
use Rattle.book.proofs.Entering.{some_under, none_under, same_places, unchanged}
use Rattle.book.specs.LinkRuns.{RunEnd}

abbrev no_row : HopRow
no_row = record { hop = record { link = 0; port = 0; after = None }; earliest = 0; latest = 0 }

abbrev no_link : LinkRow
no_link = record { link = record { number = 0; gap = 0; shortest = 0; longest = 0 } }

abbrev hop_of : HopRow → Hop
hop_of r = r.hop

-- a key before the link's first possible one is of a smaller link
before_start : (l : ℕ) (r : HopRow) → place_before (hop_key r) (l, 0) ≡ true → r.hop.link < l
before_start l r h = grind (arith, nat_tests)

after_start : (l : ℕ) (r : HopRow) → place_before (hop_key r) (l, 0) ≡ false → l ≤ r.hop.link
after_start l r h = grind (arith, nat_tests)

-- keys that ascend are of links that do not fall
links_rise : (r s : HopRow) → place_before (hop_key r) (hop_key s) ≡ true → r.hop.link ≤ s.hop.link
links_rise r s h = grind (arith, nat_tests)

-- ## Filters and tests over parts

kept_all : {X Y : Type 0} (f : X → Y) (t : Y → Bool) (xs : List X) → AllByRecursion (λ x. t (f x) ≡ true) xs → filter t (map f xs) ≡ map f xs
kept_all f t [] a = refl
kept_all f t (x ∷ xs) a = rw a.0 (ap (λ l. f x ∷ l) (kept_all f t xs a.1))

kept_none : {X Y : Type 0} (f : X → Y) (t : Y → Bool) (xs : List X) → AllByRecursion (λ x. t (f x) ≡ false) xs → filter t (map f xs) ≡ []
kept_none f t [] a = refl
kept_none f t (x ∷ xs) a = rw a.0 (kept_none f t xs a.1)

-- a test of two parts, the first of which is the filter's
some_kept : {X : Type 0} (t u : X → Bool) (xs : List X) → some (λ x. t x && u x) xs ≡ some u (filter t xs)
some_kept t u [] = refl
some_kept t u (x ∷ xs) = grind (arith, some_kept t u xs)

some_map : {X Y : Type 0} (f : X → Y) (t : Y → Bool) (xs : List X) → some t (map f xs) ≡ some (λ x. t (f x)) xs
some_map f t [] = refl
some_map f t (x ∷ xs) = ap (λ b. t (f x) || b) (some_map f t xs)

-- ## The three parts

module _ (rs : List HopRow) (l from to : ℕ) (up : ascending (by_key place_before hop_key) rs ≡ true)
    (st : Starts place_before hop_key rs (l, 0) from) (re : RunEnd rs l from to) where
  abbrev mid : List HopRow
  mid = take (to - from) (drop from rs)

  front_others : AllByRecursion (λ (r : HopRow). ¬ (r.hop.link ≡ l)) (take from rs)
  front_others = All-weaker _ _ (λ r h e. omega (arith, before_start l r h)) _ st.1

  mid_alike : AllByRecursion (λ (r : HopRow). r.hop.link ≡ l) mid
  mid_alike = All-from_get_or (λ (r : HopRow). r.hop.link ≡ l) mid no_row (λ i lt.
      let small : i < to - from = omega (arith, length-take (to - from) (drop from rs)) in
      rw (get_or-take (to - from) (drop from rs) i no_row small, get_or-drop from rs i no_row)
      (re.alike (from + i) no_row (omega arith) (omega (arith, re.in_order))))

  back_is : drop to rs ≡ drop (to - from) (drop from rs)
  back_is =
      let e : from + (to - from) ≡ to = omega (arith, re.in_order) in
      rw (drop-drop (to - from) from rs, e)

  rises : (y : HopRow) (zs : List HopRow) → l < y.hop.link → every (by_key place_before hop_key y) zs ≡ true → AllByRecursion (λ (r : HopRow). ¬ (r.hop.link ≡ l)) zs
  rises y zs lt h = all_in _ zs (λ z i e. omega (arith, links_rise y z (in_every (by_key place_before hop_key y) zs h z i)))

  back_others : AllByRecursion (λ (r : HopRow). ¬ (r.hop.link ≡ l)) (drop to rs)
  back_others = elim (cases_lt to (length rs)) [
    | inl lt ↦
        let e = drop_more rs to no_row lt in
        let asc = rw e at (without_ascends (by_key place_before hop_key) rs 0 to (omega arith) up) in
        let late = rw (← back_is, e) at (All-drop _ (to - from) (drop from rs) st.2) in
        let (first, rest) = and_parts _ _ asc in
        let other = re.stops lt no_row in
        let later = after_start l (get_or rs to no_row) late.0 in
        rw e (other, rises (get_or rs to no_row) (drop (to + 1) rs) (omega arith) first)
    | inr le ↦ rw (drop_all to rs le) tt
  ]

  parts : rs ≡ take from rs ++ (mid ++ drop to rs)
  parts = sym (rw (back_is, take-append-drop (to - from) (drop from rs)) (take-append-drop from rs))

  -- a filter over the hops, part by part
  kept_parts : (t : Hop → Bool) → filter t (map hop_of rs) ≡ filter t (map hop_of (take from rs)) ++ (filter t (map hop_of mid) ++ filter t (map hop_of (drop to rs)))
  kept_parts t = ap (λ x. filter t (map hop_of x)) parts ∙ simp (map-append, filter-append)

  -- the hops of other links are those before and after the run
  pub others_left : filter (λ (h : Hop). not (eqb h.link l)) (map hop_of rs) ≡ map hop_of (take from rs ++ drop to rs)
  others_left =
      let t : Hop → Bool = λ (h : Hop). not (eqb h.link l) in
      let other : (r : HopRow) → ¬ (r.hop.link ≡ l) → not (eqb r.hop.link l) ≡ true = λ r n. ap not (ne_eqb r.hop.link l n) in
      let alike : (r : HopRow) → r.hop.link ≡ l → not (eqb r.hop.link l) ≡ false = λ r e. ap not (eq-eqb r.hop.link l e) in
      kept_parts t
      ∙ rw (
        kept_all hop_of t (take from rs) (All-weaker _ _ other _ front_others),
        kept_none hop_of t mid (All-weaker _ _ alike _ mid_alike),
        kept_all hop_of t (drop to rs) (All-weaker _ _ other _ back_others),
      )
      (sym (map-append hop_of (take from rs) (drop to rs)))

  -- the hops of the link are those of the run
  pub hops_in_run : filter (λ (h : Hop). eqb h.link l) (map hop_of rs) ≡ map hop_of mid
  hops_in_run =
      let t : Hop → Bool = λ (h : Hop). eqb h.link l in
      let other : (r : HopRow) → ¬ (r.hop.link ≡ l) → t (hop_of r) ≡ false = λ r n. ne_eqb r.hop.link l n in
      let alike : (r : HopRow) → r.hop.link ≡ l → t (hop_of r) ≡ true = λ r e. eq-eqb r.hop.link l e in
      kept_parts t
      ∙ rw (
        kept_none hop_of t (take from rs) (All-weaker _ _ other _ front_others),
        kept_all hop_of t mid (All-weaker _ _ alike _ mid_alike),
        kept_none hop_of t (drop to rs) (All-weaker _ _ other _ back_others),
      )
      (append-nil (map hop_of mid))

-- whether a link has a first hop, told by its run
pub first_hop_told : (b : Book) (l from to : ℕ) → Starts place_before hop_key (rows b.hops) (l, 0) from → RunEnd (rows b.hops) l from to
    → has_first_hop (records b) l ≡ some (λ (x : HopRow). begins x.hop) (take (to - from) (drop from (rows b.hops)))
first_hop_told b l from to st re =
    some_kept (λ (h : Hop). eqb h.link l) begins (records b).hops
    ∙ ap (some begins) (hops_in_run (rows b.hops) l from to b.hops.ascends st re)
    ∙ some_map hop_of begins (take (to - from) (drop from (rows b.hops)))

-- ## Removing

-- a run within the table is removed
pub run_gone : {R K : Type 0} (lt : K → K → Bool) (key : R → K) (from to : ℕ) (t u : RegisterBy lt key) (r : Bool) → Removing lt key from to t u r → from ≤ to → to ≤ length (rows t)
    → (room u ≡ room t) × (rows u ≡ take from (rows t) ++ drop to (rows t))
run_gone lt key from to t u true (same, a, b, e) le most = (same, e)
run_gone lt key from to t u false (same, n) le most = absurd (n (le, most))

-- the link at its place is the only one of its number
module _ (l : ℕ) where
  larger : (y : LinkRow) (zs : List LinkRow) → y.link.number ≡ l → every (by_key number_before link_key y) zs ≡ true → AllByRecursion (λ (r : LinkRow). not (eqb r.link.number l) ≡ true) zs
  larger y zs e h = all_in _ zs (λ z i.
      ap not (ne_eqb z.link.number l (λ q. omega (arith, ltb-true y.link.number z.link.number (in_every (by_key number_before link_key y) zs h z i)))))

  one_link_left : (rs : List LinkRow) (i : ℕ) → ascending (by_key number_before link_key) rs ≡ true → i < length rs → ((d : LinkRow) → link_key (get_or rs i d) ≡ l)
      → filter (λ (m : VirtualLink). not (eqb m.number l)) (map (λ (r : LinkRow). r.link) rs) ≡ map (λ (r : LinkRow). r.link) (take i rs ++ drop (suc i) rs)
  one_link_left [] i up lt e = absurd (omega arith)
  one_link_left (y ∷ ys) zero up lt e =
      let (first, rest) = and_parts (every (by_key number_before link_key y) ys) (ascending (by_key number_before link_key) ys) up in
      rw (eq-eqb y.link.number l (e y))
      (kept_all (λ (r : LinkRow). r.link) (λ (m : VirtualLink). not (eqb m.number l)) ys (larger y ys (e y) first))
  one_link_left (y ∷ ys) (suc i) up lt e =
      let (first, rest) = and_parts (every (by_key number_before link_key y) ys) (ascending (by_key number_before link_key) ys) up in
      let less = ltb-true y.link.number (get_or ys i y).link.number (in_every (by_key number_before link_key y) ys first (get_or ys i y) (getD_in ys i y (omega arith))) in
      rw (ne_eqb y.link.number l (λ q. omega (arith, e y)))
      (ap (λ x. y.link ∷ x) (one_link_left ys i rest (omega arith) e))

-- the records after a link was taken with its hops
pub link_taken : (b d : Book) (l place from to : ℕ) (x y : Bool)
    → Found number_before link_key (rows b.links) l (Ok place) → Starts place_before hop_key (rows b.hops) (l, 0) from → RunEnd (rows b.hops) l from to
    → Removing number_before link_key place (place + 1) b.links d.links x → Removing place_before hop_key from to b.hops d.hops y
    → d.ports ≡ b.ports → d.standing ≡ false
    → Doing (removal_ground (records b) l) (removed (records b) l) b d (Ok tt)
link_taken b d l place from to x y found st re links hops ports down =
    let (room-l, new-l) = run_gone number_before link_key place (place + 1) b.links d.links x links (omega arith) (omega (arith, found.0)) in
    let (room-h, new-h) = run_gone place_before hop_key from to b.hops d.hops y hops re.in_order re.within in
    let known : has_link (records b) l ≡ true
    = some_under (λ (r : LinkRow). r.link) link_key l (λ (m : VirtualLink). eqb m.number l) (λ y e. eq-eqb y.link.number l e) (rows b.links)
    (get_or (rows b.links) place no_link) (getD_in (rows b.links) place no_link found.0) (found.1 no_link) in
    let links_left = ap (map (λ (r : LinkRow). r.link)) (new-l ∙ rw (add-one place)) ∙ sym (one_link_left l (rows b.links) place b.links.ascends found.0 found.1) in
    let hops_left = ap (map hop_of) new-h ∙ sym (others_left (rows b.hops) l from to b.hops.ascends st re) in
    rw known (refl, same_records (rw ports) links_left hops_left, down, same_places (rw ports) room-l room-h)

-- an unknown link leaves the book as it was
pub link_unknown : (b : Book) (l i : ℕ) → Found number_before link_key (rows b.links) l (Err i)
    → Doing (removal_ground (records b) l) (removed (records b) l) b b (Err LinkUnknown)
link_unknown b l i found =
    let absent = absent_under number_before numbers_one link_key l (rows b.links) i found.1 found.2 in
    let unknown : has_link (records b) l ≡ false
    = none_under (λ (r : LinkRow). r.link) link_key l (λ (m : VirtualLink). eqb m.number l) (λ z n. ne_eqb z.link.number l n) (rows b.links) absent in
    rw unknown (refl, unchanged b b refl refl refl refl)
