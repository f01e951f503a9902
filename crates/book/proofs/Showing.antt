-- What the rows of a book show, and what it tells from them.
use Rattle.std.proofs.Common.{◌≡◌, ℕ, ◌+◌, ◌-◌, ◌^◌, ◌<◌, Bool, true, false, ◌&&◌, eqb, List, [], ◌∷◌, map, length, take, drop, Some, None, Ok, Err, Option, unwrap_or, sym, refl, ap, ◌∙◌, inl, inr, arith}
use lib.ListN.{length-map}
use Rattle.std.specs.List.{AllByRecursion}
use Rattle.std.proofs.lemmas.Bool.Decides.{nat_tests}
use Rattle.std.proofs.lemmas.Bool.{eqb-true, eq-eqb, ne_eqb, le-ltb, not-false}
use Rattle.std.proofs.ByRecursion.{All-take, All-drop}
use Rattle.definitions.specs.declared.network.Port.{Port}
use Rattle.definitions.specs.declared.network.Hop.{Hop}
use Rattle.definitions.specs.declared.refusals.Refusal.TheVariants.{PortUnknown, NoHopThere, NoHops}
use Rattle.definitions.specs.Lists.{In, largest, ascending}
use Rattle.definitions.specs.Entries.{has_port, has_link, has_hop}
use Rattle.definitions.specs.Figures.{Figures, departure, delay, depth, hops_of, earliest_at, latest_at}
use Rattle.definitions.specs.Promises.{Agree}
use Rattle.folds.specs.Folds.{Told}
use Rattle.register.specs.Registers.{rows, by_key, Getting, Starts}
use Rattle.theory.proofs.Members.{all_in, in_all}
use Rattle.theory.proofs.Lookups.{one_of_key}
use Rattle.theory.proofs.Keys.{all_map_in}
use Rattle.theory.proofs.KeptRules.{none_met}
use Rattle.working_out.specs.declared.rows.PortRow.{PortRow}
use Rattle.working_out.specs.declared.rows.HopRow.{HopRow}
use Rattle.working_out.specs.Keys.{number_before, place_before, port_key, hop_key, Ports}
use Rattle.book.specs.declared.books.Book.{Book}
use Rattle.book.specs.Books.{records, Shows}
use Rattle.book.specs.LinkRuns.{RunEnd}
use Rattle.book.specs.Questions.{first_of, port_row, hop_row, shown, row_departure, capped, delay_question, link_ground, told_port, told_hop, told_delay}
use Rattle.book.proofs.Hops.{this_place, has_port_told, has_hop_told}
use Rattle.book.proofs.LinkHops.{hops_in_run}

-- ## The row under a key

-- the first item that passes is the only one that does
first_is : {X : Type 0} (test : X → Bool) (none : X) (xs : List X) (x : X) → In x xs → test x ≡ true
    → ((y : X) → In y xs → test y ≡ true → y ≡ x) → first_of test none xs ≡ x
first_is test none [] x i t only = absurd i
first_is test none (y ∷ ys) x (inl e) t only = rw (← e) (rw t)
first_is test none (y ∷ ys) x (inr i) t only = grind (arith, only y (inl refl), first_is test none ys x i t (λ z j. only z (inr j)))

-- rows in order of their keys have one row under each
row_is : {R K : Type 0} (lt : K → K → Bool) (key : R → K) → ((k : K) → lt k k ≡ false) → (test : R → Bool) (k : K)
    → ((y : R) → key y ≡ k → test y ≡ true) → ((y : R) → test y ≡ true → key y ≡ k)
    → (none : R) (xs : List R) → ascending (by_key lt key) xs ≡ true → (x : R) → In x xs → key x ≡ k → first_of test none xs ≡ x
row_is lt key never test k yes-test from-test none xs up x i e =
    first_is test none xs x i (yes-test x e) (λ y j t.
    let same = from-test y t ∙ sym e in
    one_of_key (by_key lt key) xs up y x j i (ap (λ n. lt n (key x)) same ∙ never (key x)) (ap (λ n. lt (key x) n) same ∙ never (key x)))

pub port_row_is : (xs : List PortRow) → ascending (by_key number_before port_key) xs ≡ true → (x : PortRow) → In x xs → (n : ℕ) → port_key x ≡ n
    → port_row xs n ≡ x
port_row_is xs up x i n e =
    row_is number_before port_key (λ k. le-ltb k k (omega arith)) (λ (r : PortRow). eqb r.port.number n) n
    (λ y. eq-eqb y.port.number n) (λ y. eqb-true y.port.number n) _ xs up x i e

pub hop_row_is : (xs : List HopRow) → ascending (by_key place_before hop_key) xs ≡ true → (x : HopRow) → In x xs → (l p : ℕ) → hop_key x ≡ (l, p)
    → hop_row xs l p ≡ x
hop_row_is xs up x i l p e =
    row_is place_before hop_key (λ k. never k.0 k.1) (λ (r : HopRow). eqb r.hop.link l && eqb r.hop.port p) (l, p)
    (this_place l p) here _ xs up x i e
  where
    never : (m q : ℕ) → place_before (m, q) (m, q) ≡ false
    never m q = grind (arith, nat_tests)

    here : (y : HopRow) → (eqb y.hop.link l && eqb y.hop.port p) ≡ true → hop_key y ≡ (l, p)
    here y t = grind (arith, nat_tests)

-- ## Figures that the rows show

-- what holds of the record of each row holds of each record
each_record : {R S : Type 0} (f : R → S) (P : S → Type 0) (xs : List R) → ((x : R) → In x xs → P (f x)) → (y : S) → In y (map f xs) → P y
each_record f P xs h = in_all P (map f xs) (all_map_in P f xs h)

module _ (b : Book) (F : Figures) (s : Shows b F) where
  this_port : (x : PortRow) → In x (rows b.ports) → port_row (rows b.ports) x.port.number ≡ x
  this_port x i = port_row_is (rows b.ports) b.ports.ascends x i x.port.number refl

  this_hop : (x : HopRow) → In x (rows b.hops) → hop_row (rows b.hops) x.hop.link x.hop.port ≡ x
  this_hop x i = hop_row_is (rows b.hops) b.hops.ascends x i x.hop.link x.hop.port refl

  -- at every port and hop of the book the rows show the same figures
  pub shown_agree : Agree (records b) (shown b) F
  shown_agree = record {
    backlogs = each_record (λ (r : PortRow). r.port) (λ (p : Port). (shown b).backlog p.number ≡ F.backlog p.number) (rows b.ports)
        (λ x i. ap (λ (r : PortRow). r.backlog) (this_port x i) ∙ (in_all _ (rows b.ports) s.ports x i).0);
    earliests = each_record (λ (r : HopRow). r.hop) (λ (h : Hop). earliest_at (shown b) h ≡ earliest_at F h) (rows b.hops)
        (λ x i. ap (λ (r : HopRow). r.earliest) (this_hop x i) ∙ (in_all _ (rows b.hops) s.hops x i).0);
    latests = each_record (λ (r : HopRow). r.hop) (λ (h : Hop). latest_at (shown b) h ≡ latest_at F h) (rows b.hops)
        (λ x i. ap (λ (r : HopRow). r.latest) (this_hop x i) ∙ (in_all _ (rows b.hops) s.hops x i).1);
  }

  -- and the depth of every port
  pub depth_shown : (p : Port) → In p (records b).ports → (port_row (rows b.ports) p.number).depth ≡ depth (records b) F p.number
  depth_shown = each_record (λ (r : PortRow). r.port) (λ (p : Port). (port_row (rows b.ports) p.number).depth ≡ depth (records b) F p.number) (rows b.ports)
      (λ x i. ap (λ (r : PortRow). r.depth) (this_port x i) ∙ (in_all _ (rows b.ports) s.ports x i).1)

-- ## What is told

-- the backlog under a number
pub backlog_is : (t : Ports) (n : ℕ) (o : Option PortRow) → Getting port_key (rows t) n o → (row : PortRow) → o ≡ Some row → (port_row (rows t) n).backlog ≡ row.backlog
backlog_is t n o got row e =
    let (i, at) = rw e at got in
    ap (λ (r : PortRow). r.backlog) (port_row_is (rows t) t.ascends row i n at)

no_row : (xs : List PortRow) (n : ℕ) → Getting port_key xs n None → (port_row xs n).backlog ≡ 0
no_row [] n none = refl
no_row (x ∷ xs) n none = rw (ne_eqb x.port.number n (none x (inl refl))) (no_row xs n (λ y i. none y (inr i)))

pub no_backlog : (t : Ports) (n : ℕ) (o : Option PortRow) → Getting port_key (rows t) n o → o ≡ None → (port_row (rows t) n).backlog ≡ 0
no_backlog t n o got e = no_row (rows t) n (rw e at got)

-- a question about a link that meets neither of the first grounds
pub link_is_known : (b : Book) (l : ℕ) → None ≡ link_ground b l → (b.standing ≡ true) × (has_link (records b) l ≡ true)
link_is_known b l e =
    let none = none_met (take 2 (delay_question b l)) (sym e) in
    (not-false b.standing none.0, not-false (has_link (records b) l) none.1.0)

module _ (b : Book) (up : b.standing ≡ true) (p : ℕ) (o : Option PortRow) (got : Getting port_key (rows b.ports) p o) where
  -- of a port
  pub port_is_told : (row : PortRow) → o ≡ Some row → told_port b p ≡ Ok (row.backlog, row.depth)
  port_is_told row e =
      let at = rw e at got in
      rw (up, sym (has_port_told b p o got), e, port_row_is (rows b.ports) b.ports.ascends row at.0 p at.1)

  pub port_is_unknown : o ≡ None → told_port b p ≡ Err PortUnknown
  port_is_unknown e = rw (up, sym (has_port_told b p o got), e)

  module _ (l : ℕ) (link : has_link (records b) l ≡ true) where
    -- of a hop
    pub hop_without_port : o ≡ None → told_hop b l p ≡ Err PortUnknown
    hop_without_port e = rw (up, link, sym (has_port_told b p o got), e)

    pub no_hop_is_there : (at : PortRow) → o ≡ Some at → (q : Option HopRow) → Getting hop_key (rows b.hops) (l, p) q → q ≡ None → told_hop b l p ≡ Err NoHopThere
    no_hop_is_there at e q there f = rw (up, link, sym (has_port_told b p o got), e, sym (has_hop_told b l p q there), f)

pub hop_is_told : (b : Book) → b.standing ≡ true → (l : ℕ) → has_link (records b) l ≡ true → (p : ℕ) (at : PortRow) → Getting port_key (rows b.ports) p (Some at)
    → (row : HopRow) → Getting hop_key (rows b.hops) (l, p) (Some row) → (z : ℕ) → z ≡ capped (row.latest + at.backlog) → Ok (row.earliest, row.latest, z) ≡ told_hop b l p
hop_is_told b up l link p at port row hop z is =
    let known : has_port (records b) p ≡ true = sym (has_port_told b p (Some at) port) in
    let there : has_hop (records b) l p ≡ true = sym (has_hop_told b l p (Some row) hop) in
    rw (up, link, known, there) (
    ap (λ d. Ok (row.earliest, row.latest, d)) is
    ∙ ap (λ (r : PortRow). Ok (row.earliest, row.latest, capped (row.latest + r.backlog))) (sym (port_row_is (rows b.ports) b.ports.ascends at port.0 p port.1))
    ∙ ap (λ (r : HopRow). Ok (r.earliest, r.latest, capped (r.latest + (shown b).backlog p))) (sym (hop_row_is (rows b.hops) b.hops.ascends row hop.0 l p hop.1))
    )

-- ## The delay of a link

-- a figure over images
largest_over : {X Y : Type 0} (f : Y → ℕ) (g : X → Y) (k : X → ℕ) (xs : List X) → AllByRecursion (λ x. f (g x) ≡ k x) xs → largest f (map g xs) ≡ largest k xs
largest_over f g k [] a = refl
largest_over f g k (x ∷ xs) a = rw (a.0, largest_over f g k xs a.1)

-- what 64 bits hold of a figure
pub capped_told : (n : ℕ) (o : Option ℕ) → Told n o → unwrap_or o (2 ^ 64 - 1) < 2 ^ 64 → unwrap_or o (2 ^ 64 - 1) ≡ capped n
capped_told n (Some w) t fits = omega arith
capped_told n None t fits = omega arith

module _ (b : Book) (up : b.standing ≡ true) (l : ℕ) (link : has_link (records b) l ≡ true) (from to : ℕ)
    (st : Starts place_before hop_key (rows b.hops) (l, 0) from) (re : RunEnd (rows b.hops) l from to) where
  abbrev run : List HopRow
  run = take (to - from) (drop from (rows b.hops))

  hops_are : hops_of (records b) l ≡ map (λ (r : HopRow). r.hop) run
  hops_are = hops_in_run (rows b.hops) l from to b.hops.ascends st re

  how_many : length (hops_of (records b) l) ≡ length run
  how_many = ap length hops_are ∙ length-map run (λ (r : HopRow). r.hop)

  -- the rows of the run show the departures of the link's hops
  delay_is_shown : delay (records b) (shown b) l ≡ largest (row_departure (rows b.ports)) run
  delay_is_shown =
      let here : (x : HopRow) → In x (rows b.hops) → departure (shown b) x.hop ≡ row_departure (rows b.ports) x
      = λ x i. ap (λ (r : HopRow). r.latest + (port_row (rows b.ports) x.hop.port).backlog) (hop_row_is (rows b.hops) b.hops.ascends x i x.hop.link x.hop.port refl) in
      ap (largest (departure (shown b))) hops_are
      ∙ largest_over (departure (shown b)) (λ (r : HopRow). r.hop) (row_departure (rows b.ports)) run
      (All-take _ (to - from) (drop from (rows b.hops)) (All-drop _ from (rows b.hops) (all_in _ (rows b.hops) here)))

  module _ (xs : List HopRow) (same : xs ≡ rows b.hops) where
    pub no_hops : eqb (length (take (to - from) (drop from xs))) 0 ≡ true → told_delay b l ≡ Err NoHops
    no_hops e =
        let none : eqb (length run) 0 ≡ true = rw same at e in
        rw (up, link, how_many, none)

    pub delay_is_told : eqb (length (take (to - from) (drop from xs))) 0 ≡ false
        → (o : Option ℕ) → Told (largest (row_departure (rows b.ports)) (take (to - from) (drop from xs))) o
        → (d : ℕ) → d ≡ unwrap_or o (2 ^ 64 - 1) → d < 2 ^ 64 → told_delay b l ≡ Ok d
    delay_is_told e o t d is fits =
        let more : eqb (length run) 0 ≡ false = rw same at e in
        let told : Told (largest (row_departure (rows b.ports)) run) o = rw same at t in
        rw (up, link, how_many, more) (ap Ok (ap capped delay_is_shown ∙ sym (is ∙ capped_told _ o told (omega arith))))
