-- Entering a hop.
use Rattle.std.proofs.Common.{arith, ◌≡◌, ℕ, zero, suc, Bool, true, false, ◌&&◌, eqb, List, [], ◌∷◌, map, take, drop, is_some, Some, None, Ok, Err, Option, sym, refl, ap, ◌∙◌}
use Rattle.std.proofs.lemmas.Bool.Decides.{nat_tests}
use Rattle.std.proofs.lemmas.Bool.{eq-eqb, ne_eqb, both_ways}
use Rattle.definitions.specs.declared.network.Port.{Port}
use Rattle.definitions.specs.declared.network.VirtualLink.{VirtualLink}
use Rattle.definitions.specs.declared.network.Hop.{Hop}
use Rattle.definitions.specs.declared.refusals.Refusal.{Refusal}
use Rattle.definitions.specs.declared.refusals.Refusal.TheVariants.{HopPresent}
use Rattle.definitions.specs.Lists.{some}
use Rattle.definitions.specs.Network.{find_port, hop_before, most_hops}
use Rattle.definitions.specs.Entries.{hop_entry, entry_ground, entered, first_met, hop_grounds, has_port, has_link, has_hop}
use Rattle.register.specs.declared.tables.NotInserted.TheVariants.{Present}
use Rattle.register.specs.Registers.{rows, room, Getting, Inserting}
use Rattle.theory.proofs.Members.{in_map}
use Rattle.theory.proofs.Lookups.{find_in}
use Rattle.theory.proofs.KeptRules.{none_met}
use Rattle.working_out.specs.declared.rows.PortRow.{PortRow}
use Rattle.working_out.specs.declared.rows.LinkRow.{LinkRow}
use Rattle.working_out.specs.declared.rows.HopRow.{HopRow}
use Rattle.book.specs.declared.books.Book.{Book}
use Rattle.working_out.specs.Works.{refused_by}
use Rattle.working_out.specs.Rows.{bare_hop}
use Rattle.working_out.specs.Keys.{place_before, port_key, link_key, hop_key}
use Rattle.working_out.proofs.Tabled.{ports_ascend, keys_agree}
use Rattle.book.specs.Books.{records, places, unfit, Doing}
use Rattle.book.proofs.Adding.{same_records}
use Rattle.book.proofs.Entering.{map_placed, some_under, none_under, not_full_told, same_places, unchanged}

-- ## Looking up

-- whether a row is under a key, told of the records
pub told_by_get : {R S K : Type 0} (f : R → S) (key : R → K) (k : K) (test : S → Bool)
    → ((y : R) → key y ≡ k → test (f y) ≡ true) → ((y : R) → ¬ (key y ≡ k) → test (f y) ≡ false)
    → (xs : List R) (r : Option R) → Getting key xs k r → is_some r ≡ some test (map f xs)
told_by_get f key k test yes-test no_test xs (Some x) (i, e) = sym (some_under f key k test yes-test xs x i e)
told_by_get f key k test yes-test no_test xs None n = sym (none_under f key k test no_test xs n)

pub has_link_told : (b : Book) (l : ℕ) (r : Option LinkRow) → Getting link_key (rows b.links) l r → is_some r ≡ has_link (records b) l
has_link_told b l = told_by_get (λ (x : LinkRow). x.link) link_key l (λ (m : VirtualLink). eqb m.number l)
    (λ y e. eq-eqb y.link.number l e) (λ y n. ne_eqb y.link.number l n) (rows b.links)

pub has_port_told : (b : Book) (n : ℕ) (r : Option PortRow) → Getting port_key (rows b.ports) n r → is_some r ≡ has_port (records b) n
has_port_told b n = told_by_get (λ (x : PortRow). x.port) port_key n (λ (p : Port). eqb p.number n)
    (λ y e. eq-eqb y.port.number n e) (λ y m. ne_eqb y.port.number n m) (rows b.ports)

-- a key of another place
pub other_place : (l p : ℕ) (y : HopRow) → ¬ (hop_key y ≡ (l, p)) → (eqb y.hop.link l && eqb y.hop.port p) ≡ false
other_place l p y n = grind (arith, nat_tests)

pub this_place : (l p : ℕ) (y : HopRow) → hop_key y ≡ (l, p) → (eqb y.hop.link l && eqb y.hop.port p) ≡ true
this_place l p y e = grind (arith, nat_tests)

pub has_hop_told : (b : Book) (l p : ℕ) (r : Option HopRow) → Getting hop_key (rows b.hops) (l, p) r → is_some r ≡ has_hop (records b) l p
has_hop_told b l p = told_by_get (λ (x : HopRow). x.hop) hop_key (l, p) (λ (h : Hop). eqb h.link l && eqb h.port p) (this_place l p) (other_place l p) (rows b.hops)

-- the row under a number is the port that is found
pub port_found : (b : Book) (n : ℕ) (o : Option PortRow) → Getting port_key (rows b.ports) n o → (row : PortRow) → o ≡ Some row → find_port (records b).ports n ≡ row.port
port_found b n o got row e =
    let (i, at) = rw e at got in
    ap (find_port (records b).ports) (sym at)
    ∙ find_in (λ (p : Port). p.number) _ (records b).ports (sym (ports_ascend (rows b.ports)) ∙ b.ports.ascends) row.port (in_map (λ (x : PortRow). x.port) (rows b.ports) row i)

-- ## Grounds and answers

pub fit_of : (o : Option Refusal) → Ok tt ≡ refused_by o → None ≡ o
fit_of None h = refl
fit_of (Some e) h = absurd (cc)

pub unfit_of : (o : Option Refusal) (e : Refusal) → Err e ≡ refused_by o → Some e ≡ o
unfit_of None e h = absurd (cc)
unfit_of (Some f) e h = cc

-- ## Grounds in two parts

pub met_first : (n : ℕ) (gs : List (Bool × Refusal)) (e : Refusal) → first_met (take n gs) ≡ Some e → first_met gs ≡ Some e
met_first zero gs e h = absurd (cc)
met_first (suc n) [] e h = h
met_first (suc n) (g ∷ gs) e h = grind (arith, met_first n gs e)

pub met_later : (n : ℕ) (gs : List (Bool × Refusal)) → first_met (take n gs) ≡ None → first_met gs ≡ first_met (drop n gs)
met_later zero gs h = refl
met_later (suc n) [] h = refl
met_later (suc n) (g ∷ gs) h = grind (arith, met_later n gs)

-- ## Hops

-- an unfit hop leaves the book as it was
pub hop_unfit : (b : Book) (h : Hop) (e : Refusal) → Err e ≡ refused_by (unfit (records b) h)
    → Doing (entry_ground (places b) (records b) (hop_entry h)) (entered (records b) (hop_entry h)) b b (Err e)
hop_unfit b h e told =
    let ground : entry_ground (places b) (records b) (hop_entry h) ≡ Some e = met_first 6 (hop_grounds (places b) (records b) h) e (sym (unfit_of _ e told)) in
    rw ground (refl, unchanged b b refl refl refl refl)

module _ (b d : Book) (h : Hop) (told : Ok tt ≡ refused_by (unfit (records b) h)) (ports : d.ports ≡ b.ports) (links : d.links ≡ b.links) where
  fit : unfit (records b) h ≡ None
  fit = sym (fit_of (unfit (records b) h) told)

  pub hop_added : room d.hops ≡ room b.hops → Inserting place_before hop_key most_hops (bare_hop h) b.hops d.hops (Ok tt) → d.standing ≡ false
      → Doing (entry_ground (places b) (records b) (hop_entry h)) (entered (records b) (hop_entry h)) b d (Ok tt)
  hop_added same (less, fresh, new) down =
      let put = ap (map (λ (x : HopRow). x.hop)) new ∙ map_placed (λ (x : HopRow). x.hop) place_before hop_key hop_before keys_agree (bare_hop h) (rows b.hops) in
      let ground : entry_ground (places b) (records b) (hop_entry h) ≡ None
      = met_later 6 (hop_grounds (places b) (records b) h) fit ∙ rw (not_full_told (λ (x : HopRow). x.hop) (rows b.hops) (room b.hops) most_hops less) in
      rw ground (refl, same_records (rw ports) (rw links) put, down, same_places (rw ports) (rw links) same)

  -- a hop that is there would have been unfit
  pub hop_present : Inserting place_before hop_key most_hops (bare_hop h) b.hops d.hops (Err Present)
      → Doing (entry_ground (places b) (records b) (hop_entry h)) (entered (records b) (hop_entry h)) b d (Err HopPresent)
  hop_present (same, (y, i, e)) =
      let there : has_hop (records b) h.link h.port ≡ true
      = some_under (λ (x : HopRow). x.hop) hop_key (h.link, h.port) (λ (k : Hop). eqb k.link h.link && eqb k.port h.port) (this_place h.link h.port) (rows b.hops) y i e in
      let absent = (none_met (take 6 (hop_grounds (record { ports = 0; links = 0; hops = 0 }) (records b) h)) fit).1.1.0 in
      absurd (both_ways (has_hop (records b) h.link h.port) absent there)
