-- What entering a record into a table makes of the book's records.
use Rattle.std.proofs.Common.{◌≡◌, ℕ, ◌<◌, ◌≤◌, min, Bool, true, false, eqb, List, [], ◌∷◌, map, length, Ok, Err, refl, sym, ap, ◌∙◌, inl, inr, arith}
use lib.ListN.{length-map}
use Rattle.std.proofs.lemmas.Bool.{eq-eqb, ne_eqb, le-leb, lt-leb}
use Rattle.definitions.specs.declared.network.Port.{Port}
use Rattle.definitions.specs.declared.network.VirtualLink.{VirtualLink}
use Rattle.definitions.specs.declared.refusals.Refusal.TheVariants.{PortPresent, PortTableFull, LinkPresent, LinkTableFull}
use Rattle.definitions.specs.Lists.{In, some}
use Rattle.definitions.specs.Network.{port_before, link_before, most_ports, most_links}
use Rattle.definitions.specs.Entries.{Places, port_entry, link_entry, entry_ground, entered, placed, rate_known, gap_known, lengths_kept, has_port, has_link, full}
use Rattle.register.specs.declared.tables.NotInserted.TheVariants.{Present, Full}
use Rattle.register.specs.Registers.{rows, room, by_key, Inserting}
use Rattle.theory.proofs.Members.{in_some, in_map}
use Rattle.working_out.specs.declared.rows.PortRow.{PortRow}
use Rattle.working_out.specs.declared.rows.LinkRow.{LinkRow}
use Rattle.book.specs.declared.books.Book.{Book}
use Rattle.working_out.specs.Rows.{bare_port, rested, AtRest}
use Rattle.working_out.specs.Keys.{Ports, number_before, port_key, link_key}
use Rattle.book.specs.Books.{records, places, Same, Doing}
use Rattle.book.proofs.Adding.{same_records}

-- ## One table, of any kind of row

module _ {R S K : Type 0} (f : R → S) (lt : K → K → Bool) (key : R → K) (before : S → S → Bool)
    (agree : (a b : R) → lt (key a) (key b) ≡ before (f a) (f b)) where
  -- a row put in its place puts its record in its place
  pub map_placed : (x : R) (xs : List R) → map f (placed (by_key lt key) x xs) ≡ placed before (f x) (map f xs)
  map_placed x [] = refl
  map_placed x (y ∷ ys) = grind (arith, agree x y, map_placed x ys)

-- a row without figures that is put in its place has its marks at rest
pub put_at_rest : (p : Port) (most : ℕ) (t u : Ports) → Inserting number_before port_key most (bare_port p) t u (Ok tt) → AtRest (rows t) → AtRest (rows u)
put_at_rest p most t u (less, fresh, new) old =
    ap (map rested) new ∙ map_placed rested number_before port_key (by_key number_before port_key) (λ x y. refl) (bare_port p) (rows t)
    ∙ ap (placed (by_key number_before port_key) (bare_port p)) old ∙ sym new

module _ {R S K : Type 0} (f : R → S) (key : R → K) (k : K) (test : S → Bool) where
  -- a row under the key passes the test of its record
  pub some_under : ((y : R) → key y ≡ k → test (f y) ≡ true) → (xs : List R) (y : R) → In y xs → key y ≡ k → some test (map f xs) ≡ true
  some_under t xs y i e = in_some test (map f xs) (f y) (in_map f xs y i) (t y e)

  -- where no row is under the key, none passes
  pub none_under : ((y : R) → ¬ (key y ≡ k) → test (f y) ≡ false) → (xs : List R) → ((y : R) → In y xs → ¬ (key y ≡ k)) → some test (map f xs) ≡ false
  none_under t [] n = refl
  none_under t (x ∷ xs) n = rw (t x (n x (inl refl))) (none_under t xs (λ y i. n y (inr i)))

-- whether a table is full, told by its rows
pub full_told : {R S : Type 0} (f : R → S) (xs : List R) (room most : ℕ) → min room most ≤ length xs → full (length (map f xs)) room most ≡ true
full_told f xs room most h = le-leb (min room most) (length (map f xs)) (omega (arith, length-map xs f))

pub not_full_told : {R S : Type 0} (f : R → S) (xs : List R) (room most : ℕ) → length xs < min room most → full (length (map f xs)) room most ≡ false
not_full_told f xs room most h = lt-leb (min room most) (length (map f xs)) (omega (arith, length-map xs f))

-- tables that stay keep their places
pub same_places : {p q l m h k : ℕ} → p ≡ q → l ≡ m → h ≡ k → ◌≡◌ {A = Places} record { ports = p; links = l; hops = h } record { ports = q; links = m; hops = k }
same_places a b c = cc

-- a book of the same tables is as it was
pub unchanged : (b d : Book) → d.ports ≡ b.ports → d.links ≡ b.links → d.hops ≡ b.hops → d.standing ≡ b.standing → Same b d
unchanged b d p l h s = record {
  ports = rw p;
  links = rw l;
  hops = rw h;
  standing = s;
  tables = rw (p, l, h);
}

-- ## Ports

module _ (b d : Book) (p : Port) (known : rate_known p ≡ true) (links : d.links ≡ b.links) (hops : d.hops ≡ b.hops) where
  absent_port : ((y : PortRow) → In y (rows b.ports) → ¬ (port_key y ≡ p.number)) → has_port (records b) p.number ≡ false
  absent_port = none_under (λ (r : PortRow). r.port) port_key p.number (λ (q : Port). eqb q.number p.number)
      (λ y n. ne_eqb y.port.number p.number n) (rows b.ports)

  pub port_added : room d.ports ≡ room b.ports → Inserting number_before port_key most_ports (bare_port p) b.ports d.ports (Ok tt) → d.standing ≡ false
      → Doing (entry_ground (places b) (records b) (port_entry p)) (entered (records b) (port_entry p)) b d (Ok tt)
  port_added same (less, fresh, new) down =
      let put = ap (map (λ (r : PortRow). r.port)) new ∙ map_placed (λ (r : PortRow). r.port) number_before port_key port_before (λ x y. refl) (bare_port p) (rows b.ports) in
      rw (known, absent_port fresh, not_full_told (λ (r : PortRow). r.port) (rows b.ports) (room b.ports) most_ports less)
      (refl, same_records put (rw links) (rw hops), down, same_places same (rw links) (rw hops))

  pub port_present : Inserting number_before port_key most_ports (bare_port p) b.ports d.ports (Err Present) → d.standing ≡ b.standing
      → Doing (entry_ground (places b) (records b) (port_entry p)) (entered (records b) (port_entry p)) b d (Err PortPresent)
  port_present (same, (y, i, e)) stays =
      let there : has_port (records b) p.number ≡ true
      = some_under (λ (r : PortRow). r.port) port_key p.number (λ (q : Port). eqb q.number p.number) (λ z q. eq-eqb z.port.number p.number q) (rows b.ports) y i e in
      rw (known, there) (refl, unchanged b d same links hops stays)

  pub port_full : Inserting number_before port_key most_ports (bare_port p) b.ports d.ports (Err Full) → d.standing ≡ b.standing
      → Doing (entry_ground (places b) (records b) (port_entry p)) (entered (records b) (port_entry p)) b d (Err PortTableFull)
  port_full (same, none_left, fresh) stays =
      rw (known, absent_port fresh, full_told (λ (r : PortRow). r.port) (rows b.ports) (room b.ports) most_ports none_left) (refl, unchanged b d same links hops stays)

-- ## Links

module _ (b d : Book) (l : VirtualLink) (known : gap_known l ≡ true) (lengths : lengths_kept l ≡ true)
    (ports : d.ports ≡ b.ports) (hops : d.hops ≡ b.hops) where
  absent_link : ((y : LinkRow) → In y (rows b.links) → ¬ (link_key y ≡ l.number)) → has_link (records b) l.number ≡ false
  absent_link = none_under (λ (r : LinkRow). r.link) link_key l.number (λ (m : VirtualLink). eqb m.number l.number)
      (λ y n. ne_eqb y.link.number l.number n) (rows b.links)

  pub link_added : room d.links ≡ room b.links → Inserting number_before link_key most_links record { link = l } b.links d.links (Ok tt) → d.standing ≡ false
      → Doing (entry_ground (places b) (records b) (link_entry l)) (entered (records b) (link_entry l)) b d (Ok tt)
  link_added same (less, fresh, new) down =
      let put = ap (map (λ (r : LinkRow). r.link)) new ∙ map_placed (λ (r : LinkRow). r.link) number_before link_key link_before (λ x y. refl) record { link = l } (rows b.links) in
      rw (known, lengths, absent_link fresh, not_full_told (λ (r : LinkRow). r.link) (rows b.links) (room b.links) most_links less)
      (refl, same_records (rw ports) put (rw hops), down, same_places (rw ports) same (rw hops))

  pub link_present : Inserting number_before link_key most_links record { link = l } b.links d.links (Err Present) → d.standing ≡ b.standing
      → Doing (entry_ground (places b) (records b) (link_entry l)) (entered (records b) (link_entry l)) b d (Err LinkPresent)
  link_present (same, (y, i, e)) stays =
      let there : has_link (records b) l.number ≡ true
      = some_under (λ (r : LinkRow). r.link) link_key l.number (λ (m : VirtualLink). eqb m.number l.number) (λ z q. eq-eqb z.link.number l.number q) (rows b.links) y i e in
      rw (known, lengths, there) (refl, unchanged b d ports same hops stays)

  pub link_full : Inserting number_before link_key most_links record { link = l } b.links d.links (Err Full) → d.standing ≡ b.standing
      → Doing (entry_ground (places b) (records b) (link_entry l)) (entered (records b) (link_entry l)) b d (Err LinkTableFull)
  link_full (same, none_left, fresh) stays =
      rw (known, lengths, absent_link fresh, full_told (λ (r : LinkRow). r.link) (rows b.links) (room b.links) most_links none_left) (refl, unchanged b d ports same hops stays)
