-- Sections: the rows that are written for each section are read back.
--
--   port_row, link_row, hop_row     the fields of a row
--   port_columns, link_columns, hop_columns     the headings as they are written
use Rattle.std.proofs.Common.{◌≡◌, ℕ, ◌≤◌, Bool, true, false, cond, List, [], ◌∷◌, ◌++◌, map, Some, None, Ok, codes, decimal, Option, unwrap_or, sym, refl, ap, ◌∙◌, inl, arith}
use Rattle.std.specs.List.{AllByRecursion}
use Rattle.std.specs.Str.{bytes_eq}
use Rattle.std.proofs.lemmas.Slice.Eq.{bytes_eq-Decides}
use Rattle.definitions.specs.declared.network.PortKind.{PortKind}
use Rattle.definitions.specs.declared.network.PortKind.TheVariants.{End, Switch}
use Rattle.definitions.specs.declared.network.Port.{Port}
use Rattle.definitions.specs.declared.network.VirtualLink.{VirtualLink}
use Rattle.definitions.specs.declared.network.Hop.{Hop}
use Rattle.definitions.specs.Lists.{In}
use Rattle.definitions.specs.Network.{Records, PortKept, LinkKept, WellFormed, bags, port_before, link_before, hop_before}
use Rattle.definitions.specs.Entries.{Places, Entry, port_entry, link_entry, hop_entry}
use Rattle.definitions.specs.Text.{fields, kind_text, before_text, byte_in, word_in, kind_in, before_in, entry_in, row_entry, Columns, ports, links, hops, within, Seen, seen, written_before, written_hops}
use Rattle.definitions.specs.Promises.{Room}
use Rattle.theory.proofs.Variants.{none_some}
use Rattle.theory.proofs.Numbers.{decimal_reads_back}
use Rattle.theory.proofs.Rows.{Plain, body, plain_decimal, plain_kind, plain_before, decimal_no_heading, fields_body}
use Rattle.theory.proofs.Sorting.{ascends, length_sorted, sorted_tells, sorted_from, sorted_ascends}
use Rattle.theory.proofs.Orders.{port_strict, link_strict, hop_strict, written_strict, written_compares, written_after}
use Rattle.theory.proofs.Entering.{Reads, row_reads, reads_rows, filling_start}
use Rattle.theory.proofs.Grounds.{with_ports, with_links, with_hops, port_meets_none, link_meets_none, hop_meets_none}

-- ## Cells

-- a kind reads back
kind_reads_back : (k : PortKind) → kind_in (kind_text k) ≡ Some k
kind_reads_back End = refl
kind_reads_back Switch = refl

-- a field with a number before reads as it
before_number : (f : List ℕ) (q : ℕ) → byte_in f ≡ Some q → before_in f ≡ Some (Some q)
before_number f q e = go (bytes_eq f (codes "-")) refl
  where
    go : (t : Bool) → bytes_eq f (codes "-") ≡ t → cond t (Some None) (elim (byte_in f) as (λ _. Option (Option ℕ)) [ Some p ↦ Some (Some p) | None ↦ None ]) ≡ Some (Some q)
    go true dash = absurd (none_some q (ap byte_in (sym ((bytes_eq-Decides f (codes "-")).0 dash)) ∙ e))
    go false other = ap (λ (o : Option ℕ). elim o as (λ _. Option (Option ℕ)) [ Some p ↦ Some (Some p) | None ↦ None ]) e

-- ## Rows

abbrev pub port_row : Port → List (List ℕ)
port_row p = decimal p.number ∷ kind_text p.kind ∷ decimal p.rate ∷ []

abbrev pub link_row : VirtualLink → List (List ℕ)
link_row l = decimal l.number ∷ decimal l.gap ∷ decimal l.shortest ∷ decimal l.longest ∷ []

abbrev pub hop_row : Hop → List (List ℕ)
hop_row h = decimal h.link ∷ decimal h.port ∷ before_text h.after ∷ []

abbrev pub port_columns : Columns
port_columns = record { width = 3; at = 0 ∷ 1 ∷ 2 ∷ [] }

abbrev pub link_columns : Columns
link_columns = record { width = 4; at = 0 ∷ 1 ∷ 2 ∷ 3 ∷ [] }

abbrev pub hop_columns : Columns
hop_columns = record { width = 3; at = 0 ∷ 1 ∷ 2 ∷ [] }

-- three fields that read as the parts of a port
port_fields : (p : Port) (a b c : List ℕ) → byte_in a ≡ Some p.number → kind_in b ≡ Some p.kind → word_in c ≡ Some p.rate
    → (n : ℕ) → entry_in ports port_columns n (a ∷ b ∷ c ∷ []) ≡ Ok (port_entry p)
port_fields p a b c x y z n =
    let same : row_entry ports port_columns (a ∷ b ∷ c ∷ []) ≡ port_entry p =
    λ i. port_entry (record { number = unwrap_or (x i) 0; kind = unwrap_or (y i) End; rate = unwrap_or (z i) 0 }) in
    rw (x, y, z) (ap (λ (e : Entry). Ok e) same)

-- four fields that read as the parts of a link
link_fields : (l : VirtualLink) (a b c d : List ℕ) → word_in a ≡ Some l.number → word_in b ≡ Some l.gap → word_in c ≡ Some l.shortest → word_in d ≡ Some l.longest
    → (n : ℕ) → entry_in links link_columns n (a ∷ b ∷ c ∷ d ∷ []) ≡ Ok (link_entry l)
link_fields l a b c d w x y z n =
    let same : row_entry links link_columns (a ∷ b ∷ c ∷ d ∷ []) ≡ link_entry l =
    λ i. link_entry (record { number = unwrap_or (w i) 0; gap = unwrap_or (x i) 0; shortest = unwrap_or (y i) 0; longest = unwrap_or (z i) 0 }) in
    rw (w, x, y, z) (ap (λ (e : Entry). Ok e) same)

-- three fields that read as the parts of a hop
hop_fields : (h : Hop) (a b c : List ℕ) → word_in a ≡ Some h.link → byte_in b ≡ Some h.port → before_in c ≡ Some h.after
    → (n : ℕ) → entry_in hops hop_columns n (a ∷ b ∷ c ∷ []) ≡ Ok (hop_entry h)
hop_fields h a b c x y z n =
    let same : row_entry hops hop_columns (a ∷ b ∷ c ∷ []) ≡ hop_entry h =
    λ i. hop_entry (record { link = unwrap_or (x i) 0; port = unwrap_or (y i) 0; after = unwrap_or (z i) None }) in
    rw (x, y, z) (ap (λ (e : Entry). Ok e) same)

-- ## Ports

-- the fields of a port's row
pub port_plain : (p : Port) → PortKept p → AllByRecursion (AllByRecursion Plain) (port_row p)
port_plain p k =
    (plain_decimal p.number (omega (arith, k.number_most)), (plain_kind p.kind, (plain_decimal p.rate (omega (arith, k.rate_known)), tt)))

-- a port's row reads as the port
port_row_reads : (p : Port) → PortKept p → (n : ℕ) → entry_in ports port_columns n (fields (body (port_row p))) ≡ Ok (port_entry p)
port_row_reads p k n =
    let h = port_plain p k in
    ap (entry_in ports port_columns n) (fields_body (decimal p.number) (kind_text p.kind ∷ decimal p.rate ∷ []) h.0 h.1)
    ∙ port_fields p (decimal p.number) (kind_text p.kind) (decimal p.rate)
    (decimal_reads_back 255 (omega arith) p.number k.number_most)
    (kind_reads_back p.kind)
    (decimal_reads_back 65535 (omega arith) p.rate (omega (arith, k.rate_known)))
    n

-- the rows of the ports are read
pub ports_read : (r : Records) → WellFormed r → (pl : Places) → Room pl r → (ls : List (List ℕ)) (u : Seen)
    → Reads pl (seen (within ports port_columns) (with_ports r.ports)) ls u
    → Reads pl (seen (within ports port_columns) (with_ports [])) (map (λ (p : Port). body (port_row p)) r.ports ++ ls) u
ports_read r w pl room ls u k =
    let a = ascends port_before r.ports w.ports_ascend in
    reads_rows port_before port_before port_strict port_strict r.ports a pl (within ports port_columns) with_ports (λ (p : Port). body (port_row p))
    (λ got rest p f n.
    let kept = w.ports_kept p (f.rest_known p (inl refl)) in
    row_reads pl ports port_columns (with_ports got) (body (port_row p)) (port_entry p) n
    (decimal_no_heading p.number (44 ∷ body (kind_text p.kind ∷ decimal p.rate ∷ [])) (omega (arith, kept.number_most)))
    (port_row_reads p kept n)
    (port_meets_none r w pl room got rest p f))
    ls u k r.ports [] (filling_start port_before port_before r.ports r.ports a (λ _ i. i, λ _ i. i) refl)

-- ## Links

-- a gap is small
bag_most : (g : ℕ) → In g bags → g ≤ 65535
bag_most g i = omega arith

-- the fields of a link's row
pub link_plain : (l : VirtualLink) → LinkKept l → AllByRecursion (AllByRecursion Plain) (link_row l)
link_plain l k = (
  plain_decimal l.number k.number_most,
  (
    plain_decimal l.gap (bag_most l.gap k.gap_known),
    (
      plain_decimal l.shortest (omega (arith, k.lengths.in_order, k.lengths.longest_most)),
      (plain_decimal l.longest (omega (arith, k.lengths.longest_most)), tt),
    ),
  ),
)

-- a link's row reads as the link
link_row_reads : (l : VirtualLink) → LinkKept l → (n : ℕ) → entry_in links link_columns n (fields (body (link_row l))) ≡ Ok (link_entry l)
link_row_reads l k n =
    let h = link_plain l k in
    ap (entry_in links link_columns n) (fields_body (decimal l.number) (decimal l.gap ∷ decimal l.shortest ∷ decimal l.longest ∷ []) h.0 h.1)
    ∙ link_fields l (decimal l.number) (decimal l.gap) (decimal l.shortest) (decimal l.longest)
    (decimal_reads_back 65535 (omega arith) l.number k.number_most)
    (decimal_reads_back 65535 (omega arith) l.gap (bag_most l.gap k.gap_known))
    (decimal_reads_back 65535 (omega arith) l.shortest (omega (arith, k.lengths.in_order, k.lengths.longest_most)))
    (decimal_reads_back 65535 (omega arith) l.longest (omega (arith, k.lengths.longest_most)))
    n

-- the rows of the links are read
pub links_read : (r : Records) → WellFormed r → (pl : Places) → Room pl r → (ls : List (List ℕ)) (u : Seen)
    → Reads pl (seen (within links link_columns) (with_links r r.links)) ls u
    → Reads pl (seen (within links link_columns) (with_links r [])) (map (λ (l : VirtualLink). body (link_row l)) r.links ++ ls) u
links_read r w pl room ls u k =
    let a = ascends link_before r.links w.links_ascend in
    reads_rows link_before link_before link_strict link_strict r.links a pl (within links link_columns) (with_links r) (λ (l : VirtualLink). body (link_row l))
    (λ got rest l f n.
    let kept = w.links_kept l (f.rest_known l (inl refl)) in
    row_reads pl links link_columns (with_links r got) (body (link_row l)) (link_entry l) n
    (decimal_no_heading l.number (44 ∷ body (decimal l.gap ∷ decimal l.shortest ∷ decimal l.longest ∷ [])) kept.number_most)
    (link_row_reads l kept n)
    (link_meets_none r w pl room got rest l f))
    ls u k r.links [] (filling_start link_before link_before r.links r.links a (λ _ i. i, λ _ i. i) refl)

-- ## Hops

-- the link of a hop has at most 16 bits
hop_link_most : (r : Records) → WellFormed r → (h : Hop) → In h r.hops → h.link ≤ 65535
hop_link_most r w h i =
    let (l, j, e) = (w.hops_kept h i).link_known in
    omega (arith, (w.links_kept l j).number_most)

-- its port at most 8
hop_port_most : (r : Records) → WellFormed r → (h : Hop) → In h r.hops → h.port ≤ 255
hop_port_most r w h i =
    let (p, j, e, s) = (w.hops_kept h i).port_known in
    omega (arith, (w.ports_kept p j).number_most)

-- and so the port before
hop_after_most : (r : Records) → WellFormed r → (h : Hop) → In h r.hops → (q : ℕ) → h.after ≡ Some q → q ≤ 255
hop_after_most r w h i q e =
    let (n, s) = (w.hops_kept h i).stepped in
    let (k, j, same, at, b) = written_after r (ascends hop_before r.hops w.hops_ascend) h n i s q e in
    omega (arith, hop_port_most r w k j)

-- the fields of a hop's row
pub hop_plain : (r : Records) → WellFormed r → (h : Hop) → In h r.hops → AllByRecursion (AllByRecursion Plain) (hop_row h)
hop_plain r w h i = (
  plain_decimal h.link (hop_link_most r w h i),
  (
    plain_decimal h.port (omega (arith, hop_port_most r w h i)),
    (plain_before h.after (hop_after_most r w h i), tt),
  ),
)

-- what comes before reads back
before_reads_back : (o : Option ℕ) → ((q : ℕ) → o ≡ Some q → q ≤ 255) → before_in (before_text o) ≡ Some o
before_reads_back None h = refl
before_reads_back (Some q) h = before_number (decimal q) q (decimal_reads_back 255 (omega arith) q (h q refl))

-- a hop's row reads as the hop
hop_row_reads : (r : Records) → WellFormed r → (h : Hop) → In h r.hops → (n : ℕ) → entry_in hops hop_columns n (fields (body (hop_row h))) ≡ Ok (hop_entry h)
hop_row_reads r w h i n =
    let p = hop_plain r w h i in
    ap (entry_in hops hop_columns n) (fields_body (decimal h.link) (decimal h.port ∷ before_text h.after ∷ []) p.0 p.1)
    ∙ hop_fields h (decimal h.link) (decimal h.port) (before_text h.after)
    (decimal_reads_back 65535 (omega arith) h.link (hop_link_most r w h i))
    (decimal_reads_back 255 (omega arith) h.port (hop_port_most r w h i))
    (before_reads_back h.after (hop_after_most r w h i))
    n

-- the rows of the hops are read
pub hops_read : (r : Records) → WellFormed r → (pl : Places) → Room pl r → (ls : List (List ℕ)) (u : Seen)
    → Reads pl (seen (within hops hop_columns) r) ls u
    → Reads pl (seen (within hops hop_columns) (with_hops r [])) (map (λ (h : Hop). body (hop_row h)) (written_hops r) ++ ls) u
hops_read r w pl room ls u k =
    let a = ascends hop_before r.hops w.hops_ascend in
    let wt : Hop → Hop → Bool = written_before r.hops in
    reads_rows hop_before wt hop_strict (written_strict r.hops) r.hops a pl (within hops hop_columns) (with_hops r) (λ (h : Hop). body (hop_row h))
    (λ got rest h f n.
    let i = f.rest_known h (inl refl) in
    row_reads pl hops hop_columns (with_hops r got) (body (hop_row h)) (hop_entry h) n
    (decimal_no_heading h.link (44 ∷ body (decimal h.port ∷ before_text h.after ∷ [])) (hop_link_most r w h i))
    (hop_row_reads r w h i n)
    (hop_meets_none r w got rest h f pl room))
    ls u k (written_hops r) []
    (filling_start hop_before wt r.hops (written_hops r)
    (sorted_ascends hop_before wt (written_strict r.hops) (written_compares r.hops) r.hops a)
    (sorted_tells wt r.hops, sorted_from wt r.hops)
    (length_sorted wt r.hops))
