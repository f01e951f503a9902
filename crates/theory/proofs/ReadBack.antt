-- ReadBack: what is written for a book is read back as the same book.
use Rattle.std.proofs.Common.{◌≡◌, ℕ, ◌+◌, Bool, true, cond, not, ◌&&◌, ◌||◌, eqb, leb, ◌⊎◌, List, [], ◌∷◌, ◌++◌, map, length, Some, None, Ok, Err, codes, Option, Result, sym, refl, ap, ◌∙◌, inl, inr, append_assoc, append-nil}
use Rattle.std.specs.List.{flat_map, AllByRecursion}
use Rattle.std.proofs.ByRecursion.{All-append}
use Rattle.std.proofs.lemmas.Bool.{and_parts, or_cases, eqb-true, eqb-false, leb-true, not-true}
use Rattle.definitions.specs.declared.network.Port.{Port}
use Rattle.definitions.specs.declared.network.VirtualLink.{VirtualLink}
use Rattle.definitions.specs.declared.network.Hop.{Hop}
use Rattle.definitions.specs.declared.refusals.Refusal.{Refusal}
use Rattle.definitions.specs.declared.refusals.Refusal.TheVariants.{ByteForbidden, LineUnfinished, HeadingWrong}
use Rattle.definitions.specs.Lists.{In, every}
use Rattle.definitions.specs.Network.{Records, WellFormed}
use Rattle.definitions.specs.Entries.{Places, no_records}
use Rattle.definitions.specs.Text.{line_feed, lines, line_feeds, stray, finished, line_of, heading_line, port_line, link_line, hop_line, begun, titled, within, ports, links, hops, Seen, seen, complete, read_lines, reading_lines, reading, written, written_before, written_hops}
use Rattle.definitions.specs.Promises.{Lacks, Room, WrittenTextReadsBack}
use Rattle.theory.proofs.Parts.{lines_front}
use Rattle.theory.proofs.Rows.{Plain, Stands, Ends, body, none_stray, lines_rows, rows_stand, finished_ends, ends_append, ends_line, ends_rows}
use Rattle.theory.proofs.Sorting.{sorted_tells}
use Rattle.theory.proofs.Entering.{Reads, reads_line}
use Rattle.theory.proofs.Grounds.{with_ports, with_links, with_hops}
use Rattle.theory.proofs.Sections.{port_row, link_row, hop_row, port_columns, link_columns, hop_columns, port_plain, link_plain, hop_plain, ports_read, links_read, hops_read}

-- ## A whole text

-- a text without stray bytes that is finished is read by its lines
pub reading_is : (pl : Places) (text : List ℕ) → stray 1 text ≡ None → finished text ≡ true → reading pl text ≡ reading_lines pl (lines text)
reading_is pl text s f =
    ap (λ (o : Option ℕ). elim o as (λ _. Result Records Refusal) [
      | Some n ↦ Err (ByteForbidden n)
      | None ↦ cond (finished text) (reading_lines pl (lines text)) (Err (LineUnfinished (line_feeds text + 1)))
    ]) s
    ∙ ap (λ (b : Bool). cond b (reading_lines pl (lines text)) (Err (LineUnfinished (line_feeds text + 1)))) f

-- lines that come to all three sections give their records
pub reading_lines_is : (pl : Places) (ls : List (List ℕ)) (s : Seen) → read_lines pl 1 (seen begun no_records) ls ≡ Ok s → complete s.stage ≡ true
    → reading_lines pl ls ≡ Ok s.records
reading_lines_is pl ls s e c =
    ap (λ (o : Result Seen Refusal). elim o as (λ _. Result Records Refusal) [
      | Ok t ↦ cond (complete t.stage) (Ok t.records) (Err (HeadingWrong (length ls + 1)))
      | Err f ↦ Err f
    ]) e
    ∙ ap (λ (b : Bool). cond b (Ok s.records) (Err (HeadingWrong (length ls + 1)))) c

-- ## Headings

-- bytes that a test finds to be no line feeds
lacks_feed : (bs : List ℕ) → every (λ (b : ℕ). not (eqb b line_feed)) bs ≡ true → Lacks line_feed bs
lacks_feed [] h = tt
lacks_feed (b ∷ bs) h =
    let (here, more) = and_parts (not (eqb b 10)) (every (λ (c : ℕ). not (eqb c line_feed)) bs) h in
    (eqb-false b 10 (not-true (eqb b 10) here), lacks_feed bs more)

-- bytes that a test finds to be able to stand
all_stand : (bs : List ℕ) → every (λ (b : ℕ). eqb b line_feed || (leb 33 b && leb b 126)) bs ≡ true → AllByRecursion Stands bs
all_stand [] h = tt
all_stand (b ∷ bs) h =
    let (here, more) = and_parts (eqb b 10 || (leb 33 b && leb b 126)) (every (λ (c : ℕ). eqb c line_feed || (leb 33 c && leb c 126)) bs) h in
    (go (or_cases (eqb b 10) (leb 33 b && leb b 126) here), all_stand bs more)
  where
    go : (eqb b 10 ≡ true) ⊎ ((leb 33 b && leb b 126) ≡ true) → Stands b
    go (inl e) = inl (eqb-true b 10 e)
    go (inr e) = let (low, high) = and_parts (leb 33 b) (leb b 126) e in inr (leb-true 33 b low, leb-true b 126 high)

-- the lines of a text that begins with a heading
lines_heading : (a t : List ℕ) → Lacks line_feed a → lines (line_of (a ∷ []) ++ t) ≡ a ∷ lines t
lines_heading a t h = ap lines (append_assoc a (10 ∷ []) t) ∙ lines_front a t h

-- the lines of a text that begins with a section
lines_section : (a p t : List ℕ) (ls : List (List ℕ)) → Lacks line_feed a → lines (p ++ t) ≡ ls ++ lines t
    → lines (line_of (a ∷ []) ++ p ++ t) ≡ a ∷ (ls ++ lines t)
lines_section a p t ls h e =
    ap lines (append_assoc (line_of (a ∷ [])) p t) ∙ lines_heading a (p ++ t) h ∙ ap (λ (ms : List (List ℕ)). a ∷ ms) e

-- the lines of a mark and three sections
lines_sections : (m a b c p q s : List ℕ) (ps qs ss : List (List ℕ)) → Lacks line_feed m → Lacks line_feed a → Lacks line_feed b → Lacks line_feed c
    → ((t : List ℕ) → lines (p ++ t) ≡ ps ++ lines t) → ((t : List ℕ) → lines (q ++ t) ≡ qs ++ lines t) → ((t : List ℕ) → lines (s ++ t) ≡ ss ++ lines t)
    → lines (line_of (m ∷ []) ++ (line_of (a ∷ []) ++ p ++ (line_of (b ∷ []) ++ q ++ (line_of (c ∷ []) ++ s))))
    ≡ m ∷ a ∷ (ps ++ (b ∷ (qs ++ (c ∷ (ss ++ [])))))
lines_sections m a b c p q s ps qs ss hm ha hb hc ep eq es =
    let third : List ℕ = line_of (c ∷ []) ++ s in
    let second : List ℕ = line_of (b ∷ []) ++ q ++ third in
    let first : List ℕ = line_of (a ∷ []) ++ p ++ second in
    let e3 : lines third ≡ c ∷ (ss ++ []) = lines_heading c s hc ∙ ap (λ (ms : List (List ℕ)). c ∷ ms) (ap lines (sym (append-nil s)) ∙ es []) in
    let e2 : lines second ≡ b ∷ (qs ++ (c ∷ (ss ++ []))) = lines_section b q third qs hb (eq third) ∙ ap (λ (ms : List (List ℕ)). b ∷ (qs ++ ms)) e3 in
    let e1 : lines first ≡ a ∷ (ps ++ (b ∷ (qs ++ (c ∷ (ss ++ []))))) = lines_section a p second ps ha (ep second) ∙ ap (λ (ms : List (List ℕ)). a ∷ (ps ++ ms)) e2 in
    lines_heading m first hm ∙ ap (λ (ms : List (List ℕ)). m ∷ ms) e1

-- ## What is written

-- the lines of the hops that are written
abbrev pub hop_lines : Records → List (List ℕ)
hop_lines r = map (λ (h : Hop). body (hop_row h)) (written_hops r) ++ []

-- those of the links, and what follows
abbrev pub link_lines : Records → List (List ℕ)
link_lines r = map (λ (l : VirtualLink). body (link_row l)) r.links ++ (codes "@hop,link,port,after" ∷ hop_lines r)

-- those of the ports, and what follows
abbrev pub port_lines : Records → List (List ℕ)
port_lines r = map (λ (p : Port). body (port_row p)) r.ports ++ (codes "@link,number,gap,shortest,longest" ∷ link_lines r)

-- all of them
abbrev pub written_lines : Records → List (List ℕ)
written_lines r = codes "VLT,1" ∷ codes "@port,number,kind,rate" ∷ port_lines r

module _ (r : Records) (w : WellFormed r) where
  -- the fields of each row can stand in a line: of ports
  ports_plain : (p : Port) → In p r.ports → AllByRecursion (AllByRecursion Plain) (port_row p)
  ports_plain p i = port_plain p (w.ports_kept p i)

  -- of links
  links_plain : (l : VirtualLink) → In l r.links → AllByRecursion (AllByRecursion Plain) (link_row l)
  links_plain l i = link_plain l (w.links_kept l i)

  -- of hops
  hops_plain : (h : Hop) → In h (written_hops r) → AllByRecursion (AllByRecursion Plain) (hop_row h)
  hops_plain h i = hop_plain r w h (sorted_tells (written_before r.hops) r.hops h i)

  -- the text has these lines
  lines_written : lines (written r) ≡ written_lines r
  lines_written =
      lines_sections (codes "VLT,1") (codes "@port,number,kind,rate") (codes "@link,number,gap,shortest,longest") (codes "@hop,link,port,after")
      (flat_map (λ (p : Port). line_of (port_row p)) r.ports)
      (flat_map (λ (l : VirtualLink). line_of (link_row l)) r.links)
      (flat_map (λ (h : Hop). line_of (hop_row h)) (written_hops r))
      (map (λ (p : Port). body (port_row p)) r.ports)
      (map (λ (l : VirtualLink). body (link_row l)) r.links)
      (map (λ (h : Hop). body (hop_row h)) (written_hops r))
      (lacks_feed (codes "VLT,1") refl) (lacks_feed (codes "@port,number,kind,rate") refl)
      (lacks_feed (codes "@link,number,gap,shortest,longest") refl) (lacks_feed (codes "@hop,link,port,after") refl)
      (λ t. lines_rows port_row r.ports t ports_plain)
      (λ t. lines_rows link_row r.links t links_plain)
      (λ t. lines_rows hop_row (written_hops r) t hops_plain)

  -- bytes that can stand
  written_stands : AllByRecursion Stands (written r)
  written_stands =
      let third : List ℕ = heading_line hops ++ flat_map hop_line (written_hops r) in
      let second : List ℕ = heading_line links ++ flat_map link_line r.links ++ third in
      let first : List ℕ = heading_line ports ++ flat_map port_line r.ports ++ second in
      let h : AllByRecursion Stands third =
      All-append Stands (heading_line hops) (flat_map hop_line (written_hops r)) (all_stand (heading_line hops) refl)
      (rows_stand hop_row (written_hops r) hops_plain) in
      let l : AllByRecursion Stands second =
      All-append Stands (heading_line links ++ flat_map link_line r.links) third
      (All-append Stands (heading_line links) (flat_map link_line r.links) (all_stand (heading_line links) refl)
      (rows_stand link_row r.links links_plain))
      h in
      let p : AllByRecursion Stands first =
      All-append Stands (heading_line ports ++ flat_map port_line r.ports) second
      (All-append Stands (heading_line ports) (flat_map port_line r.ports) (all_stand (heading_line ports) refl)
      (rows_stand port_row r.ports ports_plain))
      l in
      All-append Stands (line_of (codes "VLT,1" ∷ [])) first (all_stand (line_of (codes "VLT,1" ∷ [])) refl) p

  -- and a last line feed
  written_ends : Ends (written r)
  written_ends =
      ends_append (line_of (codes "VLT,1" ∷ [])) _
      (ends_append (heading_line ports ++ flat_map port_line r.ports) _
      (ends_append (heading_line links ++ flat_map link_line r.links) (heading_line hops ++ flat_map hop_line (written_hops r))
      (ends_rows hop_row (heading_line hops) (written_hops r) (ends_line (codes "@hop,link,port,after" ∷ [])))))

  -- the lines are read as the records
  pub written_reads : (pl : Places) → Room pl r → Reads pl (seen begun no_records) (written_lines r) (seen (within hops hop_columns) r)
  written_reads pl room =
      let end : Seen = seen (within hops hop_columns) r in
      reads_line pl (seen begun no_records) (seen titled no_records) end
      (codes "VLT,1") (codes "@port,number,kind,rate" ∷ port_lines r) (λ n. refl)
      (reads_line pl (seen titled no_records) (seen (within ports port_columns) no_records) end
      (codes "@port,number,kind,rate") (port_lines r) (λ n. refl)
      (ports_read r w pl room (codes "@link,number,gap,shortest,longest" ∷ link_lines r) end
      (reads_line pl (seen (within ports port_columns) (with_ports r.ports)) (seen (within links link_columns) (with_links r [])) end
      (codes "@link,number,gap,shortest,longest") (link_lines r) (λ n. refl)
      (links_read r w pl room (codes "@hop,link,port,after" ∷ hop_lines r) end
      (reads_line pl (seen (within links link_columns) (with_links r r.links)) (seen (within hops hop_columns) (with_hops r [])) end
      (codes "@hop,link,port,after") (hop_lines r) (λ n. refl)
      (hops_read r w pl room [] end (λ n. refl)))))))

-- what is written for a book is read back as the same book
pub written_text_reads_back : WrittenTextReadsBack
written_text_reads_back r w pl room =
    reading_is pl (written r) (none_stray 1 (written r) (written_stands r w)) (finished_ends (written r) (written_ends r w))
    ∙ ap (reading_lines pl) (lines_written r w)
    ∙ reading_lines_is pl (written_lines r) (seen (within hops hop_columns) r) (written_reads r w pl room 1) refl
