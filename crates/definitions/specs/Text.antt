-- Text: the table text of a book, its reading and writing, and the listing of its figures. Texts are lists of bytes.
--
--   lines, fields        the parts of a text that end with a line feed, and of a line between commas
--   number_in most f     the number that the field f writes, digits without leading zeros, if it is at most `most`
--   Section              the three sections; heading_name and columns_of say how each is headed and what is read of it
--   Cell                 what can stand in a column: a number of 8 or of 16 bits, a kind, a port before or `-`
--   Columns              a heading that was read: how many columns it names, and where each column that is read stands
--   entry_in             the entry that a row makes, or the fault of the row
--   Stage                what was read so far: nothing, the mark, or a section's heading
--   reading pl text      the records that the text enters into an empty book with such places, or its fault
--   written r            the text that is written for the records
--   listed r F           the listing of their figures
--   fault_line e         the line that tells a refusal

use Rattle.std.specs.Prelude.{ℕ, zero, suc, ◌+◌, ◌-◌, ◌*◌, Bool, true, false, cond, not, ◌&&◌, ◌||◌, List, [], ◌∷◌, ◌++◌, length, is_some, Some, None, Ok, Err, codes, decimal, Option, Result, ◌==◌, nat_le, nat_lt, slice_index, slice_index_or}
use Rattle.std.specs.Option.{unwrap_or}
use Rattle.std.specs.Str.{bytes_eq}
use Rattle.std.specs.List.{flat_map}
use Rattle.definitions.specs.declared.network.PortKind.{PortKind}
use Rattle.definitions.specs.declared.network.PortKind.TheVariants.{End, Switch}
use Rattle.definitions.specs.declared.network.Port.{Port}
use Rattle.definitions.specs.declared.network.VirtualLink.{VirtualLink}
use Rattle.definitions.specs.declared.network.Hop.{Hop}
use Rattle.definitions.specs.declared.refusals.Refusal.{Refusal}
use Rattle.definitions.specs.declared.refusals.Refusal.TheVariants.{ByteForbidden, LineUnfinished, MarkMissing, VersionUnknown, HeadingWrong, FieldCountWrong, FieldUnreadable, EntryRefused}
use Rattle.definitions.specs.Refusals.{number, place, field, carried}
use Rattle.definitions.specs.Network.{Records}
use Rattle.definitions.specs.Entries.{Places, Entry, port_entry, link_entry, hop_entry, entry_ground, entered, no_records, placed}
use Rattle.definitions.specs.Figures.{Figures, depth, earliest_at, latest_at, departure}

-- ## Bytes, lines and fields

abbrev pub line_feed : ℕ
line_feed = 10

abbrev pub comma : ℕ
comma = 44

-- b put before the first part
abbrev pub onto : ℕ → List (List ℕ) → List (List ℕ)
onto b [] = (b ∷ []) ∷ []
onto b (p ∷ ps) = (b ∷ p) ∷ ps

abbrev pub lines : List ℕ → List (List ℕ)
lines [] = []
lines (b ∷ bs) = cond (b == line_feed) ([] ∷ lines bs) (onto b (lines bs))

abbrev pub fields : List ℕ → List (List ℕ)
fields [] = [] ∷ []
fields (b ∷ bs) = cond (b == comma) ([] ∷ fields bs) (onto b (fields bs))

-- the line of the first byte that cannot stand, where n is the line of the first byte
abbrev pub stray : ℕ → List ℕ → Option ℕ
stray n [] = None
stray n (b ∷ bs) = cond (b == line_feed) (stray (n + 1) bs) (cond (nat_le 33 b && nat_le b 126) (stray n bs) (Some n))

abbrev pub line_feeds : List ℕ → ℕ
line_feeds [] = 0
line_feeds (b ∷ bs) = cond (b == line_feed) 1 0 + line_feeds bs

abbrev pub finished : List ℕ → Bool
finished text = slice_index text (length text - 1) == line_feed

-- ## Cells

abbrev pub number_on : ℕ → ℕ → List ℕ → Option ℕ
number_on most n [] = cond (nat_le n most) (Some n) None
number_on most n (d ∷ ds) = cond (nat_le 48 d && nat_le d 57) (number_on most (10 * n + (d - 48)) ds) None

abbrev pub number_in : ℕ → List ℕ → Option ℕ
number_in most [] = None
number_in most (d ∷ []) = number_on most 0 (d ∷ [])
number_in most (d ∷ e ∷ ds) = cond (d == 48) None (number_on most 0 (d ∷ e ∷ ds))

abbrev pub byte_in : List ℕ → Option ℕ
byte_in f = number_in 255 f

abbrev pub word_in : List ℕ → Option ℕ
word_in f = number_in 65535 f

abbrev pub kind_in : List ℕ → Option PortKind
kind_in f = cond (bytes_eq f (codes "E")) (Some End) (cond (bytes_eq f (codes "S")) (Some Switch) None)

-- `-` means a first hop
abbrev pub before_in : List ℕ → Option (Option ℕ)
before_in f = cond (bytes_eq f (codes "-")) (Some None) (elim (byte_in f) [ Some q ↦ Some (Some q) | None ↦ None ])

pub data Cell : Type 0 where
  byte : Cell
  word : Cell
  kind : Cell
  before : Cell

abbrev pub readable : Cell → List ℕ → Bool
readable byte f = is_some (byte_in f)
readable word f = is_some (word_in f)
readable kind f = is_some (kind_in f)
readable before f = is_some (before_in f)

-- ## Sections and headings

pub data Section : Type 0 where
  ports : Section
  links : Section
  hops : Section

abbrev pub heading_name : Section → List ℕ
heading_name ports = codes "@port"
heading_name links = codes "@link"
heading_name hops = codes "@hop"

pub record Column : Type 0 where
  pub name : List ℕ
  pub cell : Cell

abbrev pub column : List ℕ → Cell → Column
column n c = record { name = n; cell = c }

abbrev pub columns_of : Section → List Column
columns_of ports = column (codes "number") byte ∷ column (codes "kind") kind ∷ column (codes "rate") word ∷ []
columns_of links = column (codes "number") word ∷ column (codes "gap") word ∷ column (codes "shortest") word ∷ column (codes "longest") word ∷ []
columns_of hops = column (codes "link") word ∷ column (codes "port") byte ∷ column (codes "after") before ∷ []

abbrev pub section_after : Section → Option Section
section_after ports = Some links
section_after links = Some hops
section_after hops = None

-- the places from i on at which the name stands
abbrev pub places_of : List ℕ → ℕ → List (List ℕ) → List ℕ
places_of n i [] = []
places_of n i (f ∷ fs) = cond (bytes_eq f n) (i ∷ places_of n (i + 1) fs) (places_of n (i + 1) fs)

-- the place of a name that stands exactly once
abbrev pub sole : List ℕ → Option ℕ
sole [] = None
sole (i ∷ []) = Some i
sole (i ∷ j ∷ is) = None

pub record Columns : Type 0 where
  pub width : ℕ
  pub at : List ℕ

-- where each of the columns stands among the names, if each stands there exactly once
abbrev pub all_places : List Column → List (List ℕ) → Option (List ℕ)
all_places [] names = Some []
all_places (c ∷ cs) names =
    elim (sole (places_of c.name 0 names)) [
      | Some i ↦ elim (all_places cs names) [ Some is ↦ Some (i ∷ is) | None ↦ None ]
      | None ↦ None
    ]

abbrev pub heading_in : Section → List (List ℕ) → Option Columns
heading_in s [] = None
heading_in s (f ∷ names) =
    cond (bytes_eq f (heading_name s))
    (elim (all_places (columns_of s) names) [ Some is ↦ Some record { width = length names; at = is } | None ↦ None ])
    None

abbrev pub is_heading : List ℕ → Bool
is_heading [] = false
is_heading (b ∷ bs) = b == 64

-- ## Rows

-- whether the field at the place i can be read by each column that stands there
abbrev pub cell_reads : List Column → List ℕ → ℕ → List ℕ → Bool
cell_reads [] is i f = true
cell_reads (c ∷ cs) [] i f = true
cell_reads (c ∷ cs) (j ∷ is) i f = (not (i == j) || readable c.cell f) && cell_reads cs is i f

-- the first field, from the place i on, that cannot be read
abbrev pub unreadable : List Column → List ℕ → ℕ → List (List ℕ) → Option ℕ
unreadable cs is i [] = None
unreadable cs is i (f ∷ fs) = cond (cell_reads cs is i f) (unreadable cs is (i + 1) fs) (Some i)

-- the field of the k-th column of the section
abbrev pub cell_at : Columns → List (List ℕ) → ℕ → List ℕ
cell_at c fs k = slice_index_or fs (slice_index c.at k) []

abbrev pub row_entry : Section → Columns → List (List ℕ) → Entry
row_entry ports c fs = port_entry record {
  number = unwrap_or (byte_in (cell_at c fs 0)) 0;
  kind = unwrap_or (kind_in (cell_at c fs 1)) End;
  rate = unwrap_or (word_in (cell_at c fs 2)) 0;
}
row_entry links c fs = link_entry record {
  number = unwrap_or (word_in (cell_at c fs 0)) 0;
  gap = unwrap_or (word_in (cell_at c fs 1)) 0;
  shortest = unwrap_or (word_in (cell_at c fs 2)) 0;
  longest = unwrap_or (word_in (cell_at c fs 3)) 0;
}
row_entry hops c fs = hop_entry record {
  link = unwrap_or (word_in (cell_at c fs 0)) 0;
  port = unwrap_or (byte_in (cell_at c fs 1)) 0;
  after = unwrap_or (before_in (cell_at c fs 2)) None;
}

-- fields are counted from 1
abbrev pub entry_in : Section → Columns → ℕ → List (List ℕ) → Result Entry Refusal
entry_in s c n fs =
    cond (length fs == c.width)
    (elim (unreadable (columns_of s) c.at 0 fs) [ None ↦ Ok (row_entry s c fs) | Some i ↦ Err (FieldUnreadable n (i + 1)) ])
    (Err (FieldCountWrong n))

-- ## Reading

pub data Stage : Type 0 where
  begun : Stage
  titled : Stage
  within : Section → Columns → Stage

pub record Seen : Type 0 where
  pub stage : Stage
  pub records : Records

abbrev pub seen : Stage → Records → Seen
seen s r = record { stage = s; records = r }

abbrev pub version_in : List (List ℕ) → Option ℕ
version_in [] = None
version_in (m ∷ []) = None
version_in (m ∷ v ∷ []) = cond (bytes_eq m (codes "VLT")) (word_in v) None
version_in (m ∷ v ∷ w ∷ fs) = None

abbrev pub read_mark : ℕ → Records → List ℕ → Result Seen Refusal
read_mark n r line =
    elim (version_in (fields line)) [
      | Some v ↦ cond (v == 1) (Ok (seen titled r)) (Err (VersionUnknown n))
      | None ↦ Err (MarkMissing n)
    ]

abbrev pub read_heading : Section → ℕ → Records → List ℕ → Result Seen Refusal
read_heading s n r line =
    elim (heading_in s (fields line)) [ Some c ↦ Ok (seen (within s c) r) | None ↦ Err (HeadingWrong n) ]

abbrev pub read_row : Places → Section → Columns → ℕ → Records → List ℕ → Result Seen Refusal
read_row pl s c n r line =
    elim (entry_in s c n (fields line)) [
      | Ok e ↦ elim (entry_ground pl r e) [
        | None ↦ Ok (seen (within s c) (entered r e))
        | Some g ↦ Err (EntryRefused n (number g))
      ]
      | Err f ↦ Err f
    ]

abbrev pub read_line : Places → ℕ → Stage → Records → List ℕ → Result Seen Refusal
read_line pl n begun r line = read_mark n r line
read_line pl n titled r line = read_heading ports n r line
read_line pl n (within s c) r line =
    cond (is_heading line)
    (elim (section_after s) [ Some t ↦ read_heading t n r line | None ↦ Err (HeadingWrong n) ])
    (read_row pl s c n r line)

-- n is the number of the next line
abbrev pub read_lines : Places → ℕ → Seen → List (List ℕ) → Result Seen Refusal
read_lines pl n s [] = Ok s
read_lines pl n s (l ∷ ls) =
    elim (read_line pl n s.stage s.records l) [ Ok t ↦ read_lines pl (n + 1) t ls | Err f ↦ Err f ]

-- all three headings were read
abbrev pub complete : Stage → Bool
complete begun = false
complete titled = false
complete (within ports c) = false
complete (within links c) = false
complete (within hops c) = true

abbrev pub reading_lines : Places → List (List ℕ) → Result Records Refusal
reading_lines pl ls =
    elim (read_lines pl 1 (seen begun no_records) ls) [
      | Ok s ↦ cond (complete s.stage) (Ok s.records) (Err (HeadingWrong (length ls + 1)))
      | Err f ↦ Err f
    ]

abbrev pub reading : Places → List ℕ → Result Records Refusal
reading pl text =
    elim (stray 1 text) [
      | Some n ↦ Err (ByteForbidden n)
      | None ↦ cond (finished text) (reading_lines pl (lines text)) (Err (LineUnfinished (line_feeds text + 1)))
    ]

-- ## Writing

-- fields with commas between them, and a line feed
abbrev pub line_of : List (List ℕ) → List ℕ
line_of [] = line_feed ∷ []
line_of (f ∷ []) = f ++ (line_feed ∷ [])
line_of (f ∷ g ∷ fs) = f ++ (comma ∷ line_of (g ∷ fs))

abbrev pub kind_text : PortKind → List ℕ
kind_text End = codes "E"
kind_text Switch = codes "S"

abbrev pub before_text : Option ℕ → List ℕ
before_text None = codes "-"
before_text (Some q) = decimal q

abbrev pub port_line : Port → List ℕ
port_line p = line_of (decimal p.number ∷ kind_text p.kind ∷ decimal p.rate ∷ [])

abbrev pub link_line : VirtualLink → List ℕ
link_line l = line_of (decimal l.number ∷ decimal l.gap ∷ decimal l.shortest ∷ decimal l.longest ∷ [])

abbrev pub hop_line : Hop → List ℕ
hop_line h = line_of (decimal h.link ∷ decimal h.port ∷ before_text h.after ∷ [])

-- the hop of a link at a port, or h where there is none
abbrev pub find_hop : List Hop → Hop → ℕ → Hop
find_hop [] h q = h
find_hop (k ∷ ks) h q = cond (k.link == h.link && k.port == q) k (find_hop ks h q)

-- how many hops come before h on its link, counting n at most
abbrev pub steps_before : List Hop → ℕ → Hop → ℕ
steps_before hs zero h = 0
steps_before hs (suc n) h = elim h.after [ None ↦ 0 | Some q ↦ suc (steps_before hs n (find_hop hs h q)) ]

abbrev pub step_of : List Hop → Hop → ℕ
step_of hs h = steps_before hs (length hs) h

-- by link, then step, then port
abbrev pub written_before : List Hop → Hop → Hop → Bool
written_before hs h k =
    nat_lt h.link k.link
    || (h.link == k.link
    && (nat_lt (step_of hs h) (step_of hs k) || (step_of hs h == step_of hs k && nat_lt h.port k.port)))

abbrev pub sorted : {X : Type 0} → (X → X → Bool) → List X → List X
sorted lt [] = []
sorted lt (x ∷ xs) = placed lt x (sorted lt xs)

abbrev pub written_hops : Records → List Hop
written_hops r = sorted (written_before r.hops) r.hops

abbrev pub heading_line : Section → List ℕ
heading_line ports = line_of (codes "@port,number,kind,rate" ∷ [])
heading_line links = line_of (codes "@link,number,gap,shortest,longest" ∷ [])
heading_line hops = line_of (codes "@hop,link,port,after" ∷ [])

abbrev pub written : Records → List ℕ
written r =
    line_of (codes "VLT,1" ∷ [])
    ++ (heading_line ports ++ flat_map port_line r.ports
    ++ (heading_line links ++ flat_map link_line r.links
    ++ (heading_line hops ++ flat_map hop_line (written_hops r))))

-- ## The listing

abbrev pub port_listed : Records → Figures → Port → List ℕ
port_listed r F p = line_of (codes "port" ∷ decimal p.number ∷ decimal (F.backlog p.number) ∷ decimal (depth r F p.number) ∷ [])

abbrev pub hop_listed : Figures → Hop → List ℕ
hop_listed F h =
    line_of (codes "hop" ∷ decimal h.link ∷ decimal h.port
    ∷ decimal (earliest_at F h) ∷ decimal (latest_at F h) ∷ decimal (departure F h) ∷ [])

abbrev pub listed : Records → Figures → List ℕ
listed r F = line_of (codes "VLR,1" ∷ []) ++ (flat_map (port_listed r F) r.ports ++ flat_map (hop_listed F) (written_hops r))

-- ## Faults

abbrev pub fault_line : Refusal → List ℕ
fault_line e = line_of (codes "fault" ∷ decimal (number e) ∷ decimal (place e) ∷ decimal (field e) ∷ decimal (carried e) ∷ [])
