-- Every list of calls leaves sound records.
use Rattle.std.proofs.Common.{◌≡◌, ℕ, ◌+◌, ◌-◌, ◌*◌, ◌≤◌, true, false, cond, ◌&&◌, eqb, leb, List, [], ◌∷◌, ◌++◌, length, Some, None, Ok, Err, Option, Result, unwrap_or, sym, refl, subst, arith}
use Rattle.std.proofs.lemmas.Bool.{leb-true}
use Rattle.definitions.specs.declared.refusals.Refusal.{Refusal}
use Rattle.definitions.specs.declared.refusals.Refusal.TheVariants.{HeadingWrong, VersionUnknown, MarkMissing, EntryRefused, FieldUnreadable, FieldCountWrong, ByteForbidden, LineUnfinished, BookNotEmpty}
use Rattle.definitions.specs.Refusals.{number}
use Rattle.definitions.specs.Network.{Records, WellFormed}
use Rattle.definitions.specs.Entries.{Places, Entry, entry_ground, removal_ground, entered, removed, no_records}
use Rattle.definitions.specs.Text.{number_on, number_in, fields, lines, Section, ports, links, hops, Columns, columns_of, heading_in, section_after, is_heading, cell_at, entry_in, row_entry, unreadable, Stage, begun, titled, within, Seen, seen, version_in, read_mark, read_heading, read_row, read_line, read_lines, complete, stray, finished, line_feeds, reading_lines, reading}
use Rattle.definitions.specs.Calls.{Method, State, Call, Answer, Fits, enter, remove_link, clear, read, work_out, port_figures, hop_figures, delay_of, write, list, count_ports, count_links, count_hops, port_at, link_at, hop_at, opened, changed, worked, DoesOrRefuses, Reads, Does, After, Runs, is_empty, refused, Served}
use Rattle.definitions.specs.WorkingOut.{Outcome, settles, short, overloaded, ring, past, WorksOut}
use Rattle.definitions.specs.Promises.{Room, Sound, EveryRunIsSound}
use Rattle.theory.proofs.KeptRules.{entry_kept, removal_kept, empty_kept, entry_fits, removal_fits, empty_fits}

-- ## Numbers that are read are of their types

on_most : (most n : ℕ) (ds : List ℕ) → unwrap_or (number_on most n ds) 0 ≤ most
on_most most n [] = elim (leb n most) as (λ b. leb n most ≡ b → unwrap_or (cond b (Some n) None) 0 ≤ most) [
  | true ↦ λ e. leb-true n most e
  | false ↦ λ e. omega arith
] refl
on_most most n (d ∷ ds) = elim (leb 48 d && leb d 57) as (λ b. unwrap_or (cond b (number_on most (10 * n + (d - 48)) ds) None) 0 ≤ most) [
  | true ↦ on_most most (10 * n + (d - 48)) ds
  | false ↦ omega arith
]

in_most : (most : ℕ) (f : List ℕ) → unwrap_or (number_in most f) 0 ≤ most
in_most most [] = omega arith
in_most most (d ∷ []) = on_most most 0 (d ∷ [])
in_most most (d ∷ e ∷ ds) = elim (eqb d 48) as (λ b. unwrap_or (cond b None (number_on most 0 (d ∷ e ∷ ds))) 0 ≤ most) [
  | true ↦ omega arith
  | false ↦ on_most most 0 (d ∷ e ∷ ds)
]

row_fits : (s : Section) (c : Columns) (fs : List (List ℕ)) → Fits (enter (row_entry s c fs))
row_fits ports c fs = in_most 255 (cell_at c fs 0)
row_fits links c fs = in_most 65535 (cell_at c fs 0)
row_fits hops c fs = tt

entry_in_fits : (s : Section) (c : Columns) (n : ℕ) (fs : List (List ℕ)) (e : Entry) → entry_in s c n fs ≡ Ok e → Fits (enter e)
entry_in_fits s c n fs e = elim (eqb (length fs) c.width) as (λ b.
    cond b (elim (unreadable (columns_of s) c.at 0 fs) as (λ _. Result Entry Refusal) [ None ↦ Ok (row_entry s c fs) | Some i ↦ Err (FieldUnreadable n (i + 1)) ]) (Err (FieldCountWrong n)) ≡ Ok e
    → Fits (enter e)) [
      | true ↦ elim (unreadable (columns_of s) c.at 0 fs) as (λ o. elim o as (λ _. Result Entry Refusal) [ None ↦ Ok (row_entry s c fs) | Some i ↦ Err (FieldUnreadable n (i + 1)) ] ≡ Ok e → Fits (enter e)) [
        | None ↦ λ h. let q : row_entry s c fs ≡ e = cc in subst (λ (x : Entry). Fits (enter x)) q (row_fits s c fs)
        | Some i ↦ λ h. let z : ◌≡◌ {A = ℕ} 0 1 = cc in absurd (omega arith)
      ]
      | false ↦ λ h. let z : ◌≡◌ {A = ℕ} 0 1 = cc in absurd (omega arith)
    ]

-- ## Reading keeps the rules

abbrev Kept : Places → Records → Type 0
Kept pl r = WellFormed r × Room pl r

mark_kept : (pl : Places) (n : ℕ) (r : Records) (l : List ℕ) (t : Seen) → Kept pl r → read_mark n r l ≡ Ok t → Kept pl t.records
mark_kept pl n r l t k = elim (version_in (fields l)) as (λ o.
    elim o as (λ _. Result Seen Refusal) [ Some v ↦ cond (eqb v 1) (Ok (seen titled r)) (Err (VersionUnknown n)) | None ↦ Err (MarkMissing n) ] ≡ Ok t → Kept pl t.records) [
      | Some v ↦ elim (eqb v 1) as (λ b. cond b (Ok (seen titled r)) (Err (VersionUnknown n)) ≡ Ok t → Kept pl t.records) [
        | true ↦ λ h. let q : seen titled r ≡ t = cc in subst (λ (x : Seen). Kept pl x.records) q k
        | false ↦ λ h. let z : ◌≡◌ {A = ℕ} 0 1 = cc in absurd (omega arith)
      ]
      | None ↦ λ h. let z : ◌≡◌ {A = ℕ} 0 1 = cc in absurd (omega arith)
    ]

heading_kept : (pl : Places) (s : Section) (n : ℕ) (r : Records) (l : List ℕ) (t : Seen) → Kept pl r → read_heading s n r l ≡ Ok t → Kept pl t.records
heading_kept pl s n r l t k = elim (heading_in s (fields l)) as (λ o.
    elim o as (λ _. Result Seen Refusal) [ Some c ↦ Ok (seen (within s c) r) | None ↦ Err (HeadingWrong n) ] ≡ Ok t → Kept pl t.records) [
      | Some c ↦ λ h. let q : seen (within s c) r ≡ t = cc in subst (λ (x : Seen). Kept pl x.records) q k
      | None ↦ λ h. let z : ◌≡◌ {A = ℕ} 0 1 = cc in absurd (omega arith)
    ]

entered_kept : (pl : Places) (s : Section) (c : Columns) (n : ℕ) (r : Records) (e : Entry) (t : Seen) → Kept pl r → Fits (enter e)
    → elim (entry_ground pl r e) as (λ _. Result Seen Refusal) [ None ↦ Ok (seen (within s c) (entered r e)) | Some g ↦ Err (EntryRefused n (number g)) ] ≡ Ok t → Kept pl t.records
entered_kept pl s c n r e t k f = elim (entry_ground pl r e) as (λ o. entry_ground pl r e ≡ o
    → elim o as (λ _. Result Seen Refusal) [ None ↦ Ok (seen (within s c) (entered r e)) | Some g ↦ Err (EntryRefused n (number g)) ] ≡ Ok t → Kept pl t.records) [
      | None ↦ λ g h. let q : seen (within s c) (entered r e) ≡ t = cc in
          subst (λ (x : Seen). Kept pl x.records) q (entry_kept pl r e k.0 f g, entry_fits pl r e k.0 f k.1 g)
      | Some d ↦ λ g h. let z : ◌≡◌ {A = ℕ} 0 1 = cc in absurd (omega arith)
    ] refl

row_kept : (pl : Places) (s : Section) (c : Columns) (n : ℕ) (r : Records) (l : List ℕ) (t : Seen) → Kept pl r → read_row pl s c n r l ≡ Ok t → Kept pl t.records
row_kept pl s c n r l t k = elim (entry_in s c n (fields l)) as (λ o. entry_in s c n (fields l) ≡ o
    → elim o as (λ _. Result Seen Refusal) [
      | Ok e ↦ elim (entry_ground pl r e) as (λ _. Result Seen Refusal) [ None ↦ Ok (seen (within s c) (entered r e)) | Some g ↦ Err (EntryRefused n (number g)) ]
      | Err f ↦ Err f
    ] ≡ Ok t → Kept pl t.records) [
      | Ok e ↦ λ q. entered_kept pl s c n r e t k (entry_in_fits s c n (fields l) e q)
      | Err f ↦ λ q h. let z : ◌≡◌ {A = ℕ} 0 1 = cc in absurd (omega arith)
    ] refl

line_kept : (pl : Places) (n : ℕ) (g : Stage) (r : Records) (l : List ℕ) (t : Seen) → Kept pl r → read_line pl n g r l ≡ Ok t → Kept pl t.records
line_kept pl n begun r l t k h = mark_kept pl n r l t k h
line_kept pl n titled r l t k h = heading_kept pl ports n r l t k h
line_kept pl n (within s c) r l t k h = elim (is_heading l) as (λ b.
    cond b (elim (section_after s) as (λ _. Result Seen Refusal) [ Some u ↦ read_heading u n r l | None ↦ Err (HeadingWrong n) ]) (read_row pl s c n r l) ≡ Ok t → Kept pl t.records) [
      | true ↦ elim (section_after s) as (λ o. elim o as (λ _. Result Seen Refusal) [ Some u ↦ read_heading u n r l | None ↦ Err (HeadingWrong n) ] ≡ Ok t → Kept pl t.records) [
        | Some u ↦ heading_kept pl u n r l t k
        | None ↦ λ e. let z : ◌≡◌ {A = ℕ} 0 1 = cc in absurd (omega arith)
      ]
      | false ↦ row_kept pl s c n r l t k
    ] h

lines_kept : (pl : Places) (n : ℕ) (s : Seen) (ls : List (List ℕ)) (t : Seen) → Kept pl s.records → read_lines pl n s ls ≡ Ok t → Kept pl t.records
lines_kept pl n s [] t k h = let q : s ≡ t = cc in subst (λ (x : Seen). Kept pl x.records) q k
lines_kept pl n s (l ∷ ls) t k h = elim (read_line pl n s.stage s.records l) as (λ o. read_line pl n s.stage s.records l ≡ o
    → elim o as (λ _. Result Seen Refusal) [ Ok u ↦ read_lines pl (n + 1) u ls | Err f ↦ Err f ] ≡ Ok t → Kept pl t.records) [
      | Ok u ↦ λ q. lines_kept pl (n + 1) u ls t (line_kept pl n s.stage s.records l u k q)
      | Err f ↦ λ q e. let z : ◌≡◌ {A = ℕ} 0 1 = cc in absurd (omega arith)
    ] refl h

reading_kept : (pl : Places) (text : List ℕ) (r : Records) → reading pl text ≡ Ok r → Kept pl r
reading_kept pl text r = elim (stray 1 text) as (λ o.
    elim o as (λ _. Result Records Refusal) [ Some n ↦ Err (ByteForbidden n) | None ↦ cond (finished text) (reading_lines pl (lines text)) (Err (LineUnfinished (line_feeds text + 1))) ] ≡ Ok r → Kept pl r) [
      | Some n ↦ λ h. let z : ◌≡◌ {A = ℕ} 0 1 = cc in absurd (omega arith)
      | None ↦ elim (finished text) as (λ b. cond b (reading_lines pl (lines text)) (Err (LineUnfinished (line_feeds text + 1))) ≡ Ok r → Kept pl r) [
        | true ↦ all_lines (lines text)
        | false ↦ λ h. let z : ◌≡◌ {A = ℕ} 0 1 = cc in absurd (omega arith)
      ]
    ]
  where
    all_lines : (ls : List (List ℕ)) → reading_lines pl ls ≡ Ok r → Kept pl r
    all_lines ls = elim (read_lines pl 1 (seen begun no_records) ls) as (λ o. read_lines pl 1 (seen begun no_records) ls ≡ o
        → elim o as (λ _. Result Records Refusal) [ Ok s ↦ cond (complete s.stage) (Ok s.records) (Err (HeadingWrong (length ls + 1))) | Err f ↦ Err f ] ≡ Ok r → Kept pl r) [
          | Ok s ↦ λ q. elim (complete s.stage) as (λ b. cond b (Ok s.records) (Err (HeadingWrong (length ls + 1))) ≡ Ok r → Kept pl r) [
            | true ↦ λ h. let e : s.records ≡ r = cc in subst (Kept pl) e (lines_kept pl 1 (seen begun no_records) ls s (empty_kept, empty_fits pl) q)
            | false ↦ λ h. let z : ◌≡◌ {A = ℕ} 0 1 = cc in absurd (omega arith)
          ]
          | Err f ↦ λ q h. let z : ◌≡◌ {A = ℕ} 0 1 = cc in absurd (omega arith)
        ] refl

-- ## Calls keep the state sound

-- other records that keep the rules, and no figures
changed_sound : (pl : Places) (s : State) (r : Records) → Sound pl s → Kept pl r → Sound pl (changed s r)
changed_sound pl s r o k = record {
  same_places = o.same_places;
  well_formed = k.0;
  room = k.1;
  standing = λ v e. let z : ◌≡◌ {A = ℕ} 0 1 = cc in absurd (omega arith);
}

does_or_refuses_sound : (pl : Places) (g : Option Refusal) (s d : State) (a : Answer) (t : State)
    → Sound pl s → (g ≡ None → Sound pl d) → DoesOrRefuses g s d a t → Sound pl t
does_or_refuses_sound pl None s d a t o k h = subst (Sound pl) (sym h.1) (k refl)
does_or_refuses_sound pl (Some e) s d a t o k h = subst (Sound pl) (sym h.1) o

reads_sound : (pl : Places) (x : Result Records Refusal) (s : State) (a : Answer) (t : State)
    → Sound pl s → ((r : Records) → x ≡ Ok r → Kept pl r) → Reads x s a t → Sound pl t
reads_sound pl (Ok r) s a t o k h = subst (Sound pl) (sym h.1) (changed_sound pl s r o (k r refl))
reads_sound pl (Err e) s a t o k h = subst (Sound pl) (sym h.1) (changed_sound pl s no_records o (empty_kept, empty_fits pl))

worked_sound : (pl : Places) (s : State) (m : Method) (n : ℕ) (u : Outcome) → Sound pl s → WorksOut s.records m.worth n u → Sound pl (worked s m n u)
worked_sound pl s m n settles o w = record {
  same_places = o.same_places;
  well_formed = o.well_formed;
  room = o.room;
  standing = λ v e. let q : record { method = m; places = n } ≡ v = cc in
      subst (λ (x : Served). WorksOut s.records x.method.worth x.places settles) q w;
}
worked_sound pl s m n short o w = changed_sound pl s s.records o (o.well_formed, o.room)
worked_sound pl s m n (overloaded p) o w = changed_sound pl s s.records o (o.well_formed, o.room)
worked_sound pl s m n (ring p) o w = changed_sound pl s s.records o (o.well_formed, o.room)
worked_sound pl s m n (past p) o w = changed_sound pl s s.records o (o.well_formed, o.room)

does_sound : (pl : Places) (s : State) (c : Call) (a : Answer) (t : State) → Sound pl s → Fits c → Does s c a t → Sound pl t
does_sound pl s (enter e) a t o f h =
    let at = λ (g : entry_ground s.places s.records e ≡ None). subst (λ (x : Places). entry_ground x s.records e ≡ None) o.same_places g in
    does_or_refuses_sound pl (entry_ground s.places s.records e) s (changed s (entered s.records e)) a t o
    (λ g. changed_sound pl s (entered s.records e) o
    (entry_kept pl s.records e o.well_formed f (at g), entry_fits pl s.records e o.well_formed f o.room (at g))) h
does_sound pl s (remove_link l) a t o f h =
    does_or_refuses_sound pl (removal_ground s.records l) s (changed s (removed s.records l)) a t o
    (λ g. changed_sound pl s (removed s.records l) o (removal_kept s.records l o.well_formed, removal_fits pl s.records l o.room)) h
does_sound pl s clear a t o f h = subst (Sound pl) (sym h.1) (changed_sound pl s no_records o (empty_kept, empty_fits pl))
does_sound pl s (read text) a t o f h = elim (is_empty s.records) as (λ b.
    elim b as (λ _. Type 0) [ true ↦ Reads (reading s.places text) s a t | false ↦ (a ≡ refused BookNotEmpty) × (t ≡ s) ] → Sound pl t) [
      | true ↦ reads_sound pl (reading s.places text) s a t o
          (λ r e. reading_kept pl text r (subst (λ (x : Places). reading x text ≡ Ok r) o.same_places e))
      | false ↦ λ k. subst (Sound pl) (sym k.1) o
    ] h
does_sound pl s (work_out m n) a t o f h = subst (Sound pl) (sym h.3) (worked_sound pl s m n h.0 o h.1)
does_sound pl s (port_figures p) a t o f h = subst (Sound pl) (sym h.1) o
does_sound pl s (hop_figures l p) a t o f h = subst (Sound pl) (sym h.1) o
does_sound pl s (delay_of l) a t o f h = subst (Sound pl) (sym h.1) o
does_sound pl s (write n) a t o f h = subst (Sound pl) (sym h.1) o
does_sound pl s (list n) a t o f h = subst (Sound pl) (sym h.1) o
does_sound pl s count_ports a t o f h = subst (Sound pl) (sym h.1) o
does_sound pl s count_links a t o f h = subst (Sound pl) (sym h.1) o
does_sound pl s count_hops a t o f h = subst (Sound pl) (sym h.1) o
does_sound pl s (port_at i) a t o f h = subst (Sound pl) (sym h.1) o
does_sound pl s (link_at i) a t o f h = subst (Sound pl) (sym h.1) o
does_sound pl s (hop_at i) a t o f h = subst (Sound pl) (sym h.1) o

pub runs_sound : (pl : Places) (s : State) (cs : List Call) (as' : List Answer) (t : State) → Sound pl s → Runs s cs as' t → Sound pl t
runs_sound pl s [] [] t o h = subst (Sound pl) (sym h) o
runs_sound pl s [] (a ∷ as') t o h = absurd h
runs_sound pl s (c ∷ cs) [] t o h = absurd h
runs_sound pl s (c ∷ cs) (a ∷ as') t o h =
    runs_sound pl h.0 cs as' t (does_sound pl s c a h.0 o h.1.fits h.1.does) h.2

pub every_run_is_sound : EveryRunIsSound
every_run_is_sound pl cs as' t h =
    runs_sound pl (opened pl) cs as' t
    (record {
      same_places = refl;
      well_formed = empty_kept;
      room = empty_fits pl;
      standing = λ v e. let z : ◌≡◌ {A = ℕ} 0 1 = cc in absurd (omega arith);
    }) h

-- one call more
pub runs_push : (s : State) (cs : List Call) (as' : List Answer) (m : State) (c : Call) (a : Answer) (t : State)
    → Runs s cs as' m → After m c a t → Runs s (cs ++ (c ∷ [])) (as' ++ (a ∷ [])) t
runs_push s [] [] m c a t e h = (t, subst (λ (x : State). After x c a t) e h, refl)
runs_push s [] (b ∷ as') m c a t e h = absurd e
runs_push s (d ∷ cs) [] m c a t e h = absurd e
runs_push s (d ∷ cs) (b ∷ as') m c a t e h = (e.0, e.1, runs_push e.0 cs as' m c a t e.2 h)
